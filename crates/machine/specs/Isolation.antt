-- Isolation: what a partition is answered, and what it looks like, does not depend on the outsiders of its circle.
use Rattle.std.specs.Prelude.{◌≡◌, ℕ, Bool, true, false, cond, List, [], ◌∷◌, length, Some, None, Option, nat_lt, slice_index_or}
use Rattle.board.specs.Areas.{Area, area}
use Rattle.tables.specs.declared.Tables.{Tables}
use Rattle.machine.specs.declared.partition.Partition.{Partition}
use Rattle.machine.specs.declared.clock.Clock.{Clock}
use Rattle.machine.specs.declared.event.Event.{Event}
use Rattle.machine.specs.declared.event.Event.TheVariants.{Tick, Call, Load, Store, Fault, Line, SystemFault}
use Rattle.machine.specs.declared.answer.Reply.{Reply}
use Rattle.machine.specs.Partitions.{nobody}
use Rattle.machine.specs.Questions.{exists, is_system, names, owner}
use Rattle.machine.specs.State.{State}
use Rattle.machine.specs.Step.{step, boot, fits}
use Rattle.machine.specs.Circle.{Circle}

-- a partition of the vector, by its number
abbrev pub existing : Tables → ℕ → Option ℕ
existing k q = cond (exists k q) (Some q) None

-- whose event it is: the partition's that it names, or the line's owner's; else nobody's. Each sort has a line of its own,
-- so that a new one does not slip in as nobody's
abbrev pub whose : Tables → Event → Option ℕ
whose k (Tick t) = None
whose k (Call q n g) = existing k q
whose k (Load q o) = existing k q
whose k (Store q v o) = existing k q
whose k (Fault q e) = existing k q
whose k (Line l) = cond (nat_lt l 16) (owner k l) None
whose k (SystemFault e) = None

abbrev pub is_of : Tables → ℕ → Event → Bool
is_of k p e = names (whose k e) p

-- nobody's events and the members' are kept
abbrev pub stays : (ℕ → Bool) → Option ℕ → Bool
stays M None = true
stays M (Some q) = M q

abbrev pub kept : Tables → (ℕ → Bool) → Event → Bool
kept k M e = stays M (whose k e)

-- a history without the outsiders' events
abbrev pub strike : Tables → (ℕ → Bool) → List Event → List Event
strike k M [] = []
strike k M (e ∷ es) = cond (kept k M e) (e ∷ strike k M es) (strike k M es)

-- what p looks like: its area, its state, interrupt words and open ports; and the plan position
pub record Sight : Type 0 where
  pub bytes : Area
  pub part : Partition
  pub clock : Clock
  pub halted : Bool

abbrev pub sight : ℕ → State → Sight
sight p s =
    record { bytes = area s.areas p; part = slice_index_or s.core.parts p nobody; clock = s.core.clock; halted = s.core.halted }

-- the answers to the events of p, in their order
abbrev pub answers_to : ℕ → Tables → State → List Event → List Reply
answers_to p k s [] = []
answers_to p k s (e ∷ es) =
    cond (is_of k p e) ((step k s e).reply ∷ answers_to p k (step k s e).state es) (answers_to p k (step k s e).state es)

-- what p looks like after each kept event, and at the end
abbrev pub sights : ℕ → (ℕ → Bool) → Tables → State → List Event → List Sight
sights p M k s [] = sight p s ∷ []
sights p M k s (e ∷ es) =
    cond (kept k M e) (sight p (step k s e).state ∷ sights p M k (step k s e).state es) (sights p M k (step k s e).state es)

-- all of a run that counts as p's own
pub record Sheet : Type 0 where
  pub told : List Reply
  pub seen : List Sight

abbrev pub sheet : ℕ → (ℕ → Bool) → Tables → State → List Event → Sheet
sheet p M k s h = record { told = answers_to p k s h; seen = sight p s ∷ sights p M k s h }

-- each standard partition's sheet is the same in every run that agrees with this one inside its circle
abbrev pub Isolated : Tables → List Area → List Event → Type 0
Isolated k ms h =
    (p : ℕ) → exists k p ≡ true → is_system k p ≡ false → (M : ℕ → Bool) → Circle k p M →
    (ns : List Area) → length ms ≡ length ns → fits k ms ≡ true → fits k ns ≡ true →
    ((q : ℕ) → M q ≡ true → area ms q ≡ area ns q) →
    (i : List Event) → strike k M h ≡ strike k M i →
    sheet p M k (boot k ms) h ≡ sheet p M k (boot k ns) i
