-- What the core promises of isolation and integrity: the machine's statements, of this very run.
use Rattle.std.specs.Prelude.{◌≡◌, ℕ, Bool, true, false, cond, List, [], ◌∷◌, length, negsuc, ◌≢◌}
use Rattle.board.specs.Areas.{area, Area}
use Rattle.tables.specs.declared.Tables.{Tables}
use Rattle.tables.specs.Names.{any}
use Rattle.vector.specs.Reading.{tables}
use Rattle.machine.specs.declared.event.Event.{Event}
use Rattle.machine.specs.declared.event.Exchange.{Exchange}
use Rattle.machine.specs.declared.answer.Reply.{Reply}
use Rattle.machine.specs.Questions.{exists, is_system}
use Rattle.machine.specs.State.{Core, State}
use Rattle.machine.specs.Step.{boot, fits, running}
use Rattle.machine.specs.Laws.{Bounded, PlansThere, Absent, Single, Scheduled, Served, Steady, replans}
use Rattle.kernel.specs.World.{World, ended, world_of}
use Rattle.kernel.specs.declared.system.System.{System}
use Rattle.machine.specs.Runs.{Line, after, events_of, lines, lines_of}
use Rattle.machine.specs.Circle.{Circle}
use Rattle.machine.specs.Isolation.{strike, is_of, sight, answers_to, sheet}
use Rattle.machine.specs.Integrity.{is_cold_reset, reaches}

-- of the lines of a history, the answers to the events of p
abbrev pub picked : Tables → ℕ → List Line → List Reply
picked k p [] = []
picked k p (l ∷ ls) = cond (is_of k p l.event) (l.reply ∷ picked k p ls) (picked k p ls)

-- A run of the history h on the areas ms gave the lines ls and ended in the state s.
-- For each standard partition p, and each run of a history i, on any areas ns that fit, that agrees with it inside p's circle:
-- p was given the same answers, looks the same at the end, and the sheets of the two runs are the same.
abbrev pub Isolating : Tables → List Area → List Event → List Line → State → Type 0
Isolating k ms h ls s =
    (p : ℕ) → exists k p ≡ true → is_system k p ≡ false → (M : ℕ → Bool) → Circle k p M →
    (ns : List Area) → length ms ≡ length ns → fits k ms ≡ true → fits k ns ≡ true →
    ((q : ℕ) → M q ≡ true → area ms q ≡ area ns q) →
    (i : List Event) → strike k M h ≡ strike k M i →
    (picked k p ls ≡ answers_to p k (boot k ns) i)
    × (sight p s ≡ sight p (after k (boot k ns) i))
    × (sheet p M k (boot k ms) h ≡ sheet p M k (boot k ns) i)

-- an event of partition q that found the areas ms and left ns: every area but q's own is as it was,
-- save after a system partition's cold reset
abbrev pub Apart : Tables → Event → List Area → List Area → Type 0
Apart k e ms ns = (q r : ℕ) → is_of k q e ≡ true → is_cold_reset k e ≡ false → (r ≢ q) → area ns r ≡ area ms r

-- an event that was refused left everything as it was, the areas too
abbrev pub Unmoved : Reply → World → World → Type 0
Unmoved r w v = (n : ℕ) → r.code ≡ negsuc n → v ≡ w

-- an event left the plan as it was, unless a frame ended or the system was reset
abbrev pub Planned : Event → World → World → Type 0
Planned e w v = replans w.tables w.state e ≡ false → v.state.core.clock.plan ≡ w.state.core.clock.plan

-- what every event of a run keeps, this event kept
abbrev pub Lasting : World → World → Type 0
Lasting w v = Steady w.tables w.state.core → Steady v.tables v.state.core

-- what holds of every system that was run: nothing is pending for a HALTED partition, and nothing that its mask does not hide for an
-- IDLE one; open ports are the partition's own; log and channels keep within their bounds; both plans are the vector's; a partition that
-- the vector does not have is as the boot left it; and at most one partition is on the processor: the READY one whose slot runs
pub record Lawful (k : Tables) (x : Core) : Type 0 where
  pub bounded : Bounded k x
  pub plans : PlansThere k x
  pub absent : Absent k x
  pub single : Single k x
  pub scheduled : (q : ℕ) → running k x q ≡ true → Scheduled k x q
  pub served : Served k x

-- a history that found the areas ms and left ns: an area that none of its events reaches is as it was
abbrev pub Preserving : Tables → List Event → List Area → List Area → Type 0
Preserving k h ms ns = (r : ℕ) → any (reaches k r) h ≡ false → area ns r ≡ area ms r

-- A run of the exchanges h on the board b, by the vector of the bytes bs, which gave them their answers, so that they are the
-- exchanges g, and ended in the system s. A board's areas are `m` of it.
module _ {B : Type 0} (m : B → List Area) (bs : List ℕ) (b : B) (h : List Exchange) where
  -- it ends where the machine's does
  abbrev pub Ends : System B → Type 0
  Ends s = world_of m s ≡ ended (tables bs) (m b) (events_of h)

  -- the answers are the machine's
  abbrev pub Tells : List Exchange → Type 0
  Tells g = lines_of g ≡ lines (tables bs) (boot (tables bs) (m b)) (events_of h)

  -- no standard partition was reached from outside its circle
  abbrev pub Isolates : List Exchange → System B → Type 0
  Isolates g s = Isolating (tables bs) (m b) (events_of h) (lines_of g) (world_of m s).state

  -- the areas that no event reaches are as they were
  abbrev pub Preserves : System B → Type 0
  Preserves s = Preserving (tables bs) (events_of h) (m b) (m s.board)

  -- what a run is, and that it keeps what every run keeps
  pub record Ran (g : List Exchange) (s : System B) : Type 0 where
    pub ends : Ends s
    pub told : Tells g
    pub isolated : Isolates g s
    pub preserved : Preserves s
    pub lawful : Lawful (tables bs) (world_of m s).state.core
