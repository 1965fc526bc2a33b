-- For how long nothing changes on the processor: no slot starts or ends.
use Rattle.std.specs.Prelude.{◌≡◌, ℕ, suc, ◌-◌, ◌<◌, ◌≤◌, min, Bool, false, cond, ◌||◌, List, [], ◌∷◌, None, ◌==◌, length, if◌then◌else◌, nat_lt, nat_le, slice_index_or}
use Rattle.tables.specs.declared.Tables.{Tables}
use Rattle.tables.specs.Tables.{Plans, Offset}
use Rattle.tables.specs.declared.plan.Plan.{Plan}
use Rattle.tables.specs.declared.plan.Slot.{Slot}
use Rattle.tables.specs.Blank.{slot0}
use Rattle.tables.specs.Rows.{slot_end}
use Rattle.machine.specs.declared.clock.Clock.{Clock}
use Rattle.machine.specs.Questions.{plan, slots_of, holder}
use Rattle.machine.specs.Time.{plan_at}
use Rattle.config.specs.declared.turn.Turn.{Turn}

-- does one of the slots start or end at this offset of the frame
unfoldable pub edges : List Slot → Offset → Bool
edges [] x = false
edges (s ∷ ss) x = (s.start == x || slot_end s == x) || edges ss x

-- after the offset o and before u none does
abbrev pub Calm : List Slot → Offset → Offset → Type 0
Calm ss o u = (x : Offset) → o < x → x < u → edges ss x ≡ false

-- the first offset after o at which the slot starts or ends, where it is before u; else u
abbrev pub edge : Slot → Offset → Offset → Offset
edge s o u = cond (nat_lt o s.start) (min u s.start) (cond (nat_lt o (slot_end s)) (min u (slot_end s)) u)

-- .. at which any slot does
unfoldable pub first_edge : List Slot → Offset → Offset → Offset
first_edge [] o u = u
first_edge (s ∷ ss) o u = first_edge ss o (edge s o u)

-- how many slots have ended by the offset o: they are in order, so it is the first ones
unfoldable pub ended : List Slot → Offset → ℕ
ended [] o = 0
ended (s ∷ ss) o = cond (nat_le (slot_end s) o) (suc (ended ss o)) 0

-- the first n slots have ended by the offset o
pub record Past (ss : List Slot) (o : Offset) (n : ℕ) : Type 0 where
  pub there : n ≤ length ss
  pub ended : (j : ℕ) → j < n → slot_end (slice_index_or ss j slot0) ≤ o

-- whose slot runs at the offset o, where that may change, and the first slot that has not ended
abbrev pub turn_of : Plan → Offset → Turn
turn_of p o = record { holder = holder (slots_of p) o; until = first_edge (slots_of p) o p.frame; slot = ended (slots_of p) o }

-- nobody's turn, which changes at once
abbrev pub no_turn : Turn
no_turn = record { holder = None; until = 0; slot = 0 }

-- the turn at the offset o of the plan of a number; past the last plan it is nobody's
abbrev pub turn_at : Tables → ℕ → Offset → Turn
turn_at k p o = if nat_lt p k.plans.count then turn_of (plan k p) o else no_turn

-- the turn is right at the offset o, and up to its end
pub record Turned (p : Plan) (o : Offset) (t : Turn) : Type 0 where
  pub holder : t.holder ≡ holder (slots_of p) o
  pub calm : Calm (slots_of p) o t.until
  pub within : t.until ≤ p.frame
  pub past : Past (slots_of p) o t.slot

-- the turn is right now: by the clock, in the plan in force
abbrev pub Current : Plans → Clock → Turn → Type 0
Current ps c t = Turned (plan_at ps c.plan) (c.time - c.start) t
