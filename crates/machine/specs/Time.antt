-- How time passes: microsecond by microsecond.
use Rattle.std.specs.Prelude.{ℕ, zero, suc, ◌+◌, ◌-◌, Bool, false, cond, ◌&&◌, ◌||◌, List, [], ◌∷◌, ◌==◌, slice_index_or}
use Rattle.tables.specs.Tables.{Plans, Offset}
use Rattle.tables.specs.declared.plan.Plan.{Plan}
use Rattle.tables.specs.declared.plan.Slot.{Slot}
use Rattle.tables.specs.Blank.{plan0}
use Rattle.machine.specs.declared.clock.Clock.{Clock}
use Rattle.machine.specs.declared.partition.Partition.{Partition}
use Rattle.machine.specs.Partitions.{slot_started}
use Rattle.machine.specs.Questions.{slots_of}

-- a time or a length of time, in microseconds
abbrev pub Time : Type 0
Time = ℕ

-- a tick may lie this far ahead at most
abbrev pub farthest : Time
farthest = 1000000

-- what time changes: the plan position, and partitions that wake
pub record Timed : Type 0 where
  pub clock : Clock
  pub parts : List Partition

abbrev pub plan_at : Plans → ℕ → Plan
plan_at ps i = slice_index_or ps.rows i plan0

abbrev pub clock_of : Time → ℕ → ℕ → Time → Clock
clock_of t p n f = record { time = t; plan = p; next = n; start = f }

abbrev pub timed : Clock → List Partition → Timed
timed c qs = record { clock = c; parts = qs }

-- the clock goes on by one; where the frame is over, the next plan begins a frame
unfoldable pub rolled : Plans → Clock → Clock
rolled ps c =
    cond (c.time + 1 - c.start == (plan_at ps c.plan).frame)
    (record c { time = c.time + 1; plan = c.next; start = c.time + 1 })
    (record c { time = c.time + 1 })

-- has the partition q a slot that starts at the offset o
unfoldable pub due_at : List Slot → ℕ → Offset → Bool
due_at [] q o = false
due_at (s ∷ ss) q o = (s.partition == q && s.start == o) || due_at ss q o

-- each partition by a function of its number and itself, the first one's number being i
unfoldable pub each_from : (ℕ → Partition → Partition) → ℕ → List Partition → List Partition
each_from f i [] = []
each_from f i (p ∷ ps) = f i p ∷ each_from f (i + 1) ps

abbrev pub wakes : List Slot → Offset → ℕ → Partition → Partition
wakes ss o q p = cond (due_at ss q o) (slot_started p) p

-- each partition with a slot that starts at the offset o, its slot started
unfoldable pub wake_at : List Slot → Offset → List Partition → List Partition
wake_at ss o qs = each_from (wakes ss o) 0 qs

-- then who is due wakes
unfoldable pub micro : Plans → Timed → Timed
micro ps x =
    timed (rolled ps x.clock)
    (wake_at (slots_of (plan_at ps (rolled ps x.clock).plan)) ((rolled ps x.clock).time - (rolled ps x.clock).start) x.parts)

-- n microseconds
unfoldable pub micros : Plans → ℕ → Timed → Timed
micros ps zero x = x
micros ps (suc n) x = micros ps n (micro ps x)
