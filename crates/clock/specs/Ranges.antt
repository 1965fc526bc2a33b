-- Waking at a stroke: by the slots that start within a range of offsets.
use Rattle.std.specs.Prelude.{ℕ, ◌+◌, Bool, false, cond, ◌&&◌, ◌||◌, List, [], ◌∷◌, ◌==◌, nat_le, nat_lt}
use Rattle.tables.specs.declared.plan.Slot.{Slot}
use Rattle.tables.specs.Tables.{Offset}
use Rattle.machine.specs.declared.partition.Partition.{Partition}
use Rattle.machine.specs.Partitions.{is_idle, slot_started}
use Rattle.machine.specs.Time.{each_from, Time}

-- is the partition idle
abbrev pub sleeps : Partition → Bool
sleeps p = is_idle p.status

-- does the offset o lie within lo..hi
abbrev pub within : Offset → Offset → Offset → Bool
within lo hi o = nat_le lo o && nat_lt o hi

-- is it a slot of the partition q that starts within lo..hi
abbrev pub begins : Slot → Offset → Offset → ℕ → Bool
begins s lo hi q = s.partition == q && within lo hi s.start

-- has the partition q a slot that starts within lo..hi
unfoldable pub starts : List Slot → Offset → Offset → ℕ → Bool
starts [] lo hi q = false
starts (s ∷ ss) lo hi q = begins s lo hi q || starts ss lo hi q

abbrev pub wakes_in : List Slot → Offset → Offset → ℕ → Partition → Partition
wakes_in ss lo hi q p = cond (starts ss lo hi q) (slot_started p) p

-- each partition with a slot that starts within lo..hi, its slot started
unfoldable pub wake : List Slot → Offset → Offset → List Partition → List Partition
wake ss lo hi qs = each_from (wakes_in ss lo hi) 0 qs

-- r microseconds after a frame began, one frame of this length following another, the offsets below this one have come:
-- after a whole frame, all of them
abbrev pub upto : Time → Offset → Offset
upto r frame = cond (nat_lt r frame) (r + 1) frame
