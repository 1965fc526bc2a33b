-- The ranges of each kind of record's fields, where there are n partitions and the next port has the direction d.
use Rattle.std.specs.Prelude.{◌≡◌, ℕ, ◌^◌, ◌<◌, false, length}
use Rattle.tables.specs.Laws.{In}
use Rattle.tables.specs.Bits.{has_bit}
use Rattle.vector.specs.Fields.{deepest}
use Rattle.vector.specs.Bodies.{Said, header, partition, plan, slot, channel, port, ipvi, line, action}
use Rattle.vector.specs.declared.kind.Kind.{Kind}
use Rattle.vector.specs.declared.kind.Kind.TheVariants as kinds
use Rattle.tables.specs.declared.response.Scope.{Scope}
use Rattle.tables.specs.declared.response.Scope.TheVariants.{Partition, System}
use Rattle.tables.specs.declared.response.Action.{Action}
use Rattle.tables.specs.declared.response.Action.TheVariants.{Signal, Suspend}
use Rattle.tables.specs.declared.port.Direction.{Direction}

-- the kind of what is said
abbrev pub kind_said : Said → Kind
kind_said (header n m) = kinds.Header
kind_said (partition c z n) = kinds.Partition
kind_said (plan f) = kinds.Plan
kind_said (slot p b d) = kinds.Slot
kind_said (channel k l d) = kinds.Channel
kind_said (port p d n) = kinds.Port
kind_said (ipvi n p m) = kinds.Ipvi
kind_said (line l p) = kinds.Line
kind_said (action s e a l) = kinds.Action

-- a mask of the n partitions, and not of the source
abbrev pub Mask : ℕ → ℕ → ℕ → Type 0
Mask n source mask = (mask < 2 ^ n) × (has_bit mask source ≡ false)

-- one of the n partitions with an event of 0 to 7, or the system with one of 8 to 11
abbrev pub EventIn : ℕ → Scope → ℕ → Type 0
EventIn n (Partition p) e = (p < n) × In 0 7 e
EventIn n System e = In 8 11 e

-- the system is neither signalled nor suspended
abbrev pub Allows : Scope → Action → Type 0
Allows (Partition p) a = Unit {0}
Allows System Signal = ⊥
Allows System Suspend = ⊥
Allows System a = Unit {0}

abbrev pub Ranged : ℕ → Direction → Said → Type 0
Ranged n d (header p m) = In 1 8 p × In 1 4 m
Ranged n d (partition c z x) = In 1 1024 z × In 1 16 (length x.bytes)
Ranged n d (plan f) = In 1 1000000 f
Ranged n d (slot p b e) = (p < n) × In 0 999999 b × In 1 1000000 e
Ranged n d (channel k l e) = In 1 64 l × In 1 (deepest k) e
Ranged n d (port p f x) = (p < n) × (f ≡ d) × In 1 16 (length x.bytes)
Ranged n d (ipvi i p m) = In 0 7 i × (p < n) × Mask n p m
Ranged n d (line l p) = In 0 15 l × (p < n)
Ranged n d (action s e a l) = EventIn n s e × Allows s a
