-- Which kind of record may come next, and what is owed at the end.
use Rattle.std.specs.Prelude.{ℕ, Bool, true, false, cond, ◌&&◌, ◌||◌, List, [], ◌∷◌, Some, None, Option, ◌==◌, nat_le, nat_lt}
use Rattle.vector.specs.Reasons.{out_of_turn, owed}
use Rattle.vector.specs.Out.{Out, fine, bad}
use Rattle.tables.specs.Rows.{open_channel}
use Rattle.vector.specs.declared.kind.Kind.{Kind}
use Rattle.vector.specs.declared.kind.Kind.TheVariants.{Header, Partition, Plan, Slot, Channel, Port, Ipvi, Line, Action}
use Rattle.vector.specs.declared.sofar.Sofar.{Sofar}

-- the number of each kind
abbrev pub kind_number : Kind → ℕ
kind_number Header = 1
kind_number Partition = 2
kind_number Plan = 3
kind_number Slot = 4
kind_number Channel = 5
kind_number Port = 6
kind_number Ipvi = 7
kind_number Line = 8
kind_number Action = 9

abbrev pub is_in : Kind → List Kind → Bool
is_in k [] = false
is_in k (j ∷ js) = kind_number k == kind_number j || is_in k js

-- the header comes first, and nothing else does
abbrev pub leads : Kind → Bool
leads k = kind_number k == 1

-- the kinds that each kind may stand right after
abbrev pub before : Kind → List Kind
before Header = []
before Partition = Header ∷ Partition ∷ []
before Plan = Partition ∷ Slot ∷ []
before Slot = Plan ∷ Slot ∷ []
before Channel = Slot ∷ Port ∷ []
before Port = Channel ∷ Port ∷ []
before Ipvi = Slot ∷ Port ∷ Ipvi ∷ []
before Line = Slot ∷ Port ∷ Ipvi ∷ Line ∷ []
before Action = Slot ∷ Port ∷ Ipvi ∷ Line ∷ Action ∷ []

-- a record of this kind may stand after the last one
abbrev pub follows : Kind → Option Kind → Bool
follows k None = leads k
follows k (Some last) = is_in last (before k)

-- all partitions that the header promised are there
abbrev pub has_partitions : Sofar → Bool
has_partitions s = s.tables.partitions.count == s.partitions

-- all plans that the header promised are there
abbrev pub has_plans : Sofar → Bool
has_plans s = s.tables.plans.count == s.plans

-- the last channel, if there is one, has two ports or more
abbrev pub has_ports : Sofar → Bool
has_ports s = s.tables.channels.count == 0 || nat_le 2 (open_channel s.tables).ports

-- what has to be there before each kind: a partition comes while the header promised more; a plan when all partitions
-- are there, while the header promised more; a slot when there is a plan; a port when there is a channel; the others
-- when all plans are there, and two ports of the last channel
abbrev pub ready : Kind → Sofar → Bool
ready Header s = true
ready Partition s = nat_lt s.tables.partitions.count s.partitions
ready Plan s = has_partitions s && nat_lt s.tables.plans.count s.plans
ready Slot s = nat_le 1 s.tables.plans.count
ready Channel s = has_plans s && has_ports s
ready Port s = nat_le 1 s.tables.channels.count
ready Ipvi s = has_plans s && has_ports s
ready Line s = has_plans s && has_ports s
ready Action s = has_plans s && has_ports s

abbrev pub in_turn : Kind → Sofar → Bool
in_turn k s = follows k s.last && ready k s

abbrev pub turned : ℕ → Kind → Sofar → Out (Unit {0})
turned at k s = cond (in_turn k s) (fine tt) (bad (out_of_turn at))

-- the kinds that may be the last
abbrev pub ends : Option Kind → Bool
ends None = false
ends (Some last) = is_in last (Slot ∷ Port ∷ Ipvi ∷ Line ∷ Action ∷ [])

-- nothing more is owed: all partitions and plans are there, the last plan has a slot, and the last channel two ports
abbrev pub settled : Sofar → Bool
settled s = ends s.last && (has_partitions s && (has_plans s && has_ports s))

-- the end of the bytes
abbrev pub ending : ℕ → Sofar → Out Sofar
ending at s = cond (settled s) (fine s) (bad (owed at))
