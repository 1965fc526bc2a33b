-- What the machine asks of the vector's tables.
use Rattle.std.specs.Prelude.{ℕ, zero, suc, ◌+◌, Bool, true, false, cond, not, ◌&&◌, ◌||◌, List, [], ◌∷◌, take, Some, None, Option, ◌==◌, nat_le, nat_lt, slice_index_or}
use Rattle.tables.specs.declared.Tables.{Tables}
use Rattle.tables.specs.declared.partition.PartitionRow.{PartitionRow}
use Rattle.tables.specs.declared.plan.Plan.{Plan}
use Rattle.tables.specs.declared.plan.Slot.{Slot}
use Rattle.tables.specs.declared.response.Response.{Response}
use Rattle.tables.specs.declared.partition.Class.{Class}
use Rattle.tables.specs.declared.partition.Class.TheVariants.{Standard, System}
use Rattle.tables.specs.declared.channel.ChannelKind.{ChannelKind}
use Rattle.tables.specs.declared.channel.ChannelKind.TheVariants.{Sampling, Queuing}
use Rattle.tables.specs.declared.channel.Channel.{Channel}
use Rattle.tables.specs.declared.port.Direction.{Direction}
use Rattle.tables.specs.declared.port.Direction.TheVariants.{Source, Destination}
use Rattle.tables.specs.declared.port.Port.{Port}
use Rattle.tables.specs.declared.name.Name.{Name}
use Rattle.tables.specs.Names.{same_name}
use Rattle.tables.specs.Blank.{row0, response0}
use Rattle.tables.specs.Laws.{plan_at}
use Rattle.tables.specs.Fair.{port_at, channel_at}
use Rattle.tables.specs.Tables.{Offset}

-- has the vector a partition of this number
abbrev pub exists : Tables → ℕ → Bool
exists k q = nat_lt q k.partitions.count

abbrev pub row : Tables → ℕ → PartitionRow
row k q = slice_index_or k.partitions.rows q row0

abbrev pub plan : Tables → ℕ → Plan
plan k i = plan_at i k

abbrev pub slots_of : Plan → List Slot
slots_of p = take p.slots.count p.slots.rows

-- does the slot run at this offset of the frame
abbrev pub covers : Slot → Offset → Bool
covers s o = nat_le s.start o && nat_lt o (s.start + s.duration)

-- the partition whose slot runs at this offset of the frame, or nobody
unfoldable pub holder : List Slot → Offset → Option ℕ
holder [] o = None
holder (s ∷ ss) o = cond (covers s o) (Some s.partition) (holder ss o)

abbrev pub names : Option ℕ → ℕ → Bool
names None q = false
names (Some p) q = p == q

abbrev pub is_system_class : Class → Bool
is_system_class Standard = false
is_system_class System = true

abbrev pub is_system : Tables → ℕ → Bool
is_system k q = is_system_class (row k q).class

-- a system partition may manage every partition, a standard one itself
abbrev pub manages : Tables → ℕ → ℕ → Bool
manages k q t = is_system k q || t == q

-- what the health monitor does at a partition's event
abbrev pub response : Tables → ℕ → ℕ → Response
response k q e = slice_index_or (row k q).responses e response0

-- the mask of the link that raises the IPVI n of q; 0 where there is none
abbrev pub mask_of : Option ℕ → ℕ
mask_of None = 0
mask_of (Some m) = m

abbrev pub link : Tables → ℕ → ℕ → ℕ
link k q n = mask_of (slice_index_or (row k q).links n None)

-- who owns a line
abbrev pub owner : Tables → ℕ → Option ℕ
owner k l = slice_index_or k.lines l None

abbrev pub port : Tables → ℕ → Port
port k i = port_at k i

-- the channel of a port
abbrev pub channel_of : Tables → ℕ → ℕ
channel_of k i = (port k i).channel

abbrev pub channel : Tables → ℕ → Channel
channel k i = channel_at k i

abbrev pub is_source : Direction → Bool
is_source Source = true
is_source Destination = false

abbrev pub same_kind : ChannelKind → ChannelKind → Bool
same_kind Sampling Sampling = true
same_kind Sampling Queuing = false
same_kind Queuing Sampling = false
same_kind Queuing Queuing = true

-- is i a port of q on a channel of this type
abbrev pub owns : Tables → ℕ → ChannelKind → ℕ → Bool
owns k q t i = nat_lt i k.ports.count && ((port k i).partition == q && same_kind (channel k i).kind t)

-- is port i a destination of channel c
abbrev pub hears : Tables → ℕ → ℕ → Bool
hears k c i = channel_of k i == c && not (is_source (port k i).direction)

-- the number of q's port of this type and name, or none
unfoldable pub named : Tables → ℕ → ChannelKind → Name → ℕ → Option ℕ
named k q t n zero = None
named k q t n (suc i) = cond (owns k q t i && same_name (port k i).name n) (Some i) (named k q t n i)
