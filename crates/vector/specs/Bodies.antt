-- What each kind of record says, field by field from the left; `at` is the place of the body's first byte.
use Rattle.std.specs.Prelude.{ℕ, ◌+◌, ◌*◌, Bool, cond, List, drop, ◌==◌, slice_index}
use Rattle.vector.specs.Out.{Out, fine, then, pass}
use Rattle.frame.specs.Frames.{word16}
use Rattle.vector.specs.Fields.{within, existing, class_of, channel_kind_of, deepest, directed, masked, scope_of, event_of, action_of, flag_of}
use Rattle.tables.specs.Rows.{open_channel}
use Rattle.vector.specs.declared.record.NameIn.{NameIn}
use Rattle.vector.specs.declared.record.Record.{Record}
use Rattle.vector.specs.declared.record.Record.TheVariants as records
use Rattle.vector.specs.declared.kind.Kind.{Kind}
use Rattle.vector.specs.declared.kind.Kind.TheVariants.{Header, Partition, Plan, Slot, Channel, Port, Ipvi, Line, Action}
use Rattle.tables.specs.declared.response.Scope.{Scope}
use Rattle.vector.specs.declared.sofar.Sofar.{Sofar}
use Rattle.tables.specs.declared.response.Action as actions
use Rattle.tables.specs.declared.channel.ChannelKind.{ChannelKind}
use Rattle.tables.specs.declared.partition.Class.{Class}
use Rattle.tables.specs.declared.port.Direction.{Direction}
use Rattle.tables.specs.declared.port.Direction.TheVariants.{Source, Destination}
use Rattle.tables.specs.declared.Tables.{Tables}

-- four bytes from i on, the low one first
abbrev pub word32 : List ℕ → ℕ → ℕ
word32 bs i = word16 bs i + 65536 * word16 bs (i + 2)

-- a name, and the place of its first byte
pub record NameAt : Type 0 where
  pub at : ℕ
  pub bytes : List ℕ

-- what a record says
pub data Said : Type 0 where
  header : ℕ → ℕ → Said
  partition : Class → ℕ → NameAt → Said
  plan : ℕ → Said
  slot : ℕ → ℕ → ℕ → Said
  channel : ChannelKind → ℕ → ℕ → Said
  port : ℕ → Direction → NameAt → Said
  ipvi : ℕ → ℕ → ℕ → Said
  line : ℕ → ℕ → Said
  action : Scope → ℕ → actions.Action → Bool → Said

abbrev pub name_of : NameIn → NameAt
name_of n = record { at = n.at; bytes = n.bytes.now }

abbrev pub said_of : Record → Said
said_of (records.Header n m) = header n m
said_of (records.Partition c s n) = partition c s (name_of n)
said_of (records.Plan f) = plan f
said_of (records.Slot p s d) = slot p s d
said_of (records.Channel k l d) = channel k l d
said_of (records.Port p d n) = port p d (name_of n)
said_of (records.Ipvi n s m) = ipvi n s m
said_of (records.Line l p) = line l p
said_of (records.Action s e a l) = action s e a l

-- 1 to 8 partitions, 1 to 4 plans
abbrev pub header_of : ℕ → List ℕ → Out Said
header_of at b =
    pass (within 1 8 at (slice_index b 0))
    (pass (within 1 4 (at + 1) (slice_index b 1))
    (fine (header (slice_index b 0) (slice_index b 1))))

-- a class, a size of 1 to 1,024 bytes, and the name to the end of the body
abbrev pub partition_of : ℕ → List ℕ → Out Said
partition_of at b =
    then (class_of at (slice_index b 0)) (λ c.
    pass (within 1 1024 (at + 1) (word16 b 1))
    (fine (partition c (word16 b 1) (record { at = at + 3; bytes = drop 3 b }))))

-- a frame of 1 to 1,000,000 microseconds
abbrev pub plan_of : ℕ → List ℕ → Out Said
plan_of at b = pass (within 1 1000000 at (word32 b 0)) (fine (plan (word32 b 0)))

-- one of n partitions, a start of 0 to 999,999 and a duration of 1 to 1,000,000 microseconds
abbrev pub slot_of : ℕ → ℕ → List ℕ → Out Said
slot_of n at b =
    pass (existing n at (slice_index b 0))
    (pass (within 0 999999 (at + 1) (word32 b 1))
    (pass (within 1 1000000 (at + 5) (word32 b 5))
    (fine (slot (slice_index b 0) (word32 b 1) (word32 b 5)))))

-- a kind, a longest message of 1 to 64 bytes, and a depth of 1, or of 1 to 8 where messages queue
abbrev pub channel_of : ℕ → List ℕ → Out Said
channel_of at b =
    then (channel_kind_of at (slice_index b 0)) (λ k.
    pass (within 1 64 (at + 1) (word16 b 1))
    (pass (within 1 (deepest k) (at + 3) (slice_index b 3))
    (fine (channel k (word16 b 1) (slice_index b 3)))))

-- one of n partitions, the direction d, and the name to the end of the body
abbrev pub port_of : ℕ → Direction → ℕ → List ℕ → Out Said
port_of n d at b =
    pass (existing n at (slice_index b 0))
    (pass (directed d (at + 1) (slice_index b 1))
    (fine (port (slice_index b 0) d (record { at = at + 2; bytes = drop 2 b }))))

-- a number of 0 to 7, one of n partitions as the source, and a mask of others
abbrev pub ipvi_of : ℕ → ℕ → List ℕ → Out Said
ipvi_of n at b =
    pass (within 0 7 at (slice_index b 0))
    (pass (existing n (at + 1) (slice_index b 1))
    (pass (masked n (slice_index b 1) (at + 2) (slice_index b 2))
    (fine (ipvi (slice_index b 0) (slice_index b 1) (slice_index b 2)))))

-- a line of 0 to 15, and one of n partitions as its owner
abbrev pub line_of : ℕ → ℕ → List ℕ → Out Said
line_of n at b =
    pass (within 0 15 at (slice_index b 0))
    (pass (existing n (at + 1) (slice_index b 1))
    (fine (line (slice_index b 0) (slice_index b 1))))

-- a scope, an event and an action of it, and whether it is logged
abbrev pub action_said : ℕ → ℕ → List ℕ → Out Said
action_said n at b =
    then (scope_of n at (slice_index b 0)) (λ s.
    pass (event_of s (at + 1) (slice_index b 1))
    (then (action_of s (at + 2) (slice_index b 2)) (λ a.
    then (flag_of (at + 3) (slice_index b 3)) (λ l.
    fine (action s (slice_index b 1) a l)))))

-- the direction of the next port: a channel's first is its source, the others are destinations
abbrev pub next_direction : Tables → Direction
next_direction t = cond ((open_channel t).ports == 0) Source Destination

-- what a body of each kind says, after what the records so far have said
abbrev pub said_by : Kind → Sofar → ℕ → List ℕ → Out Said
said_by Header s at b = header_of at b
said_by Partition s at b = partition_of at b
said_by Plan s at b = plan_of at b
said_by Slot s at b = slot_of s.partitions at b
said_by Channel s at b = channel_of at b
said_by Port s at b = port_of s.partitions (next_direction s.tables) at b
said_by Ipvi s at b = ipvi_of s.partitions at b
said_by Line s at b = line_of s.partitions at b
said_by Action s at b = action_said s.partitions at b
