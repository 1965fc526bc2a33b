-- The relations of a record to those before it.
use Rattle.std.specs.Prelude.{ℕ, ◌-◌, ◌<◌, ◌≤◌, Bool, cond, ◌&&◌, ◌||◌, length, take, is_some, None, nat_le, slice_index_or, Result}
use Rattle.tables.specs.Events.{InScope}
use Rattle.tables.specs.Rows.{is_queuing, respond, row_of, channel_with, open_plan, open_channel, end_of, slot_end, partition_at, add_partition, add_plan, add_slot, add_channel, add_port, add_link, add_line}
use Rattle.vector.specs.Reasons.{too_many, repeated, misplaced, relation_reason}
use Rattle.vector.specs.Out.{Out, fine, bad, pass, out}
use Rattle.vector.specs.declared.refusal.RelationFault.{RelationFault}
use Rattle.tables.specs.Names.{padded, named, clashes}
use Rattle.vector.specs.Sofars.{with_header, with_tables, with_given, is_given, giving}
use Rattle.vector.specs.Bodies.{Said, header, partition, plan, slot, channel, port, ipvi, line, action}
use Rattle.vector.specs.declared.kind.Kind.TheVariants.{Partition, Plan, Slot, Channel, Port, Ipvi, Line, Action}
use Rattle.tables.specs.declared.response.Scope.{Scope}
use Rattle.vector.specs.declared.sofar.Sofar.{Sofar}
use Rattle.tables.specs.declared.channel.Channel as channels
use Rattle.tables.specs.declared.partition.PartitionRow.{PartitionRow}
use Rattle.tables.specs.declared.plan.Plan as plans
use Rattle.tables.specs.declared.port.Port as ports
use Rattle.tables.specs.declared.response.Response.{Response}
use Rattle.tables.specs.declared.plan.Slot as slots
use Rattle.tables.specs.declared.Tables.{Tables}

-- what a join leaves: what the records have said now, or the reason of its refusal
abbrev pub left_by : Result (Unit {0}) RelationFault → Sofar → Out Sofar
left_by r s = out relation_reason (λ _. s) r

-- no two partitions have one name
abbrev pub joined_partition : ℕ → Sofar → PartitionRow → Out Sofar
joined_partition at s row =
    cond (named (take s.tables.partitions.count s.tables.partitions.rows) row.name) (bad (repeated at))
    (fine (with_tables Partition (add_partition row s.tables) s))

-- a plan has at most 16 slots, each begins at or after the last one's end, and ends within the frame
abbrev pub admitted : ℕ → plans.Plan → slots.Slot → Out (Unit {0})
admitted at p x =
    cond (nat_le 16 p.slots.count) (bad (too_many at))
    (cond (nat_le (end_of p) x.start && nat_le (slot_end x) p.frame) (fine tt) (bad (misplaced at)))

abbrev pub joined_slot : ℕ → Sofar → slots.Slot → Out Sofar
joined_slot at s x = pass (admitted at (open_plan s.tables) x) (fine (with_tables Slot (add_slot x s.tables) s))

-- there are at most 8 channels
abbrev pub joined_channel : ℕ → Sofar → channels.Channel → Out Sofar
joined_channel at s x = cond (nat_le 8 s.tables.channels.count) (bad (too_many at)) (fine (with_tables Channel (add_channel x s.tables) s))

-- there are at most 32 ports, and a queuing channel has at most two
abbrev pub is_full : Tables → Bool
is_full t = nat_le 32 t.ports.count || (is_queuing (open_channel t).kind && nat_le 2 (open_channel t).ports)

-- the ports of one partition are of different channels, and have different names
abbrev pub joined_port : ℕ → Sofar → ports.Port → Out Sofar
joined_port at s x =
    cond (is_full s.tables) (bad (too_many at))
    (cond (clashes (take s.tables.ports.count s.tables.ports.rows) x) (bad (repeated at))
    (fine (with_tables Port (add_port x s.tables) s)))

-- a partition has at most one link of each number
abbrev pub joined_link : ℕ → Sofar → ℕ → ℕ → ℕ → Out Sofar
joined_link at s n source mask =
    cond (is_some (slice_index_or (partition_at source s.tables).links n None)) (bad (repeated at))
    (fine (with_tables Ipvi (add_link n source mask s.tables) s))

-- a line has at most one owner
abbrev pub joined_line : ℕ → Sofar → ℕ → ℕ → Out Sofar
joined_line at s l p =
    cond (is_some (slice_index_or s.tables.lines l None)) (bad (repeated at))
    (fine (with_tables Line (add_line l p s.tables) s))

-- an event of a scope is given at most one action
abbrev pub joined_action : ℕ → Sofar → Scope → ℕ → Response → Out Sofar
joined_action at s c e x =
    cond (is_given c e s.given) (bad (repeated at))
    (fine (with_given (giving c e s.given) (with_tables Action (respond c e x s.tables) s)))

abbrev pub joined : ℕ → Sofar → Said → Out Sofar
joined at s (header n m) = fine (with_header n m s)
joined at s (partition c z n) = joined_partition at s (row_of c z (padded n.bytes))
joined at s (plan f) = fine (with_tables Plan (add_plan f s.tables) s)
joined at s (slot p b d) = joined_slot at s (record { partition = p; start = b; duration = d })
joined at s (channel k l d) = joined_channel at s (channel_with k l d)
joined at s (port p d n) = joined_port at s (record { partition = p; channel = s.tables.channels.count - 1; direction = d; name = padded n.bytes })
joined at s (ipvi n p m) = joined_link at s n p m
joined at s (line l p) = joined_line at s l p
joined at s (action c e a l) = joined_action at s c e (record { action = a; log = l })

-- what a record needs to go into the tables: rows for its numbers, and a name that fits
abbrev pub Ready : Sofar → Said → Type 0
Ready s (header n m) = Unit {0}
Ready s (partition c z n) = (s.tables.partitions.count < 8) × (length n.bytes ≤ 16)
Ready s (plan f) = s.tables.plans.count < 4
Ready s (slot p b d) = (1 ≤ s.tables.plans.count) × (s.tables.plans.count ≤ 4)
Ready s (channel k l d) = Unit {0}
Ready s (port p d n) = (1 ≤ s.tables.channels.count) × (s.tables.channels.count ≤ 8) × ((open_channel s.tables).ports ≤ s.tables.ports.count) × (length n.bytes ≤ 16)
Ready s (ipvi n p m) = (n < 8) × (p < 8)
Ready s (line l p) = l < 16
Ready s (action c e a l) = InScope c e
