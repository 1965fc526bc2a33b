-- The tables before any record, and with one more row.
use Rattle.std.specs.Prelude.{ℕ, ◌+◌, ◌-◌, Bool, true, false, cond, List, replicate, Some, None, Option, ◌==◌, slice_index_or, slice_set}
use Rattle.tables.specs.Blank.{row0, slot0, plan0, channel0, defaults, system_defaults}
use Rattle.tables.specs.declared.channel.ChannelKind.{ChannelKind}
use Rattle.tables.specs.declared.channel.ChannelKind.TheVariants.{Sampling, Queuing}
use Rattle.tables.specs.declared.response.Scope.{Scope}
use Rattle.tables.specs.declared.response.Scope.TheVariants as scopes
use Rattle.tables.specs.declared.partition.Class.{Class}
use Rattle.tables.specs.declared.partition.Class.TheVariants.{Standard}
use Rattle.tables.specs.declared.port.Direction.TheVariants.{Source}
use Rattle.tables.specs.declared.name.Name.{Name}
use Rattle.tables.specs.declared.table.Table.{Table}
use Rattle.tables.specs.declared.response.Response.{Response}
use Rattle.tables.specs.declared.partition.PartitionRow.{PartitionRow}
use Rattle.tables.specs.Tables.{Partitions, Plans, Channels, Ports, Offset}
use Rattle.tables.specs.declared.plan.Slot.{Slot}
use Rattle.tables.specs.declared.plan.Plan.{Plan}
use Rattle.tables.specs.declared.channel.Channel.{Channel}
use Rattle.tables.specs.declared.port.Port.{Port}
use Rattle.tables.specs.declared.Tables.{Tables}

-- rows that are not there yet

abbrev pub no_name : Name
no_name = record { length = 0; bytes = replicate 16 0 }

-- a partition, with the responses that hold where the vector says nothing, and no links
abbrev pub row_of : Class → ℕ → Name → PartitionRow
row_of c z n = record { class = c; size = z; name = n; responses = defaults; links = replicate 8 None }

-- a plan without slots
abbrev pub plan_with : Offset → Plan
plan_with f = record { frame = f; slots = record { count = 0; rows = replicate 16 slot0 } }

-- a channel without ports
abbrev pub channel_with : ChannelKind → ℕ → ℕ → Channel
channel_with k l d = record { kind = k; longest = l; depth = d; ports = 0 }

abbrev pub no_port : Port
no_port = record { partition = 0; channel = 0; direction = Source; name = no_name }

-- no rows at all
abbrev pub blank : Tables
blank = record {
  partitions = record { count = 0; rows = replicate 8 (row_of Standard 0 no_name) };
  plans = record { count = 0; rows = replicate 4 (plan_with 0) };
  channels = record { count = 0; rows = replicate 8 (channel_with Sampling 0 0) };
  ports = record { count = 0; rows = replicate 32 no_port };
  lines = replicate 16 None;
  system = system_defaults;
}

-- one table replaced

abbrev pub with_partitions : Partitions → Tables → Tables
with_partitions x t = record t { partitions = x }

abbrev pub with_plans : Plans → Tables → Tables
with_plans x t = record t { plans = x }

abbrev pub with_channels : Channels → Tables → Tables
with_channels x t = record t { channels = x }

abbrev pub with_ports : Ports → Tables → Tables
with_ports x t = record t { ports = x }

abbrev pub with_lines : List (Option ℕ) → Tables → Tables
with_lines x t = record t { lines = x }

abbrev pub with_system : List Response → Tables → Tables
with_system x t = record t { system = x }

-- one row more in a table
abbrev pub pushed : {A : Type 0} {n : ℕ} → A → Table A n → Table A n
pushed x t = record t { count = t.count + 1; rows = slice_set t.rows t.count x }

-- one partition more
abbrev pub add_partition : PartitionRow → Tables → Tables
add_partition row t = with_partitions (pushed row t.partitions) t

-- one plan more, of this frame
abbrev pub add_plan : Offset → Tables → Tables
add_plan f t = with_plans (pushed (plan_with f) t.plans) t

-- the plan that was added last
abbrev pub open_plan : Tables → Plan
open_plan t = slice_index_or t.plans.rows (t.plans.count - 1) plan0

-- one slot more in a plan
abbrev pub placed : Slot → Plan → Plan
placed x p = record p { slots = pushed x p.slots }

-- one slot more in the plan that was added last
abbrev pub add_slot : Slot → Tables → Tables
add_slot x t = with_plans (record t.plans { rows = slice_set t.plans.rows (t.plans.count - 1) (placed x (open_plan t)) }) t

-- where a slot ends
abbrev pub slot_end : Slot → Offset
slot_end x = x.start + x.duration

-- where the last slot of a plan ends; 0 while there is none
abbrev pub end_of : Plan → Offset
end_of p = cond (p.slots.count == 0) 0 (slot_end (slice_index_or p.slots.rows (p.slots.count - 1) slot0))

-- one channel more
abbrev pub add_channel : Channel → Tables → Tables
add_channel x t = with_channels (pushed x t.channels) t

-- the channel that was added last
abbrev pub open_channel : Tables → Channel
open_channel t = slice_index_or t.channels.rows (t.channels.count - 1) channel0

abbrev pub is_queuing : ChannelKind → Bool
is_queuing Sampling = false
is_queuing Queuing = true

-- one port more in a channel
abbrev pub ported : Channel → Channel
ported c = record c { ports = c.ports + 1 }

-- one port more, of the channel that was added last
abbrev pub add_port : Port → Tables → Tables
add_port x t =
    with_ports (pushed x t.ports)
    (with_channels (record t.channels { rows = slice_set t.channels.rows (t.channels.count - 1) (ported (open_channel t)) }) t)

-- partition p as it stands in its table
abbrev pub partition_at : ℕ → Tables → PartitionRow
partition_at p t = slice_index_or t.partitions.rows p row0

-- partition p replaced
abbrev pub set_partition : ℕ → PartitionRow → Tables → Tables
set_partition p row t = with_partitions (record t.partitions { rows = slice_set t.partitions.rows p row }) t

-- the link of this number goes to the partitions of the mask
abbrev pub linked : ℕ → ℕ → PartitionRow → PartitionRow
linked n mask r = record r { links = slice_set r.links n (Some mask) }

abbrev pub add_link : ℕ → ℕ → ℕ → Tables → Tables
add_link n source mask t = set_partition source (linked n mask (partition_at source t)) t

-- partition p owns the line
abbrev pub add_line : ℕ → ℕ → Tables → Tables
add_line l p t = with_lines (slice_set t.lines l (Some p)) t

-- the response of a partition to an event
abbrev pub answering : ℕ → Response → PartitionRow → PartitionRow
answering e x r = record r { responses = slice_set r.responses e x }

abbrev pub add_response : ℕ → ℕ → Response → Tables → Tables
add_response p e x t = set_partition p (answering e x (partition_at p t)) t

-- the response to the system's event e, of which 8 is the first
abbrev pub add_system_response : ℕ → Response → Tables → Tables
add_system_response e x t = with_system (slice_set t.system (e - 8) x) t

-- the response to an event of a partition or of the system
abbrev pub respond : Scope → ℕ → Response → Tables → Tables
respond (scopes.Partition p) e x t = add_response p e x t
respond scopes.System e x t = add_system_response e x t
