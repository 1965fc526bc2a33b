-- What is an alias in the code: an offset in a frame, and the tables by their rows and sizes.
use Rattle.std.specs.Prelude.{ℕ}
use Rattle.tables.specs.declared.table.Table.{Table}
use Rattle.tables.specs.declared.channel.Channel.{Channel}
use Rattle.tables.specs.declared.partition.PartitionRow.{PartitionRow}
use Rattle.tables.specs.declared.plan.Plan.{Plan}
use Rattle.tables.specs.declared.port.Port.{Port}

-- an offset or a length in a frame, in microseconds
abbrev pub Offset : Type 0
Offset = ℕ

abbrev pub Partitions : Type 0
Partitions = Table PartitionRow 8

abbrev pub Plans : Type 0
Plans = Table Plan 4

abbrev pub Channels : Type 0
Channels = Table Channel 8

abbrev pub Ports : Type 0
Ports = Table Port 32
