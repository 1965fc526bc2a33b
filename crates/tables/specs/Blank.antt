-- The rows that are not there, and the responses that hold where the vector says nothing.
use Rattle.std.specs.Prelude.{true, false, List, [], ◌∷◌}
use Rattle.tables.specs.declared.partition.Class.TheVariants.{Standard}
use Rattle.tables.specs.declared.channel.ChannelKind.TheVariants.{Sampling}
use Rattle.tables.specs.declared.port.Direction.TheVariants.{Source}
use Rattle.tables.specs.declared.response.Action.TheVariants.{Ignore, Signal, Suspend, Halt, WarmReset}
use Rattle.tables.specs.declared.name.Name.{Name}
use Rattle.tables.specs.declared.response.Response.{Response}
use Rattle.tables.specs.declared.partition.PartitionRow.{PartitionRow}
use Rattle.tables.specs.declared.plan.Slot.{Slot}
use Rattle.tables.specs.declared.plan.Plan.{Plan}
use Rattle.tables.specs.declared.channel.Channel.{Channel}
use Rattle.tables.specs.declared.port.Port.{Port}

abbrev pub name0 : Name
name0 = record { length = 0; bytes = [] }

abbrev pub response0 : Response
response0 = record { action = Ignore; log = false }

abbrev pub row0 : PartitionRow
row0 = record { class = Standard; size = 0; name = name0; responses = []; links = [] }

abbrev pub slot0 : Slot
slot0 = record { partition = 0; start = 0; duration = 0 }

abbrev pub plan0 : Plan
plan0 = record { frame = 0; slots = record { count = 0; rows = [] } }

abbrev pub channel0 : Channel
channel0 = record { kind = Sampling; longest = 0; depth = 0; ports = 0 }

abbrev pub port0 : Port
port0 = record { partition = 0; channel = 0; direction = Source; name = name0 }

-- signal without a log entry, and three responses that are logged
abbrev pub signalled : Response
signalled = record { action = Signal; log = false }

abbrev pub signal_logged : Response
signal_logged = record { action = Signal; log = true }

abbrev pub suspend_logged : Response
suspend_logged = record { action = Suspend; log = true }

abbrev pub ignore_logged : Response
ignore_logged = record { action = Ignore; log = true }

-- a partition's events: ILLEGAL_INST, PRIVILEGED_INST, MEM_ADDR_NOT_ALIG, DATA_ACC_EXCEPTION,
-- DIVIDE_EXCEPTION, REG_HW_ERROR, MEM_PROTECTION, PARTITION_ERROR
abbrev pub defaults : List Response
defaults = signalled ∷ signal_logged ∷ signalled ∷ signal_logged ∷ signalled ∷ suspend_logged ∷ suspend_logged ∷ record { action = Halt; log = true } ∷ []

-- the system's events: OVERRUN, SCHED_ERROR, INTERNAL_ERROR, UNEXPECTED_TRAP
abbrev pub system_defaults : List Response
system_defaults = ignore_logged ∷ ignore_logged ∷ record { action = WarmReset; log = true } ∷ ignore_logged ∷ []
