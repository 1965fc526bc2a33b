-- The numbers that stand for classes, kinds of channels, directions, scopes and actions.
use Rattle.std.specs.Prelude.{ℕ, cond, Some, None, Option, ◌==◌}
use Rattle.tables.specs.declared.response.Action.{Action}
use Rattle.tables.specs.declared.response.Action.TheVariants.{Ignore, Signal, Suspend, Halt, WarmReset, ColdReset}
use Rattle.tables.specs.declared.response.Scope.{Scope}
use Rattle.tables.specs.declared.response.Scope.TheVariants as scopes
use Rattle.tables.specs.declared.partition.Class.{Class}
use Rattle.tables.specs.declared.partition.Class.TheVariants.{Standard, System}
use Rattle.tables.specs.declared.channel.ChannelKind.{ChannelKind}
use Rattle.tables.specs.declared.channel.ChannelKind.TheVariants.{Sampling, Queuing}
use Rattle.tables.specs.declared.port.Direction.{Direction}
use Rattle.tables.specs.declared.port.Direction.TheVariants.{Source, Destination}

abbrev pub class_number : Class → ℕ
class_number Standard = 0
class_number System = 1

-- 0 is a standard partition, 1 a system partition
abbrev pub class_by : ℕ → Option Class
class_by n = cond (n == 0) (Some Standard) (cond (n == 1) (Some System) None)

abbrev pub channel_number : ChannelKind → ℕ
channel_number Sampling = 0
channel_number Queuing = 1

-- 0 is a sampling channel, 1 a queuing channel
abbrev pub channel_kind_by : ℕ → Option ChannelKind
channel_kind_by n = cond (n == 0) (Some Sampling) (cond (n == 1) (Some Queuing) None)

-- 0 is a source, 1 a destination
abbrev pub direction_number : Direction → ℕ
direction_number Source = 0
direction_number Destination = 1

abbrev pub scope_number : Scope → ℕ
scope_number (scopes.Partition p) = p
scope_number scopes.System = 255

abbrev pub action_number : Action → ℕ
action_number Ignore = 0
action_number Signal = 1
action_number Suspend = 2
action_number Halt = 3
action_number WarmReset = 4
action_number ColdReset = 5

-- 0 ignore, 1 signal, 2 suspend, 3 halt, 4 warm reset, 5 cold reset
abbrev pub action_by : ℕ → Option Action
action_by n =
    cond (n == 0) (Some Ignore)
    (cond (n == 1) (Some Signal)
    (cond (n == 2) (Some Suspend)
    (cond (n == 3) (Some Halt)
    (cond (n == 4) (Some WarmReset)
    (cond (n == 5) (Some ColdReset)
    None)))))
