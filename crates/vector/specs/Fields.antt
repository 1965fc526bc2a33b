-- Single fields of a record: a value in its range, or a refusal at its place.
use Rattle.std.specs.Prelude.{ℕ, ◌/◌, ◌^◌, Bool, true, false, cond, not, ◌&&◌, Some, None, Option, ◌==◌, nat_le, nat_lt}
use Rattle.vector.specs.Reasons.{out_of_range}
use Rattle.vector.specs.Out.{Out, fine, bad, then}
use Rattle.tables.specs.Bits.{has_bit}
use Rattle.tables.specs.Numbers.{class_by, channel_kind_by, direction_number, action_by}
use Rattle.tables.specs.declared.response.Scope.{Scope}
use Rattle.tables.specs.declared.response.Scope.TheVariants as scopes
use Rattle.tables.specs.declared.partition.Class.{Class}
use Rattle.tables.specs.declared.channel.ChannelKind.{ChannelKind}
use Rattle.tables.specs.declared.channel.ChannelKind.TheVariants.{Sampling, Queuing}
use Rattle.tables.specs.declared.port.Direction.{Direction}
use Rattle.tables.specs.declared.response.Action.{Action}
use Rattle.tables.specs.declared.response.Action.TheVariants.{Signal, Suspend}

-- a value is in its range
abbrev pub within : ℕ → ℕ → ℕ → ℕ → Out (Unit {0})
within low high at value = cond (nat_le low value && nat_le value high) (fine tt) (bad (out_of_range at))

-- the partition is one of n
abbrev pub existing : ℕ → ℕ → ℕ → Out (Unit {0})
existing n at p = cond (nat_lt p n) (fine tt) (bad (out_of_range at))

module _ {X : Type 0} where
  -- what a number stands for, or the refusal of one that stands for nothing
  abbrev pub standing : ℕ → Option X → Out X
  standing at None = bad (out_of_range at)
  standing at (Some x) = fine x

abbrev pub class_of : ℕ → ℕ → Out Class
class_of at c = standing at (class_by c)

abbrev pub channel_kind_of : ℕ → ℕ → Out ChannelKind
channel_kind_of at k = standing at (channel_kind_by k)

-- the most messages that a channel of each kind may hold
abbrev pub deepest : ChannelKind → ℕ
deepest Sampling = 1
deepest Queuing = 8

-- the number is that of the direction
abbrev pub directed : Direction → ℕ → ℕ → Out (Unit {0})
directed d at v = cond (v == direction_number d) (fine tt) (bad (out_of_range at))

-- a mask has no bit from n on, and not the source's
abbrev pub masked : ℕ → ℕ → ℕ → ℕ → Out (Unit {0})
masked n source at mask = cond (mask / 2 ^ n == 0 && not (has_bit mask source)) (fine tt) (bad (out_of_range at))

-- one of n partitions, or 255 for the system
abbrev pub scope_of : ℕ → ℕ → ℕ → Out Scope
scope_of n at v = cond (nat_lt v n) (fine (scopes.Partition v)) (cond (v == 255) (fine scopes.System) (bad (out_of_range at)))

-- a partition has the events 0 to 7, the system 8 to 11
abbrev pub event_of : Scope → ℕ → ℕ → Out (Unit {0})
event_of (scopes.Partition p) at e = within 0 7 at e
event_of scopes.System at e = within 8 11 at e

abbrev pub any_action : ℕ → ℕ → Out Action
any_action at a = standing at (action_by a)

-- the system has no signal and no suspend
abbrev pub systems : ℕ → Action → Out Action
systems at Signal = bad (out_of_range at)
systems at Suspend = bad (out_of_range at)
systems at a = fine a

abbrev pub action_of : Scope → ℕ → ℕ → Out Action
action_of (scopes.Partition p) at a = any_action at a
action_of scopes.System at a = then (any_action at a) (systems at)

-- 0 is no, 1 is yes
abbrev pub flag_of : ℕ → ℕ → Out Bool
flag_of at v = cond (v == 0) (fine false) (cond (v == 1) (fine true) (bad (out_of_range at)))
