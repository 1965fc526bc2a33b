-- How the slots of a plan and the ports of a channel share it.
use Rattle.std.specs.Prelude.{◌≡◌, ℕ, ◌+◌, ◌<◌, ◌≤◌, get_or, slice_index_or}
use Rattle.tables.specs.Blank.{slot0, plan0, channel0, port0}
use Rattle.tables.specs.declared.channel.ChannelKind.TheVariants.{Queuing}
use Rattle.tables.specs.declared.port.Direction.TheVariants.{Source, Destination}
use Rattle.tables.specs.declared.channel.Channel.{Channel}
use Rattle.tables.specs.declared.plan.Plan.{Plan}
use Rattle.tables.specs.Tables.{Plans}
use Rattle.tables.specs.declared.port.Port.{Port}
use Rattle.tables.specs.declared.Tables.{Tables}

-- each slot of a plan ends within its frame
abbrev pub Within : Plan → Type 0
Within p = (j : ℕ) → j < p.slots.count → (get_or p.slots.rows j slot0).start + (get_or p.slots.rows j slot0).duration ≤ p.frame

abbrev pub AllWithin : Plans → Type 0
AllWithin ps = (i : ℕ) → i < ps.count → Within (slice_index_or ps.rows i plan0)

abbrev pub port_at : Tables → ℕ → Port
port_at t i = slice_index_or t.ports.rows i port0

abbrev pub channel_at : Tables → ℕ → Channel
channel_at t i = slice_index_or t.channels.rows (port_at t i).channel channel0

-- each port belongs to a channel that is there
abbrev pub Connected : Tables → Type 0
Connected t = (i : ℕ) → i < t.ports.count → (port_at t i).channel < t.channels.count

-- two ports of one channel
pub record Share (t : Tables) (i j : ℕ) : Type 0 where
  pub one : i < t.ports.count
  pub other : j < t.ports.count
  pub same : (port_at t i).channel ≡ (port_at t j).channel

-- a channel has one source
abbrev pub OneSource : Tables → Type 0
OneSource t = (i j : ℕ) → Share t i j → (port_at t i).direction ≡ Source → (port_at t j).direction ≡ Source → i ≡ j

-- a queuing channel has one destination
abbrev pub OneDestination : Tables → Type 0
OneDestination t =
    (i j : ℕ) → Share t i j → (channel_at t i).kind ≡ Queuing →
    (port_at t i).direction ≡ Destination → (port_at t j).direction ≡ Destination → i ≡ j

-- what every vector that is taken keeps
pub record Fair (t : Tables) : Type 0 where
  pub within : AllWithin t.plans
  pub connected : Connected t
  pub source : OneSource t
  pub destination : OneDestination t
