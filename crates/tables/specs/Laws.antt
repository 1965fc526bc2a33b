-- What is true of the tables of every vector that is taken.
use Rattle.std.specs.Prelude.{◌≡◌, ℕ, ◌+◌, ◌<◌, ◌≤◌, true, cond, List, [], ◌∷◌, take, Some, None, ◌==◌, ◌≢◌, slice_index_or}
use Rattle.tables.specs.Blank.{slot0, plan0, channel0, port0}
use Rattle.tables.specs.Bits.{has_bit}
use Rattle.tables.specs.Rows.{partition_at, slot_end, is_queuing}
use Rattle.tables.specs.Sound.{Sound}
use Rattle.tables.specs.Fair.{Fair}
use Rattle.tables.specs.declared.channel.Channel.{Channel}
use Rattle.tables.specs.declared.port.Direction.TheVariants.{Source, Destination}
use Rattle.tables.specs.declared.plan.Plan.{Plan}
use Rattle.tables.specs.declared.port.Port.{Port}
use Rattle.tables.specs.declared.plan.Slot.{Slot}
use Rattle.tables.specs.declared.Tables.{Tables}

-- a number in a range
abbrev pub In : ℕ → ℕ → ℕ → Type 0
In low high v = (low ≤ v) × (v ≤ high)

abbrev pub plan_at : ℕ → Tables → Plan
plan_at i t = slice_index_or t.plans.rows i plan0

abbrev pub slot_at : ℕ → Plan → Slot
slot_at j p = slice_index_or p.slots.rows j slot0

abbrev pub channel_at : ℕ → Tables → Channel
channel_at c t = slice_index_or t.channels.rows c channel0

abbrev pub port_at : ℕ → Tables → Port
port_at i t = slice_index_or t.ports.rows i port0

-- no two partitions have one name
abbrev pub NamesDiffer : Tables → Type 0
NamesDiffer t = (i j : ℕ) → i < j → j < t.partitions.count → (partition_at i t).name ≢ (partition_at j t).name

-- each partition's area has 1 to 1,024 bytes
abbrev pub AreasSized : Tables → Type 0
AreasSized t = (i : ℕ) → i < t.partitions.count → In 1 1024 (partition_at i t).size

-- slot j of a plan is of one of n partitions, takes some time, begins at or after the end of each slot before it, and
-- ends within the frame
pub record SlotInPlace (n : ℕ) (p : Plan) (j : ℕ) : Type 0 where
  pub partition : (slot_at j p).partition < n
  pub some : 1 ≤ (slot_at j p).duration
  pub ascends : (i : ℕ) → i < j → slot_end (slot_at i p) ≤ (slot_at j p).start
  pub ends : slot_end (slot_at j p) ≤ p.frame

-- a plan has a slot, and all its slots are in place
pub record PlanInPlace (n : ℕ) (p : Plan) : Type 0 where
  pub some : 1 ≤ p.slots.count
  pub each : (j : ℕ) → j < p.slots.count → SlotInPlace n p j

abbrev pub SlotsInPlace : Tables → Type 0
SlotsInPlace t = (i : ℕ) → i < t.plans.count → PlanInPlace t.partitions.count (plan_at i t)

-- a port is of a partition and a channel that are there
abbrev pub PortsBelong : Tables → Type 0
PortsBelong t = (i : ℕ) → i < t.ports.count → ((port_at i t).partition < t.partitions.count) × ((port_at i t).channel < t.channels.count)

-- of two ports of one channel the later is a destination, and they are of different partitions
abbrev pub SourceFirst : Tables → Type 0
SourceFirst t = (i j : ℕ) → i < j → j < t.ports.count → (port_at i t).channel ≡ (port_at j t).channel → ((port_at j t).direction ≡ Destination) × ((port_at i t).partition ≢ (port_at j t).partition)

-- each channel has a source
abbrev pub HaveSources : Tables → Type 0
HaveSources t = (c : ℕ) → c < t.channels.count → (i : ℕ) × ((i < t.ports.count) × ((port_at i t).channel ≡ c) × ((port_at i t).direction ≡ Source))

-- how many ports of a list belong to channel c
abbrev pub ports_of : ℕ → List Port → ℕ
ports_of c [] = 0
ports_of c (p ∷ ps) = cond (p.channel == c) 1 0 + ports_of c ps

-- a channel has two ports or more, as many as its row says, and a queuing channel has two
pub record ChannelCounted (t : Tables) (c : ℕ) : Type 0 where
  pub counted : (channel_at c t).ports ≡ ports_of c (take t.ports.count t.ports.rows)
  pub two : 2 ≤ (channel_at c t).ports
  pub queues : is_queuing (channel_at c t).kind ≡ true → (channel_at c t).ports ≡ 2

abbrev pub PortsCounted : Tables → Type 0
PortsCounted t = (c : ℕ) → c < t.channels.count → ChannelCounted t c

-- no two ports of one partition have one name
abbrev pub PortNamesDiffer : Tables → Type 0
PortNamesDiffer t = (i j : ℕ) → i < j → j < t.ports.count → (port_at i t).partition ≡ (port_at j t).partition → (port_at i t).name ≢ (port_at j t).name

-- a link is of a partition that is there, and goes to others that are there
abbrev pub LinksToOthers : Tables → Type 0
LinksToOthers t =
    (p n mask : ℕ) → slice_index_or (partition_at p t).links n None ≡ Some mask →
    (p < t.partitions.count) × ((q : ℕ) → has_bit mask q ≡ true → (q < t.partitions.count) × (q ≢ p))

-- the owner of a line is there
abbrev pub LinesOwned : Tables → Type 0
LinesOwned t = (l p : ℕ) → slice_index_or t.lines l None ≡ Some p → p < t.partitions.count

pub record Lawful (t : Tables) : Type 0 where
  pub names : NamesDiffer t
  pub slots : SlotsInPlace t
  pub belong : PortsBelong t
  pub first : SourceFirst t
  pub sources : HaveSources t
  pub counted : PortsCounted t
  pub ports : PortNamesDiffer t
  pub links : LinksToOthers t
  pub lines : LinesOwned t

-- what is kept by the tables of a vector that is taken
pub record Kept (t : Tables) : Type 0 where
  pub sound : Sound t
  pub lawful : Lawful t
  pub sized : AreasSized t
  pub fair : Fair t
