-- What every vector that is taken says of its tables, as far as the core rests on it.
use Rattle.std.specs.Prelude.{◌≡◌, ℕ, ◌<◌, ◌≤◌, List, get_or, Some, None, Option, slice_index_or}
use Rattle.tables.specs.declared.plan.Plan.{Plan}
use Rattle.tables.specs.Tables.{Plans, Channels, Ports}
use Rattle.tables.specs.declared.channel.Channel.{Channel}
use Rattle.tables.specs.declared.port.Port.{Port}
use Rattle.tables.specs.declared.Tables.{Tables}
use Rattle.tables.specs.Blank.{slot0, plan0, channel0, port0}

-- a frame of 1 to 1,000,000 microseconds, and at most 16 slots of partitions below 8
pub record SoundPlan (p : Plan) : Type 0 where
  pub some : 1 ≤ p.frame
  pub short : p.frame ≤ 1000000
  pub few : p.slots.count ≤ 16
  pub owners : (i : ℕ) → i < p.slots.count → (get_or p.slots.rows i slot0).partition < 8

-- 1 to 4 plans, each of them sound
pub record SoundPlans (ps : Plans) : Type 0 where
  pub some : 1 ≤ ps.count
  pub few : ps.count ≤ 4
  pub each : (i : ℕ) → i < ps.count → SoundPlan (slice_index_or ps.rows i plan0)

-- messages of at most 1 to 64 bytes, and room for 1 to 8 of them
pub record SoundChannel (c : Channel) : Type 0 where
  pub some : 1 ≤ c.longest
  pub short : c.longest ≤ 64
  pub room : 1 ≤ c.depth
  pub shallow : c.depth ≤ 8

-- at most 8 channels, each of them sound
pub record SoundChannels (cs : Channels) : Type 0 where
  pub few : cs.count ≤ 8
  pub each : (i : ℕ) → i < cs.count → SoundChannel (slice_index_or cs.rows i channel0)

-- a port of a partition below 8 and a channel below 8
pub record SoundPort (p : Port) : Type 0 where
  pub partition : p.partition < 8
  pub channel : p.channel < 8

-- at most 32 ports, each of them sound
pub record SoundPorts (ps : Ports) : Type 0 where
  pub few : ps.count ≤ 32
  pub each : (i : ℕ) → i < ps.count → SoundPort (slice_index_or ps.rows i port0)

-- a line's owner, if there is one, is a partition below 8
abbrev pub SoundOwner : Option ℕ → Type 0
SoundOwner o = (p : ℕ) → o ≡ Some p → p < 8

abbrev pub SoundLines : List (Option ℕ) → Type 0
SoundLines ls = (i : ℕ) → SoundOwner (slice_index_or ls i None)

-- 1 to 8 partitions, and sound plans, channels, ports and lines
pub record Sound (t : Tables) : Type 0 where
  pub some : 1 ≤ t.partitions.count
  pub few : t.partitions.count ≤ 8
  pub plans : SoundPlans t.plans
  pub channels : SoundChannels t.channels
  pub ports : SoundPorts t.ports
  pub lines : SoundLines t.lines
