-- What the records so far keep of the tables, so that the next record finds its rows.
use Rattle.std.specs.Prelude.{◌≡◌, ℕ, ◌≤◌, false, is_some, slice_index_or}
use Rattle.tables.specs.Blank.{channel0}
use Rattle.vector.specs.declared.sofar.Sofar.{Sofar}
use Rattle.tables.specs.declared.Tables.{Tables}

-- at most 8 partitions and 4 plans are promised, and none before the header
pub record Promised (s : Sofar) : Type 0 where
  pub partitions : s.partitions ≤ 8
  pub plans : s.plans ≤ 4
  pub none : is_some s.last ≡ false → (s.partitions ≡ 0) × (s.plans ≡ 0)

-- no more come than were promised
pub record Counted (s : Sofar) : Type 0 where
  pub partitions : s.tables.partitions.count ≤ s.partitions
  pub plans : s.tables.plans.count ≤ s.plans

-- there are at most 8 channels, and none has more ports than there are
pub record Ported (t : Tables) : Type 0 where
  pub few : t.channels.count ≤ 8
  pub within : (i : ℕ) → (slice_index_or t.channels.rows i channel0).ports ≤ t.ports.count

pub record Room (s : Sofar) : Type 0 where
  pub promised : Promised s
  pub counted : Counted s
  pub ported : Ported s.tables
