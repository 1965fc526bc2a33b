-- What the bits of the index say of the ports.
use Rattle.std.specs.Prelude.{◌≡◌, ℕ, ◌^◌, Bool, cond, not, ◌&&◌, List, bit_or, nat_lt, slice_index, slice_set}
use Rattle.tables.specs.Bits.{has_bit}
use Rattle.tables.specs.declared.Tables.{Tables}
use Rattle.tables.specs.declared.port.Port.{Port}
use Rattle.tables.specs.declared.channel.ChannelKind.{ChannelKind}
use Rattle.tables.specs.declared.channel.ChannelKind.TheVariants.{Sampling, Queuing}
use Rattle.machine.specs.Questions.{owns, hears, same_kind, is_source}
use Rattle.config.specs.declared.index.Index.{Index}

-- the words of this type, one for each partition
abbrev pub owned : Index → ChannelKind → List ℕ
owned x Sampling = x.sampling
owned x Queuing = x.queuing

-- is i a port that is there, and a destination of channel c
abbrev pub listens : Tables → ℕ → ℕ → Bool
listens k c i = nat_lt i k.ports.count && hears k c i

-- Bit i says whether i is a port of the partition on a channel of the type, and whether it is a destination of the channel. Past the
-- last word, where no bit is set, there is no such partition or channel.
pub record Indexed (k : Tables) (x : Index) : Type 0 where
  pub owned : (t : ChannelKind) (q i : ℕ) → has_bit (slice_index (owned x t) q) i ≡ owns k q t i
  pub hearing : (c i : ℕ) → has_bit (slice_index x.hearing c) i ≡ listens k c i

-- a row's word with one bit more, where the test holds
abbrev pub marked : Bool → ℕ → ℕ → List ℕ → List ℕ
marked test row i ws = cond test (slice_set ws row (bit_or (slice_index ws row) (2 ^ i))) ws

-- the index with a port more, which is on a channel of this type
abbrev pub added : ℕ → Port → ChannelKind → Index → Index
added i p t x = record x {
  sampling = marked (same_kind t Sampling) p.partition i x.sampling;
  queuing = marked (same_kind t Queuing) p.partition i x.queuing;
  hearing = marked (not (is_source p.direction)) p.channel i x.hearing;
}
