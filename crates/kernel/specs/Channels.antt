-- The messages of one of the channels, and who is told of one.
use Rattle.std.specs.Prelude.{ℕ, cond, List, [], slice_index_or}
use Rattle.machine.specs.declared.partition.Partition.{Partition}
use Rattle.machine.specs.Letters.{Letter}
use Rattle.machine.specs.Partitions.{is_open, signalled}
use Rattle.machine.specs.Ports.{message_bit}

abbrev pub chan_of : List (List Letter) → ℕ → List Letter
chan_of chans c = slice_index_or chans c []

-- a partition told of a message, where its port i is open
abbrev pub told : ℕ → Partition → Partition
told i p = cond (is_open i p) (signalled message_bit p) p
