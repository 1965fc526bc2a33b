-- The calls on interrupts, and the signals of lines: 16 to 20.
use Rattle.std.specs.Prelude.{ℕ, zero, suc, ◌+◌, ◌^◌, cond, List, Some, None, Option, ◌==◌, nat_lt, slice_index_or}
use Rattle.tables.specs.declared.Tables.{Tables}
use Rattle.machine.specs.declared.partition.Partition.{Partition}
use Rattle.machine.specs.declared.answer.Refusal.TheVariants.{NoAction, InvalidParam}
use Rattle.machine.specs.Partitions.{nobody, bit, signalled, masked, unmasked, acknowledged}
use Rattle.machine.specs.Questions.{link, owner}
use Rattle.machine.specs.Management.{Call, arg}
use Rattle.machine.specs.State.{Core, Out, answered, done, refused, guard, with_parts, modify}

-- bits signalled to partition q where the mask names it
abbrev pub hit : ℕ → ℕ → ℕ → Partition → Partition
hit mask bits q p = cond (bit mask q) (signalled bits p) p

-- .. to the first n partitions
unfoldable pub raised : ℕ → ℕ → ℕ → List Partition → List Partition
raised mask bits zero ps = ps
raised mask bits (suc n) ps = modify (raised mask bits n ps) n (hit mask bits n)

-- 16: signals the bit of the number to the link's mask
abbrev pub raise_ipvi : Call
raise_ipvi k x a q g =
    guard (nat_lt (arg g 0) 8)
    (guard (link k q (arg g 0) == 0) (refused x NoAction)
    (done (with_parts x (raised (link k q (arg g 0)) (2 ^ arg g 0) 8 x.parts))))
    (refused x InvalidParam)

-- 17: the pending word in a, the mask in b
abbrev pub get_irqs : Call
get_irqs k x a q g = answered x (slice_index_or x.parts q nobody).pending (slice_index_or x.parts q nobody).mask

-- 18, 19, 20: sets bits in the mask, clears them there, clears them in the pending word
abbrev pub set_irq_mask : Call
set_irq_mask k x a q g = done (with_parts x (modify x.parts q (masked (arg g 0))))

abbrev pub clear_irq_mask : Call
clear_irq_mask k x a q g = done (with_parts x (modify x.parts q (unmasked (arg g 0))))

abbrev pub clear_irq_pending : Call
clear_irq_pending k x a q g = done (with_parts x (modify x.parts q (acknowledged (arg g 0))))

-- a line signals the bit 16 + line to its owner
abbrev pub line_of : Option ℕ → Core → ℕ → Out
line_of None x l = refused x NoAction
line_of (Some q) x l = done (with_parts x (modify x.parts q (signalled (2 ^ (16 + l)))))

abbrev pub line : Tables → Core → ℕ → Out
line k x l = guard (nat_lt l 16) (line_of (owner k l) x l) (refused x InvalidParam)
