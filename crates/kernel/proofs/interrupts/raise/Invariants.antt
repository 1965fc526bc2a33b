use Rattle.std.proofs.Common.{◌≡◌}
use Rattle.machine.specs.Interrupts.{raised}
use Rattle.kernel.proofs.interrupts.raise.Given as goal

-- the partitions so far have their bits
abbrev pub invariant-loop-i : goal.invariant-loop-i
invariant-loop-i l = l.parts ≡ raised l.mask l.bits l.i l.initial.parts
