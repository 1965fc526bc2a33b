use Rattle.config.proofs.Gapping.{Summed}
use Rattle.config.proofs.slotless.all_slotless.Given as goal

-- the frames so far are added up
abbrev pub invariant-loop-i : goal.invariant-loop-i
invariant-loop-i l = Summed l.plans l.i l.sums
