use Rattle.std.proofs.Common.{add-one, rules}
use Rattle.machine.specs.Interrupts.{raised}
use Rattle.kernel.proofs.interrupts.raise.Goals as goal

pub loop-i-init : goal.loop-i-init
unfolding raised
loop-i-init c = search rules

pub loop-i-preserved : goal.loop-i-preserved
unfolding raised
loop-i-preserved c = rw add-one (search rules)
