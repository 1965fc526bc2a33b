use Rattle.std.proofs.Common.{add-one, rules}
use Rattle.machine.specs.Circle.{turns}
use Rattle.config.proofs.Config.with_port.Goals as goal

pub loop-j-init : goal.loop-j-init
unfolding turns
loop-j-init c = search rules

pub loop-j-preserved : goal.loop-j-preserved
unfolding turns
loop-j-preserved c = rw add-one (search rules)
