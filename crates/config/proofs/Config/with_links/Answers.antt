use Rattle.std.proofs.Common.{add-one, rules}
use Rattle.machine.specs.Circle.{turns}
use Rattle.config.proofs.Config.with_links.Goals as goal

pub loop-n-init : goal.loop-n-init
unfolding turns
loop-n-init c = search rules

pub loop-n-preserved : goal.loop-n-preserved
unfolding turns
loop-n-preserved c = rw add-one (search rules)
