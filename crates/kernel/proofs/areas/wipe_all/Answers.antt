use Rattle.std.proofs.Common.{add-one, rules}
use Rattle.machine.specs.State.{wiped_all}
use Rattle.kernel.proofs.areas.wipe_all.Goals as goal

pub loop-i-init : goal.loop-i-init
unfolding wiped_all
loop-i-init g c = search rules

pub loop-i-preserved : goal.loop-i-preserved
unfolding wiped_all
loop-i-preserved g c = rw add-one (search rules)
