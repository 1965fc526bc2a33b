use Rattle.std.proofs.Common.{refl}
use Rattle.machine.specs.Questions.{holder}
use Rattle.machine.specs.Circle.{turns}
use Rattle.entrance.proofs.examples.examples_stand.Goals as goal

pub returns : goal.returns
unfolding holder turns
returns c = refl
