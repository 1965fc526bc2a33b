use Rattle.std.proofs.Common.{rules, tests}
use Rattle.boards.specs.Fences.{good_fence}
use Rattle.boards.proofs.Below.{all_below-from_all}
use Rattle.boards.proofs.fenced.are_sound.Goals as goal

pub returns : goal.returns
returns c = all_below-from_all (good_fence c.args.fences.now c.args.n) 8 c.all.ensures.ran (λ x b q k. search (rules, tests))
