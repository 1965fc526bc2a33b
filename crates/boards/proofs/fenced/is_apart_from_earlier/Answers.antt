use Rattle.std.proofs.Common.{rules, tests}
use Rattle.boards.specs.Fences.{apart_at}
use Rattle.boards.proofs.Below.{all_below-from_all}
use Rattle.boards.proofs.fenced.is_apart_from_earlier.Goals as goal

pub returns : goal.returns
returns c = all_below-from_all (apart_at c.args.fences.now c.args.i) c.args.i c.all.ensures.ran (λ x b q k. search (rules, tests))
