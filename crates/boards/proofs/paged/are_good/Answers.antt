use Rattle.std.proofs.Common.{rules, tests}
use Rattle.boards.specs.Pages.{good_entry}
use Rattle.boards.proofs.Below.{all_below-from_all}
use Rattle.boards.proofs.paged.are_good.Goals as goal

pub returns : goal.returns
returns c = all_below-from_all (good_entry c.args.table.now c.args.n) 128 c.all.ensures.ran (λ x b q k. search (rules, tests))
