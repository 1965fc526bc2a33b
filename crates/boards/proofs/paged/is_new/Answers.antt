use Rattle.std.proofs.Common.{rules, tests}
use Rattle.boards.specs.Pages.{differs}
use Rattle.boards.proofs.Below.{all_below-from_all}
use Rattle.boards.proofs.paged.is_new.Goals as goal

pub returns : goal.returns
returns c = all_below-from_all (differs c.args.table.now c.args.e) c.args.e c.all.ensures.ran (λ x b q k. search (rules, tests))
