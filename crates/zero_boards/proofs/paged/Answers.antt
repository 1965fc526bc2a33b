use Rattle.std.proofs.Common.{lit≤, ap, ◌∙◌}
use Rattle.zero_boards.specs.Layouts.{pages_of}
use Rattle.zero_boards.proofs.Zeros.{zeros_fit}
use Rattle.zero_boards.proofs.Paging.{pages-laid}
use Rattle.zero_boards.proofs.paged.Goals as goal

pub returns : goal.returns
returns c =
    let t = c.args.tables.now in
    let laid = pages-laid t c.requires.sized 8192 (lit≤ tt) _ (c.pages.ensures ∙ ap pages_of c.sizes.ensures) in
    record { memory = c.new.ensures.memory; pages = rw laid.sound at c.new.ensures.pages ∙ (c.pages.ensures ∙ ap pages_of c.sizes.ensures); areas = rw laid.sound at c.new.ensures.areas ∙ laid.zeroed; fitting = zeros_fit t c.requires.few }
