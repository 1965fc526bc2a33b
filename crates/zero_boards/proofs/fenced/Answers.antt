use Rattle.std.proofs.Common.{lit≤, ap, ◌∙◌}
use Rattle.zero_boards.specs.Layouts.{fences_of}
use Rattle.zero_boards.proofs.Zeros.{zeros_fit}
use Rattle.zero_boards.proofs.Fencing.{fences-laid}
use Rattle.zero_boards.proofs.fenced.Goals as goal

pub returns : goal.returns
returns c =
    let t = c.args.tables.now in
    let laid = fences-laid t c.requires.sized 8192 (lit≤ tt) _ (c.fences.ensures ∙ ap fences_of c.sizes.ensures) in
    record { memory = c.new.ensures.memory; fences = rw laid.sound at c.new.ensures.fences ∙ (c.fences.ensures ∙ ap fences_of c.sizes.ensures); areas = rw laid.sound at c.new.ensures.areas ∙ laid.zeroed; fitting = zeros_fit t c.requires.few }
