use Rattle.boards.proofs.Paging.{paged-choice}
use Rattle.boards.proofs.paged.Laid+PageTable+N+N.new.Goals as goal

pub returns-clause-areas : goal.returns-clause-areas
returns-clause-areas g c = rw (c.with_layout.ensures.memory, c.with_layout.ensures.layout, c.new.ensures) (paged-choice c.args.memory c.args.areas _)
