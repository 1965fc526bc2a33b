use Rattle.std.proofs.Common.{slice_index, rules}
use Rattle.zero_boards.specs.Layouts.{pages_at}
use Rattle.zero_boards.proofs.Making.{map-from_fn}
use Rattle.zero_boards.proofs.pages.Goals as goal

pub returns : goal.returns
returns c = map-from_fn (λ i. pages_at i (slice_index c.args.sizes.now i)) (λ k y q e. search rules) 8 c.from_fn.ensures.items
