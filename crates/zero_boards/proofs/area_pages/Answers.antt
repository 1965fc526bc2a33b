use Rattle.std.proofs.Common.{◌+◌, ◌-◌, ◌*◌, rules}
use Rattle.zero_boards.proofs.Making.{map-from_fn}
use Rattle.zero_boards.proofs.area_pages.Goals as goal

pub returns : goal.returns
returns c = rw (map-from_fn (λ k. 16 * (7 - c.args.i) + k) (λ k y q e. search rules) 16 c.from_fn.ensures.items)
