use Rattle.std.proofs.Common.{◌≡◌}
use Rattle.machine.specs.Circle.{turns, with_raiser}
use Rattle.config.proofs.Config.with_links.Given as goal

abbrev pub invariant-loop-n : goal.invariant-loop-n
invariant-loop-n l = l.found ≡ turns (with_raiser l.self.tables l.q) l.n l.mask
