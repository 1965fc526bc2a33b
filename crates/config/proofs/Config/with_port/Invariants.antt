use Rattle.std.proofs.Common.{◌≡◌}
use Rattle.machine.specs.Circle.{turns, with_pair}
use Rattle.config.proofs.Config.with_port.Given as goal

abbrev pub invariant-loop-j : goal.invariant-loop-j
invariant-loop-j l = l.found ≡ turns (with_pair l.self.tables l.i) l.j l.mask
