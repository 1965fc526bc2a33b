use Rattle.std.proofs.Common.{◌≡◌}
use Rattle.machine.specs.Circle.{turns, with_port, with_links}
use Rattle.config.proofs.Config.with_round.Given as goal

abbrev pub invariant-loop-i : goal.invariant-loop-i
invariant-loop-i l = l.found ≡ turns (with_port l.self.tables) l.i l.mask

abbrev pub invariant-loop-q : goal.invariant-loop-q
invariant-loop-q l = l.found ≡ turns (with_links l.self.tables) l.q (turns (with_port l.self.tables) l.self.tables.ports.count l.mask)
