use Rattle.std.proofs.Common.{◌≡◌, ◌^◌}
use Rattle.machine.specs.Circle.{turns, with_system, with_round}
use Rattle.config.proofs.Config.circle_of.Given as goal

abbrev pub invariant-loop-q : goal.invariant-loop-q
invariant-loop-q l = l.found ≡ turns (with_system l.self.tables) l.q (2 ^ l.fn.partition)

abbrev pub invariant-loop-round : goal.invariant-loop-round
invariant-loop-round l = l.found ≡ turns (with_round l.self.tables) l.round (turns (with_system l.self.tables) l.self.tables.partitions.count (2 ^ l.fn.partition))
