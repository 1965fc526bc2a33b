use Rattle.std.proofs.Common.{length}
use Rattle.kernel.specs.World.{world_of}
use Rattle.entrance.proofs.Going.{Underway}
use Rattle.entrance.proofs.answer_all.Given as goal

abbrev pub invariant-loop-rest : goal.invariant-loop-rest
invariant-loop-rest g l =
    Underway (world_of g.B.Board.areas l.initial.system) l.records l.initial.answers (world_of g.B.Board.areas l.system) l.rest l.answers l.count

abbrev pub decreases-loop-rest : goal.decreases-loop-rest
decreases-loop-rest g l = length l.rest
