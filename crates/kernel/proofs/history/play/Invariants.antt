use Rattle.kernel.specs.World.{world_of}
use Rattle.kernel.proofs.Going.{Underway}
use Rattle.kernel.proofs.history.play.Given as goal

abbrev pub invariant-loop-exchange : goal.invariant-loop-exchange
invariant-loop-exchange g l =
    Underway (world_of g.B.Board.areas l.initial.system) l.initial.history (world_of g.B.Board.areas l.system) l.exchange-index l.history
