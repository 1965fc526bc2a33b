use Rattle.std.proofs.Common.{◌≡◌}
use Rattle.machine.specs.State.{wiped_all}
use Rattle.kernel.proofs.areas.wipe_all.Given as goal

-- the areas so far are wiped
abbrev pub invariant-loop-i : goal.invariant-loop-i
invariant-loop-i g l = g.B.Board.areas l.board ≡ wiped_all l.i (g.B.Board.areas l.initial.board)
