use Rattle.std.proofs.Common.{◌-◌}
use Rattle.boards.proofs.Stretching.{Laying, zeros}
use Rattle.boards.proofs.stretches.wipe.Given as goal

-- the bytes so far are zeros
abbrev pub invariant-loop-at : goal.invariant-loop-at
invariant-loop-at g l =
    Laying (g.L.Layout.view l.layout l.initial.memory) (g.L.Layout.view l.layout l.memory) l.i 0 (zeros l.size) l.size l.at

abbrev pub decreases-loop-at : goal.decreases-loop-at
decreases-loop-at g l = l.size - l.at
