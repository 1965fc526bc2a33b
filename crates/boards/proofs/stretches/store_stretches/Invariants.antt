use Rattle.std.proofs.Common.{◌-◌}
use Rattle.boards.proofs.Stretching.{Laying}
use Rattle.boards.proofs.stretches.store_stretches.Given as goal

-- the bytes so far lie in the area
abbrev pub invariant-loop-done : goal.invariant-loop-done
invariant-loop-done g l =
    Laying (g.L.Layout.view l.layout l.initial.memory) (g.L.Layout.view l.layout l.memory) l.i l.at l.bytes l.len l.done

abbrev pub decreases-loop-done : goal.decreases-loop-done
decreases-loop-done g l = l.len - l.done
