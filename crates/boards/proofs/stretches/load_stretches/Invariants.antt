use Rattle.std.proofs.Common.{◌-◌}
use Rattle.board.specs.Areas.{area}
use Rattle.boards.proofs.Stretching.{Reading}
use Rattle.boards.proofs.stretches.load_stretches.Given as goal

-- the bytes so far are those of the area
abbrev pub invariant-loop-done : goal.invariant-loop-done
invariant-loop-done g l =
    Reading (area (g.L.Layout.view l.layout l.memory) l.i) l.into l.at l.len l.done

abbrev pub decreases-loop-done : goal.decreases-loop-done
decreases-loop-done g l = l.len - l.done
