use Rattle.std.specs.Io.KnownBytes.{Appends}
use Rattle.xmscript.specs.Areas.{area_lines}
use Rattle.xmscript.proofs.show_areas.Given as goal

-- the lines of the areas so far
abbrev pub invariant-loop-i : goal.invariant-loop-i
invariant-loop-i g l =
    Appends (g.W.Write.contents l.fn.writer) (g.W.Write.contents l.writer) (area_lines (g.B.Board.areas l.system.board) l.i)
