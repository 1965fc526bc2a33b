use Rattle.xmscript.specs.Areas.{area_line}
use Rattle.xmscript.proofs.Appending.{appends-number}
use Rattle.xmscript.proofs.show_areas.Goals as goal

pub loop-i-preserved : goal.loop-i-preserved
loop-i-preserved g c =
    appends-number (area_line (g.B.Board.areas c.args.system.now.board)) _ _ _ c.loop-i.i c.loop-i.invariant c.in_ok-show_area.ensures
