use Rattle.std.proofs.Common.{ap}
use Rattle.std.proofs.lemmas.Result.{on_ok_weaker}
use Rattle.kernel.specs.World.{World}
use Rattle.xmscript.proofs.Boards.{board-printed}
use Rattle.xmscript.proofs.play.Goals as goal

pub returns-clause-printed : goal.returns-clause-printed
returns-clause-printed g c =
    on_ok_weaker c.show_areas.result
    (board-printed (g.W.Write.contents c.args.writer.now) (g.W.Write.contents c.writeln.new.self) (g.W.Write.contents c.show_answers.new.writer) _ _ _ _ _ _ _ _
    c.run-system.ensures.told (ap (λ (w : World). w.state.areas) c.run-system.ensures.ends) c.in_ok-writeln.ensures.bytes c.in_ok-show_answers.ensures)
    c.show_areas.ensures
