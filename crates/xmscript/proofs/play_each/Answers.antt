use Rattle.std.proofs.Common.{ℕ, List, ap, ap₂, ◌∙◌}
use Rattle.std.proofs.lemmas.Result.{on_ok_weaker}
use Rattle.board.specs.Areas.{Area}
use Rattle.vector.specs.Reading.{tables}
use Rattle.tables.specs.declared.Tables.{Tables}
use Rattle.machine.specs.declared.event.Event.{Event}
use Rattle.machine.specs.Runs.{lines, events_of}
use Rattle.machine.specs.Step.{boot}
use Rattle.zero_boards.specs.Layouts.{zeroed}
use Rattle.xmscript.specs.Words.{areas_of}
use Rattle.xmscript.proofs.Events.{events-kept}
use Rattle.xmscript.proofs.Boards.{boards-printed}
use Rattle.xmscript.proofs.play_each.Goals as goal

pub returns-clause-answered : goal.returns-clause-answered
returns-clause-answered g c =
    let t = tables c.args.bytes.now in
    let read = ap tables c.new-vector-2.ensures in
    c.play-2.ensures.answered
    ∙ ap₂ (λ (k : Tables) (ms : List Area). lines k (boot k ms) (events_of c.play.new.history)) read (c.paged-board.ensures.areas ∙ ap zeroed (c.shown-3.ensures.value ∙ read))
    ∙ ap (λ (es : List Event). lines t (boot t (zeroed t)) es) (events-kept _ _ _ _ c.play.ensures.answered)

pub returns-in_err-play-clause-answered : goal.returns-in_err-play-clause-answered
returns-in_err-play-clause-answered g c =
    let read = ap tables c.new-vector.ensures in
    c.play.ensures.answered
    ∙ ap₂ (λ (k : Tables) (ms : List Area). lines k (boot k ms) (events_of c.args.history.now)) read (c.fenced-board.ensures.areas ∙ ap zeroed (c.shown-2.ensures.value ∙ read))

pub returns-clause-printed : goal.returns-clause-printed
returns-clause-printed g c =
    let one = ap tables c.new-vector.ensures in
    let two = ap tables c.new-vector-2.ensures in
    let shown = c.areas-shown.ensures ∙ ap (λ (k : Tables). areas_of c.args.wanted k) (c.shown.ensures.value ∙ one) in
    on_ok_weaker c.play-2.result
    (boards-printed _ _ _ (tables c.args.bytes.now) (events_of c.args.history.now) c.args.wanted _ shown _ _ _ _ _ one two
    (c.fenced-board.ensures.areas ∙ ap zeroed (c.shown-2.ensures.value ∙ one)) (c.paged-board.ensures.areas ∙ ap zeroed (c.shown-3.ensures.value ∙ two))
    (events-kept _ _ _ _ c.play.ensures.answered) c.in_ok-play.ensures.printed)
    c.play-2.ensures.printed
