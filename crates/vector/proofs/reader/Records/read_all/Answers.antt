use Rattle.std.proofs.Common.{sym, ap, ◌∙◌}
use Rattle.std.proofs.lemmas.Result.{err_from_is_err_and}
use Rattle.vector.specs.Out.{fine}
use Rattle.vector.specs.Points.{point_of, shown_of}
use Rattle.vector.proofs.Scans.{goes_on, stops, fails}
use Rattle.vector.proofs.reader.Records.read_all.Goals as goal

pub returns-in_err-next_record : goal.returns-in_err-next_record
returns-in_err-next_record c =
    let p = err_from_is_err_and c.from_residual.result c.from_residual.ensures.1 in
    rw (p.1, p.2) (sym (sym c.loop.invariant ∙ fails (point_of c.loop.self) _ c.in_err-next_record.ensures.answer))

pub loop-smaller : goal.loop-smaller
loop-smaller c =
    let e = c.in_ok-next_record.ensures in
    (goes_on (point_of c.loop.self) (point_of c.next_record.new.self) _ (ap (λ o. fine (shown_of o)) (sym c.in-Some.is) ∙ e.answer) e.after).less

pub loop-preserved : goal.loop-preserved
loop-preserved c =
    let e = c.in_ok-next_record.ensures in
    (goes_on (point_of c.loop.self) (point_of c.next_record.new.self) _ (ap (λ o. fine (shown_of o)) (sym c.in-Some.is) ∙ e.answer) e.after).same ∙ c.loop.invariant

pub returns : goal.returns
returns c =
    let e = c.in_ok-next_record.ensures in
    sym (sym c.loop.invariant ∙ stops (point_of c.loop.self) (point_of c.next_record.new.self) (ap (λ o. fine (shown_of o)) (sym c.in_default.is) ∙ e.answer) e.after)
