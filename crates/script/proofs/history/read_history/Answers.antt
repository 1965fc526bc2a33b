use Rattle.std.proofs.Common.{◌≡◌, vec_items, Some, None, sym, ◌∙◌, arith}
use Rattle.std.proofs.lemmas.Result.{err_from_is_err_and}
use Rattle.script.specs.declared.error.ScriptError.TheVariants.{Malformed}
use Rattle.script.proofs.Records.{at_end, malformed, next}
use Rattle.script.proofs.history.read_history.Goals as goal

pub returns-in_err-cut : goal.returns-in_err-cut
returns-in_err-cut c =
    let none : c.next_event.result ≡ None = grind arith in
    let bad = sym c.loop-rest.invariant ∙ malformed _ _ c.loop-rest-test.ensures (rw none at c.next_event.ensures) in
    let p = err_from_is_err_and c.from_residual.result c.from_residual.ensures.1 in
    let e : c.in_err-cut.field-0.0 ≡ Malformed = grind arith in
    rw (p.1, p.2, e) bad

pub loop-rest-preserved : goal.loop-rest-preserved
loop-rest-preserved c =
    let is : c.next_event.result ≡ Some c.in_ok-cut.cut = grind arith in
    let cut = rw is at c.next_event.ensures in
    rw c.in_ok-push.ensures.items (next (vec_items c.loop-rest.history) _ _ _ c.loop-rest-test.ensures cut.event cut.rest ∙ c.loop-rest.invariant)

pub returns : goal.returns
returns c = sym c.loop-rest.invariant ∙ at_end _ _ c.loop-rest-test.ensures
