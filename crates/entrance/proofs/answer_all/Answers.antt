use Rattle.std.proofs.Common.{◌≡◌, Some, None, arith}
use Rattle.std.proofs.lemmas.Result.{err_from_is_err_and}
use Rattle.entrance.specs.declared.error.EntranceError.TheVariants.{Malformed}
use Rattle.entrance.proofs.Going.{onward, over, cut_short, no_room}
use Rattle.entrance.proofs.answer_all.Goals as goal

pub returns-in_err-cut : goal.returns-in_err-cut
returns-in_err-cut g c =
    let none : c.next_event.result ≡ None = grind arith in
    let z = cut_short _ _ _ _ _ _ _ c.loop-rest.invariant c.loop-rest-test.ensures (rw none at c.next_event.ensures) in
    let p = err_from_is_err_and c.from_residual.result c.from_residual.ensures.1 in
    let e : c.in_err-cut.field-0.0 ≡ Malformed = grind arith in
    record { ending = rw (p.1, p.2, e) z.ending; bytes = z.bytes; world = z.world }

pub returns-then-count-room : goal.returns-then-count-room
returns-then-count-room g c =
    let is : c.next_event.result ≡ Some c.in_ok-cut.cut = grind arith in
    let cut = rw is at c.next_event.ensures in
    let z = no_room _ _ _ _ _ _ _ c.loop-rest.invariant _ c.loop-rest-test.ensures cut.event c.if-count-room.true in
    record { ending = z.ending; bytes = z.bytes; world = z.world }

pub loop-rest-preserved : goal.loop-rest-preserved
loop-rest-preserved g c =
    let is : c.next_event.result ≡ Some c.in_ok-cut.cut = grind arith in
    let cut = rw is at c.next_event.ensures in
    onward _ _ _ _ _ _ _ c.loop-rest.invariant _ _ _ _ _ (omega arith) (omega arith) c.loop-rest-test.ensures cut.event cut.rest c.event.ensures.is (rw c.from-reply.ensures at c.write_reply.ensures)

pub returns : goal.returns
returns g c =
    let z = over _ _ _ _ _ _ _ c.loop-rest.invariant c.loop-rest-test.ensures in
    record { ending = z.ending; bytes = z.bytes; world = z.world }
