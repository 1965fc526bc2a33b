use Rattle.std.proofs.Common.{◌≡◌, length, sym, ◌∙◌, arith}
use Rattle.machine.specs.Questions.{slots_of}
use Rattle.config.proofs.Turning.{ordered, before_slot, in_slot, after_slot, after_all, started}
use Rattle.config.proofs.turn.find.Goals as goal

pub loop-i-init : goal.loop-i-init
loop-i-init c = started c.args.plan.now c.args.offset c.args.first c.requires.apart c.requires.within c.requires.past

pub returns-then-offset-slot : goal.returns-then-offset-slot
returns-then-offset-slot c =
    let p = c.args.plan.now in
    let d = ordered p c.requires.apart c.requires.within in
    sym (before_slot (slots_of p) c.args.offset p.frame d c.loop-i.i c.loop-i-test.true c.if-offset-slot.true) ∙ c.loop-i.invariant.turn

pub returns-then-offset-end : goal.returns-then-offset-end
returns-then-offset-end c =
    let p = c.args.plan.now in
    let d = ordered p c.requires.apart c.requires.within in
    rw c.new.ensures (sym (in_slot (slots_of p) c.args.offset p.frame d c.loop-i.i c.loop-i-test.true c.if-offset-slot.false c.if-offset-end.true) ∙ c.loop-i.invariant.turn)

pub loop-i-preserved : goal.loop-i-preserved
loop-i-preserved c =
    let p = c.args.plan.now in
    let d = ordered p c.requires.apart c.requires.within in
    record {
      there = omega (arith, c.loop-i-test.true);
      turn = sym (after_slot (slots_of p) c.args.offset p.frame d c.loop-i.i c.loop-i-test.true c.if-offset-end.false) ∙ c.loop-i.invariant.turn;
    }

pub returns : goal.returns
returns c =
    let p = c.args.plan.now in
    let d = ordered p c.requires.apart c.requires.within in
    let n : c.loop-i.i ≡ length (slots_of p) = omega (arith, c.loop-i-test.false, c.loop-i.invariant.there) in
    rw n at (sym (after_all (slots_of p) c.args.offset p.frame d c.loop-i.i c.loop-i-test.false) ∙ c.loop-i.invariant.turn)
