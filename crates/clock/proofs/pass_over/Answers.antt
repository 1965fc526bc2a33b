use Rattle.std.proofs.Common.{◌-◌, ◌+◌, ◌%◌, ◌<◌, ◌≤◌, sym, ap, ◌∙◌, mod-lt, arith}
use native.Mathlib.Nat.{mod-le}
use Rattle.machine.specs.Questions.{slots_of}
use Rattle.machine.specs.Time.{plan_at, clock_of, timed}
use Rattle.clock.specs.Ranges.{wake}
use Rattle.clock.proofs.Running.{pass-over}
use Rattle.clock.proofs.pass_over.Goals as goal

pub returns : goal.returns
returns c =
    let k = c.args.clock.now in
    let h = c.requires.timely in
    let t = c.args.t in
    let ps = c.args.plans.now in
    let v = (plan_at ps k.next).frame in
    let r = t - k.start - (plan_at ps k.plan).frame in
    let z : 0 < v = (c.requires.plans.each k.next h.next).some in
    let m : r % v < v = mod-lt r z in
    let n : r % v ≤ r = mod-le r v in
    let ss = slots_of (plan_at ps k.next) in
    let woken = wake (slots_of (plan_at ps k.plan)) (k.time - k.start + 1) (plan_at ps k.plan).frame c.args.parts.now in
    let both = c.wake_both.ensures ∙ ap (λ x. wake ss 0 x woken) c.upto.ensures in
    record {
      timely = record { plan = h.next; next = h.next; begun = omega arith; within = omega arith };
      is =
          ap (timed (clock_of t k.next k.next (t - r % v))) both
          ∙ sym (pass-over ps t k.time k.plan k.next k.start c.args.parts.now h.begun h.within z c.requires.over);
    }
