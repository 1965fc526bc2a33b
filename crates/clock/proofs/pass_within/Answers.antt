use Rattle.std.proofs.Common.{sym, ap, ◌∙◌, arith}
use Rattle.machine.specs.Time.{clock_of, timed}
use Rattle.clock.proofs.Running.{pass_in}
use Rattle.clock.proofs.pass_within.Goals as goal

pub returns : goal.returns
returns c =
    let k = c.args.clock.now in
    let h = c.requires.timely in
    record {
      timely = record { plan = h.plan; next = h.next; begun = omega arith; within = omega arith };
      is =
          ap (timed (clock_of c.args.t k.plan k.next k.start)) c.wake.ensures
          ∙ sym (pass_in c.args.plans.now c.args.t k.time k.plan k.next k.start c.args.parts.now h.begun c.requires.ahead c.requires.within);
    }
