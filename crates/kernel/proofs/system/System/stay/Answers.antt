use Rattle.std.proofs.Common.{◌-◌, sym, ap, arith, rules}
use Rattle.machine.specs.Step.{with_timed}
use Rattle.machine.specs.Time.{plan_at, clock_of}
use Rattle.clock.specs.Timely.{Timely}
use Rattle.kernel.specs.World.{core_of, world_of, with_core}
use Rattle.kernel.proofs.Turning.{calm_passed, turned_on}
use Rattle.kernel.proofs.system.System.stay.Goals as goal

pub invariant_of-self : goal.invariant_of-self
invariant_of-self g c =
    let s = c.args.self.now in
    let ps = s.core.config.tables.plans in
    let k = s.core.clock in
    let h = s.timely in
    let timely : Timely ps (clock_of c.args.t k.plan k.next k.start) =
    record {
      plan = h.plan;
      next = h.next;
      begun = omega (arith, h.begun, c.requires.ahead);
      within = omega (arith, c.requires.within, s.turned.within, h.begun, c.requires.ahead);
    } in
    let turned = turned_on (plan_at ps k.plan) (k.time - k.start) (c.args.t - k.start) s.core.turn s.turned (omega (arith, c.requires.ahead)) c.requires.within in
    search rules

pub returns : goal.returns
returns g c =
    let s = c.args.self.now in
    ap (λ z. with_core (with_timed (core_of s.core) z) (world_of g.B.Board.areas s))
    (sym (calm_passed s.core.config.tables.plans s.core.clock s.core.parts c.args.t s.core.turn s.turned s.timely.begun c.requires.ahead c.requires.within))
