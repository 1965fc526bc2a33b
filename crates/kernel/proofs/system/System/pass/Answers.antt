use Rattle.std.proofs.Common.{◌-◌, sym, arith}
use Rattle.machine.specs.Questions.{slots_of}
use Rattle.machine.specs.Time.{plan_at}
use Rattle.kernel.proofs.Turning.{past_on, same_plan}
use Rattle.kernel.proofs.system.System.pass.Goals as goal
use Rattle.kernel.proofs.system.System.pass.Goals.{then-clock-begun, else-clock-begun}

-- in the same frame, the slots that had ended still have; in another one, none need have
pub turn-self-requires : goal.turn-self-requires
turn-self-requires g c =
    let s = c.args.self.now in
    let ps = s.core.config.tables.plans in
    let frames = s.core.config.sound.plans.each in
    let k = s.core.clock in
    let m = c.pass.new.clock in
    let h = s.timely in
    elim c.if-clock-begun.branch [
      | then-clock-begun w ↦
          let z = same_plan ps k m s.core.parts c.pass.new.parts c.args.t h.begun h.within (frames k.plan h.plan).some (frames k.next h.next).some c.requires.ahead c.pass.ensures.is w.if-clock-begun.true in
          let p = past_on (slots_of (plan_at ps k.plan)) (k.time - k.start) (m.time - m.start) s.core.turn.slot s.turned.past (omega (arith, z.later, w.if-clock-begun.true)) in
          rw (sym z.plan, sym w.first-is) at p
      | else-clock-begun w ↦ record { there = omega (arith, w.first-is); ended = λ j l. absurd (omega (arith, l, w.first-is)) }
    ]
