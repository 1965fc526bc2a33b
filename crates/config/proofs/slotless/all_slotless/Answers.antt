use Rattle.std.proofs.Common.{◌≡◌, sym, subst, arith}
use Rattle.config.proofs.Gapping.{Summed, summed_none, summed_more, summed_all}
use Rattle.config.proofs.slotless.all_slotless.Goals as goal

pub loop-i-init : goal.loop-i-init
loop-i-init c = summed_none c.args.plans.now

pub loop-i-preserved : goal.loop-i-preserved
loop-i-preserved c =
    let ps = c.args.plans.now in
    let m = summed_more ps c.as_slice-plan-items.result.now c.loop-i.i c.loop-i.sums c.as_slice-plan-items.ensures.is c.loop-i-test.true c.requires.sound.few c.loop-i.invariant in
    rw (sym c.gaps_of.ensures) at m

pub returns : goal.returns
returns c =
    let ps = c.args.plans.now in
    let e : c.loop-i.i ≡ ps.count = omega (arith, c.loop-i-test.false, c.as_slice-plan-items.ensures.all, c.requires.sound.few) in
    summed_all ps c.loop-i.sums (subst (λ n. Summed ps n c.loop-i.sums) e c.loop-i.invariant)
