use Rattle.std.proofs.Common.{◌+◌, ◌≤◌, ◌<◌, ◌∙◌, length, get_or, ap, arith}
use Rattle.std.proofs.lemmas.List.{get_or-take, length-take}
use Rattle.tables.specs.Blank.{slot0}
use Rattle.tables.specs.declared.plan.Slot.{Slot}
use Rattle.config.proofs.Gapping.{gaps_more, gaps_end}
use Rattle.config.proofs.slotless.gaps_of.Goals as goal

-- the slot of this turn ends within the frame
ends : (c : goal.After-saturating_sub-sum) → (get_or c.as_slice-slot-items.result.now c.loop-slot.slot-index slot0).start + (get_or c.as_slice-slot-items.result.now c.loop-slot.slot-index slot0).duration ≤ 1000000
ends c =
    let table = c.args.plan.now.slots in
    let e = c.as_slice-slot-items.ensures.is in
    let i = c.loop-slot.slot-index in
    let n : i < table.count = omega (arith, length-take table.count table.rows, ap length e, c.loop-slot-test.true) in
    let s = ap (λ ss. get_or ss i slot0) e ∙ get_or-take table.count table.rows i slot0 n in
    omega (arith, c.requires.within i n, c.requires.sound.short, ap (λ (x : Slot). x.start) s, ap (λ (x : Slot). x.duration) s)

pub loop-slot-preserved : goal.loop-slot-preserved
loop-slot-preserved c =
    let m = gaps_more c.as_slice-slot-items.result.now c.args.plan.now.frame c.loop-slot.slot-index c.loop-slot.end c.loop-slot-test.true in
    record {
      gaps = omega (arith, m, c.loop-slot.invariant.gaps, c.saturating_sub-sum.ensures);
      small = omega (arith, ends c, c.loop-slot.invariant.small, c.saturating_sub-sum.ensures);
      within = ends c;
    }

pub returns : goal.returns
returns c =
    omega (arith, c.loop-slot.invariant.gaps, c.saturating_sub.ensures, gaps_end c.as_slice-slot-items.result.now c.args.plan.now.frame c.loop-slot.slot-index c.loop-slot.end c.loop-slot-test.false)
