use Rattle.std.proofs.Common.{◌≡◌, ◌<◌, length, get_or, set, sym, ap, ◌∙◌, arith, rules}
use Rattle.std.proofs.lemmas.List.{set-get_or}
use Rattle.tables.specs.Blank.{slot0}
use Rattle.machine.specs.Partitions.{nobody}
use Rattle.clock.specs.Ranges.{within}
use Rattle.clock.proofs.Waking.{started, wake_nil, wake-turn}
use Rattle.clock.proofs.wake_each.Goals as goal
use Rattle.clock.proofs.wake_each.Goals.{then-contains, else-contains}

pub loop-slot-init : goal.loop-slot-init
loop-slot-init c = sym (wake_nil c.args.offsets.start c.args.offsets.end c.args.parts.now)

pub loop-slot-preserved : goal.loop-slot-preserved
loop-slot-preserved c =
    let ss = c.as_slice-slot-items.result.now in
    let i = c.loop-slot.slot-index in
    let lo = c.args.offsets.start in
    let hi = c.args.offsets.end in
    let s = get_or ss i slot0 in
    let k = s.partition in
    let ps = c.loop-slot.parts in
    let b : c.contains.result ≡ within lo hi s.start = search rules in
    let l : i < length ss = omega arith in
    let turn : c.if-contains.parts ≡ set ps k (started (within lo hi s.start) (get_or ps k nobody)) =
    elim c.if-contains.branch [
      | then-contains w ↦
          w.parts-is ∙ ap (set ps k) (w.start_slot.ensures ∙ ap (λ b. started b (get_or ps k nobody)) (sym w.if-contains.true ∙ b))
      | else-contains w ↦
          w.parts-is ∙ sym (set-get_or ps k nobody) ∙ ap (λ b. set ps k (started b (get_or ps k nobody))) (sym w.if-contains.false ∙ b)
    ] in
    turn
    ∙ ap (λ qs. set qs k (started (within lo hi s.start) (get_or qs k nobody))) c.loop-slot.invariant
    ∙ sym (wake-turn ss i lo hi c.args.parts.now slot0 nobody l)
