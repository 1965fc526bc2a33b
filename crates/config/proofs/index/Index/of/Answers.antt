use Rattle.std.proofs.Common.{◌≡◌, subst, refl, arith}
use Rattle.config.proofs.Marking.{Partly, none, taken, all}
use Rattle.config.proofs.index.Index.of.Goals as goal

pub loop-i-init : goal.loop-i-init
loop-i-init c = none c.args.tables.now _ refl

pub loop-i-preserved : goal.loop-i-preserved
loop-i-preserved c = taken c.args.tables.now c.loop-i.i c.loop-i.index _ c.requires c.loop-i-test.true c.add.ensures c.loop-i.invariant

pub returns : goal.returns
returns c =
    let k = c.args.tables.now in
    let e : c.loop-i.i ≡ k.ports.count = omega arith in
    all k c.loop-i.index (subst (λ n. Partly k n c.loop-i.index) e c.loop-i.invariant)
