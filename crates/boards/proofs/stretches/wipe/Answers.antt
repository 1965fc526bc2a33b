use Rattle.std.proofs.Common.{◌≡◌, ◌∙◌, ℕ, ap, arith}
use Rattle.std.proofs.lemmas.List.{length-replicate, length-take, length-drop}
use Rattle.boards.proofs.Stretching.{begun, put_more, room, zeros, zeros_of, all_zeros}
use Rattle.boards.proofs.stretches.wipe.Goals as goal

pub loop-at-init : goal.loop-at-init
loop-at-init g c =
    record { within = omega arith; areas = begun (g.L.Layout.view c.args.layout.now c.args.memory.now) c.args.i 0 (zeros c.size-size.result) }

pub overflow_add-p : goal.overflow_add-p
overflow_add-p g c =
    let r = room (g.L.Layout.laws c.args.layout.now) c.args.i c.loop-at.at (omega arith) in
    let f = g.N.fits in
    omega arith

pub slice_bounds-fill-end : goal.slice_bounds-fill-end
slice_bounds-fill-end g c =
    let r = room (g.L.Layout.laws c.args.layout.now) c.args.i c.loop-at.at (omega arith) in
    omega arith

pub loop-at-smaller : goal.loop-at-smaller
loop-at-smaller g c =
    let some = (g.L.Layout.laws c.args.layout.now).some c.args.i c.loop-at.at (omega arith) in
    omega arith

pub loop-at-preserved : goal.loop-at-preserved
loop-at-preserved g c =
    let laws = g.L.Layout.laws c.args.layout.now in
    let at = c.loop-at.at in
    let k = c.stretch-n.result in
    let ends = laws.ends c.args.i at (omega arith) in
    let r = room laws c.args.i at (omega arith) in
    let blank : c.fill.new.self ≡ zeros k = c.fill.ensures.after (λ y e. e) ∙ ap zeros (simp (length-take, length-drop) (omega arith)) in
    let l = length-replicate {A = ℕ} c.size-size.result 0 in
    record {
      within = omega arith;
      areas =
          put_more laws c.args.memory.now c.requires c.args.i 0 (zeros c.size-size.result) c.loop-at.memory c.fill.new.self at at c.place-p.result k _ (omega arith)
          c.loop-at.invariant.areas (blank ∙ zeros_of c.size-size.result at k (omega arith)) (omega arith) (omega arith) (omega arith) c.place-p.ensures (omega arith) (omega arith);
    }

pub returns : goal.returns
returns g c =
    let s = (g.L.Layout.laws c.args.layout.now).long c.args.memory.now c.requires c.args.i in
    all_zeros (g.L.Layout.view c.args.layout.now c.args.memory.now) _ c.args.i c.size-size.result c.loop-at.at c.loop-at.invariant.areas (omega arith) (omega arith)
