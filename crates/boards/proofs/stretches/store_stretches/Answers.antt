use Rattle.std.proofs.Common.{◌≡◌, ◌∙◌, ◌+◌, ◌-◌, ◌<◌, ap, take, drop, arith}
use Rattle.boards.proofs.Stretching.{begun, put_more, room, all_laid}
use Rattle.boards.proofs.stretches.store_stretches.Goals as goal

pub loop-done-init : goal.loop-done-init
loop-done-init g c =
    record { within = omega arith; areas = begun (g.L.Layout.view c.args.layout.now c.args.memory.now) c.args.i c.args.at c.args.bytes.now }

pub overflow_add-at : goal.overflow_add-at
overflow_add-at g c = omega (arith, c.requires.fits)

pub overflow_add-at-in-loop-done : goal.overflow_add-at-in-loop-done
overflow_add-at-in-loop-done g c = omega (arith, c.requires.fits)

pub slice_bounds-copy_from_slice-end : goal.slice_bounds-copy_from_slice-end
slice_bounds-copy_from_slice-end g c =
    let r = room (g.L.Layout.laws c.args.layout.now) c.args.i (c.args.at + c.loop-done.done) (omega (arith, c.requires.inside)) in
    omega arith

pub loop-done-preserved : goal.loop-done-preserved
loop-done-preserved g c =
    let laws = g.L.Layout.laws c.args.layout.now in
    let done = c.loop-done.done in
    let k = c.min-n.result in
    let i = c.args.i in
    let h : c.args.at + done < g.L.Layout.sizes c.args.layout.now i = omega (arith, c.requires.inside) in
    let e : done + k - done ≡ k = omega arith in
    let same : c.copy_from_slice.new.self ≡ take k (drop done c.args.bytes.now) =
    c.copy_from_slice.ensures.after ∙ ap (λ n. take n (drop done c.args.bytes.now)) e in
    record {
      within = omega arith;
      areas =
          put_more laws c.args.memory.now c.requires.whole i c.args.at c.args.bytes.now c.loop-done.memory c.copy_from_slice.new.self done (c.args.at + done) c.place-p.result k _
          (c.loop-done.auto.memory ∙ c.requires.whole) c.loop-done.invariant.areas same (omega arith) (omega arith) h c.place-p.ensures (omega arith) (omega arith);
    }

pub returns : goal.returns
returns g c =
    all_laid (g.L.Layout.view c.args.layout.now c.args.memory.now) _ c.args.i c.args.at c.loop-done.done c.args.bytes.now c.loop-done.invariant.areas (omega arith)
