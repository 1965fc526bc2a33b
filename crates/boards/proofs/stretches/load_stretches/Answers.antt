use Rattle.std.proofs.Common.{◌≡◌, ◌∙◌, ◌+◌, ◌-◌, ◌<◌, refl, ap, take, drop, length, arith}
use Rattle.std.proofs.lemmas.List.{length-take, length-drop}
use Rattle.board.specs.Areas.{area}
use Rattle.boards.proofs.Stretching.{stretch_is, read_more, room}
use Rattle.boards.proofs.stretches.load_stretches.Goals as goal

pub overflow_add-at : goal.overflow_add-at
overflow_add-at g c = omega (arith, c.requires.fits)

pub overflow_add-at-in-loop-done : goal.overflow_add-at-in-loop-done
overflow_add-at-in-loop-done g c = omega (arith, c.requires.fits)

pub slice_bounds-copy_from_slice-end-in-loop-done : goal.slice_bounds-copy_from_slice-end-in-loop-done
slice_bounds-copy_from_slice-end-in-loop-done g c =
    let r = room (g.L.Layout.laws c.args.layout.now) c.args.i (c.args.at + c.loop-done.done) (omega (arith, c.requires.inside)) in
    omega arith

pub loop-done-preserved : goal.loop-done-preserved
loop-done-preserved g c =
    let laws = g.L.Layout.laws c.args.layout.now in
    let done = c.loop-done.done in
    let k = c.min-n.result in
    let i = c.args.i in
    let from = c.args.at + done in
    let h : c.args.at + done < g.L.Layout.sizes c.args.layout.now i = omega (arith, c.requires.inside) in
    let r = room laws i from h in
    let a = area (g.L.Layout.view c.args.layout.now c.args.memory.now) i in
    let memory = c.args.memory.now in
    let e : c.place-p.result + k - c.place-p.result ≡ k = omega arith in
    let same : c.copy_from_slice.new.self ≡ take k (drop from a) =
    c.copy_from_slice.ensures.after
    ∙ ap (λ n. take n (drop c.place-p.result memory)) e
    ∙ ap (λ x. take k (drop x memory)) c.place-p.ensures
    ∙ stretch_is laws memory c.requires.whole i from k h (omega arith) in
    let long : length c.copy_from_slice.new.self ≡ k = c.copy_from_slice.ensures.len ∙ simp (length-take, length-drop) (omega arith) in
    record {
      within = omega arith;
      bytes = read_more a c.loop-done.into c.copy_from_slice.new.self c.args.at done k _ from c.loop-done.invariant.bytes same long refl (omega arith);
    }
