use Rattle.std.proofs.Common.{◌≡◌, ◌∙◌, ◌-◌, ◌+◌, ap, take, drop, length, arith}
use Rattle.boards.proofs.Stretching.{begins, stretch_is, room}
use Rattle.boards.proofs.stretches.load.Goals as goal

pub overflow_add-p : goal.overflow_add-p
overflow_add-p g c =
    let h = begins c.args.at (length c.args.into.now) _ c.requires.inside c.if-is_empty.ensures in
    let r = room (g.L.Layout.laws c.args.layout.now) c.args.i c.args.at h in
    let f = g.N.fits in
    omega arith

pub slice_bounds-copy_from_slice-end : goal.slice_bounds-copy_from_slice-end
slice_bounds-copy_from_slice-end g c =
    let h = begins c.args.at (length c.args.into.now) _ c.requires.inside c.if-is_empty.ensures in
    let r = room (g.L.Layout.laws c.args.layout.now) c.args.i c.args.at h in
    omega arith

pub returns : goal.returns
returns g c =
    let k = length c.args.into.now in
    let memory = c.args.memory.now in
    let h = begins c.args.at k _ c.requires.inside c.if-is_empty.ensures in
    let e : c.place-p.result + k - c.place-p.result ≡ k = omega arith in
    c.copy_from_slice.ensures.after
    ∙ ap (λ n. take n (drop c.place-p.result memory)) e
    ∙ ap (λ x. take k (drop x memory)) c.place-p.ensures
    ∙ stretch_is (g.L.Layout.laws c.args.layout.now) memory c.requires.whole c.args.i c.args.at k h (omega arith)
