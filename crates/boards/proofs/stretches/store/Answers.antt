use Rattle.std.proofs.Common.{◌≡◌, ◌∙◌, ◌+◌, sym, length, arith}
use Rattle.std.proofs.lemmas.Bool.{eqb-true}
use Rattle.std.proofs.lemmas.List.{take_all}
use Rattle.boards.proofs.Stretching.{begins, begun, put_more, room, all_laid}
use Rattle.boards.proofs.stretches.store.Goals as goal

pub returns-then-is_empty : goal.returns-then-is_empty
returns-then-is_empty g c =
    let areas = g.L.Layout.view c.args.layout.now c.args.memory.now in
    let none : length c.args.bytes.now ≡ 0 = eqb-true _ _ (sym c.if-is_empty.ensures) in
    all_laid areas areas c.args.i c.args.at 0 c.args.bytes.now (begun areas c.args.i c.args.at c.args.bytes.now) (sym none)

pub overflow_add-p : goal.overflow_add-p
overflow_add-p g c =
    let h = begins c.args.at (length c.args.bytes.now) _ c.requires.inside c.if-is_empty.ensures in
    let r = room (g.L.Layout.laws c.args.layout.now) c.args.i c.args.at h in
    let f = g.N.fits in
    omega arith

pub slice_bounds-copy_from_slice-end : goal.slice_bounds-copy_from_slice-end
slice_bounds-copy_from_slice-end g c =
    let h = begins c.args.at (length c.args.bytes.now) _ c.requires.inside c.if-is_empty.ensures in
    let r = room (g.L.Layout.laws c.args.layout.now) c.args.i c.args.at h in
    omega arith

pub returns : goal.returns
returns g c =
    let bytes = c.args.bytes.now in
    let k = length bytes in
    let i = c.args.i in
    let at = c.args.at in
    let memory = c.args.memory.now in
    let areas = g.L.Layout.view c.args.layout.now memory in
    let h = begins at k _ c.requires.inside c.if-is_empty.ensures in
    let same = c.copy_from_slice.ensures.after ∙ sym (take_all k bytes (omega arith)) in
    all_laid areas _ i at (0 + k) bytes
    (put_more (g.L.Layout.laws c.args.layout.now) memory c.requires.whole i at bytes memory c.copy_from_slice.new.self 0 at c.place-p.result k _ c.requires.whole
    (begun areas i at bytes) same (omega arith) (omega arith) h c.place-p.ensures (omega arith) (omega arith))
    (omega arith)
