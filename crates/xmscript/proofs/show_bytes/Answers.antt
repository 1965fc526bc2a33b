use Rattle.std.proofs.Common.{◌≡◌, ◌+◌, ◌<◌, ◌≤◌, length, sym, ap, ◌∙◌, rules, arith}
use Rattle.std.specs.Fmt.{styled_digits_output}
use Rattle.board.specs.Areas.{area}
use Rattle.xmscript.proofs.Hex.{loaded-within, loaded-past, hex-written, next-byte, all-bytes}
use Rattle.xmscript.proofs.show_bytes.Goals as goal

pub loop-at-preserved : goal.loop-at-preserved
loop-at-preserved g c =
    let ms = g.B.Board.areas c.args.system.now.board in
    let e = sym c.byte.ensures ∙ c.in-Some.is in
    let b : c.in-Some.byte < 256 = search rules in
    let w = loaded-within ms c.args.i c.loop-at.at _ e in
    record {
      written =
          next-byte _ _ ms c.args.i c.loop-at.at c.loop-at.invariant.written _ _ e
          (hex-written _ _ _ _ _ c.in_radix.ensures (ap (λ z. styled_digits_output c.in_radix.result z) c.laid_out.ensures) b c.in_ok-write.ensures.bytes);
      within = omega arith;
    }

pub returns-in_default : goal.returns-in_default
returns-in_default g c =
    let ms = g.B.Board.areas c.args.system.now.board in
    let e = sym c.byte.ensures ∙ c.in_default.is in
    let h : c.loop-at.at ≤ 1024 = search rules in
    all-bytes _ _ ms c.args.i c.loop-at.at c.loop-at.invariant.written h (loaded-past ms c.args.i c.loop-at.at e)

pub returns : goal.returns
returns g c =
    let e : c.loop-at.at ≡ 1024 = search rules in
    rw e at c.loop-at.invariant.written
