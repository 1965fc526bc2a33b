use Rattle.std.proofs.Common.{◌≤◌, take, length}
use Rattle.std.specs.List.{flat_map}
use Rattle.std.specs.Io.KnownBytes.{Appends}
use Rattle.board.specs.Areas.{area}
use Rattle.xmscript.specs.Areas.{in_hex}
use Rattle.xmscript.proofs.show_bytes.Given as goal

-- the bytes so far, which are within the area
abbrev pub invariant-loop-at : goal.invariant-loop-at
invariant-loop-at g l =
    let bytes = area (g.B.Board.areas l.system.board) l.i in
    record { written : Appends (g.W.Write.contents l.fn.writer) (g.W.Write.contents l.writer) (flat_map in_hex (take l.at bytes)); within : l.at ≤ length bytes }
