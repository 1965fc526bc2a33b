use Rattle.std.proofs.Common.{take}
use Rattle.std.specs.Io.KnownBytes.{Appends}
use Rattle.machine.specs.Runs.{lines_of}
use Rattle.xmscript.specs.Boards.{answer_lines}
use Rattle.xmscript.proofs.show_answers.Given as goal

-- the lines of the answers so far
abbrev pub invariant-loop-exchange : goal.invariant-loop-exchange
invariant-loop-exchange g l =
    Appends (g.W.Write.contents l.fn.writer) (g.W.Write.contents l.writer) (answer_lines (lines_of (take l.exchange-index l.history)))
