use Rattle.config.proofs.Marking.{Partly}
use Rattle.config.proofs.index.Index.of.Given as goal

-- the ports so far are taken in
abbrev pub invariant-loop-i : goal.invariant-loop-i
invariant-loop-i l = Partly l.tables l.i l.index
