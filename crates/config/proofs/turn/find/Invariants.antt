use Rattle.config.proofs.Turning.{Left}
use Rattle.config.proofs.turn.find.Given as goal

-- the slots so far have ended: what is left of them gives the turn
abbrev pub invariant-loop-i : goal.invariant-loop-i
invariant-loop-i l = Left l.plan l.slots l.offset l.i
