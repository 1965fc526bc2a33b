use Rattle.kernel.proofs.Alerting.{Left}
use Rattle.kernel.proofs.messages.alert.Given as goal

-- the ports whose bits are gone have been told
abbrev pub invariant-loop-i : goal.invariant-loop-i
invariant-loop-i l = Left l.config.tables l.fn.c l.initial.parts l.left l.parts

abbrev pub decreases-loop-i : goal.decreases-loop-i
decreases-loop-i l = l.left
