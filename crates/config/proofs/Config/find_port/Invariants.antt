use Rattle.config.proofs.Finding.{Left}
use Rattle.config.proofs.Config.find_port.Given as goal

abbrev pub invariant-loop-i : goal.invariant-loop-i
invariant-loop-i l = Left l.self.tables l.q l.fn.kind l.name l.left

abbrev pub decreases-loop-i : goal.decreases-loop-i
decreases-loop-i l = l.left
