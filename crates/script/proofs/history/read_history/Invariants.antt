use Rattle.std.proofs.Common.{◌≡◌, length, vec_items}
use Rattle.script.specs.Format.{history_of}
use Rattle.script.proofs.Records.{joined}
use Rattle.script.proofs.history.read_history.Given as goal

abbrev pub invariant-loop-rest : goal.invariant-loop-rest
invariant-loop-rest l = joined (vec_items l.history) (history_of l.rest) ≡ history_of l.records

abbrev pub decreases-loop-rest : goal.decreases-loop-rest
decreases-loop-rest l = length l.rest
