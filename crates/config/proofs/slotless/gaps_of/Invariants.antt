use Rattle.std.proofs.Common.{◌≡◌, ℕ, ◌+◌, ◌*◌, ◌≤◌, List, drop}
use Rattle.tables.specs.declared.plan.Plan.{Plan}
use Rattle.tables.specs.declared.plan.Slot.{Slot}
use Rattle.machine.specs.Questions.{slots_of}
use Rattle.machine.specs.Management.{gaps}
use Rattle.config.proofs.slotless.gaps_of.Given as goal

-- what is left of the frame after i slots, the last of which ended at e, gives the rest of the sum
pub record Added (p : Plan) (ss : List Slot) (i e sum : ℕ) : Type 0 where
  pub gaps : sum + gaps e (drop i ss) p.frame ≡ gaps 0 (slots_of p) p.frame
  pub small : sum ≤ 1000000 * i
  pub within : e ≤ 1000000

abbrev pub invariant-loop-slot : goal.invariant-loop-slot
invariant-loop-slot l = Added l.plan l.slot-items l.slot-index l.end l.sum
