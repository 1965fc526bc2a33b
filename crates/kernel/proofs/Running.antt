-- Who is on the processor is there.
use Rattle.std.proofs.Common.{◌≡◌, ℕ, ◌-◌, ◌<◌, true, Some, sym, ◌∙◌, subst}
use Rattle.std.proofs.lemmas.Bool.{lt-ltb}
use Rattle.tables.specs.declared.Tables.{Tables}
use Rattle.tables.specs.Laws.{SlotsInPlace}
use Rattle.machine.specs.declared.clock.Clock.{Clock}
use Rattle.machine.specs.Questions.{exists}
use Rattle.machine.specs.Time.{plan_at}
use Rattle.machine.proofs.Slots.{held}
use Rattle.config.specs.declared.turn.Turn.{Turn}
use Rattle.config.specs.Turns.{Current}

-- the partition whose turn it is has a slot of the plan in force, and so the vector has it
pub there : (k : Tables) (c : Clock) (t : Turn) (q : ℕ) → SlotsInPlace k → c.plan < k.plans.count → Current k.plans c t → t.holder ≡ Some q → exists k q ≡ true
there k c t q s p h e =
    let f = (held (plan_at k.plans c.plan) (c.time - c.start)).found q (sym h.holder ∙ e) in
    let l = ((s c.plan p).each f.0 f.1.0.there).partition in
    lt-ltb q k.partitions.count (subst (λ n. n < k.partitions.count) f.1.1 l)
