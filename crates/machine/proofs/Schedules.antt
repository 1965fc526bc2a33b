-- Who is on the processor: whoever is READY, while its slot runs.
use Rattle.std.proofs.Common.{◌≡◌, ℕ, ◌-◌, ◌<◌, true, false, Some, None, Option, sym, refl, ap, ◌∙◌, arith}
use Rattle.std.proofs.lemmas.Bool.{both_ways, and_parts, and_from, lt-ltb, eqb-true, eq-eqb}
use Rattle.tables.specs.Laws.{Lawful}
use Rattle.tables.specs.declared.Tables.{Tables}
use Rattle.machine.specs.declared.partition.Status.{Status}
use Rattle.machine.specs.declared.partition.Status.TheVariants.{Halted, Ready, Idle, Suspended}
use Rattle.machine.specs.Partitions.{is_ready}
use Rattle.machine.specs.Questions.{exists, plan, names}
use Rattle.machine.specs.State.{Core}
use Rattle.machine.specs.Step.{turn, running}
use Rattle.machine.specs.Laws.{Single, Scheduled, PlansThere, Served}
use Rattle.machine.specs.Searches.{Apart}
use Rattle.machine.proofs.Slots.{held}
use Rattle.machine.proofs.Names.{some_inj}

named : (o : Option ℕ) (q : ℕ) → names o q ≡ true → o ≡ Some q
named None q h = absurd (both_ways false refl h)
named (Some p) q h = ap {B = Option ℕ} Some (eqb-true p q h)

ready : (s : Status) → is_ready s ≡ true → s ≡ Ready
ready Halted h = absurd (both_ways false refl h)
ready Ready h = refl
ready Idle h = absurd (both_ways false refl h)
ready Suspended h = absurd (both_ways false refl h)

pub scheduled : (k : Tables) (x : Core) (q : ℕ) → running k x q ≡ true → Scheduled k x q
scheduled k x q h =
    let u = and_parts (exists k q) _ h in
    let v = and_parts (turn k x q) _ u.1 in
    let s = named _ q v.0 in
    record { there = u.0; ready = ready _ v.1; slot = s; runs = (held (plan k x.clock.plan) (x.clock.time - x.clock.start)).found q s }

pub single : (k : Tables) (x : Core) → Single k x
single k x q r g h = some_inj q r (sym (scheduled k x q g).slot ∙ (scheduled k x r h).slot)

-- slots do not overlap
pub apart : (k : Tables) (i : ℕ) → Lawful k → i < k.plans.count → Apart (plan k i)
apart k i w h a b l m = ((w.slots i h).each b m).ascends a l

pub served : (k : Tables) (x : Core) → Lawful k → PlansThere k x → Served k x
served k x w h q j r e =
    let p = plan k x.clock.plan in
    let o = x.clock.time - x.clock.start in
    let s = (held p o).any (apart k x.clock.plan w h.0) j r.0 in
    let t = ((w.slots x.clock.plan h.0).each j r.0.there).partition in
    and_from (exists k q) _ (lt-ltb _ _ (omega (arith, t, r.1)))
    (and_from (turn k x q) _
    (ap (λ h. names h q) s ∙ eq-eqb _ _ r.1)
    (ap is_ready e))
