-- What every vector that is taken says.
use Rattle.std.proofs.Common.{◌≡◌, ℕ, ◌+◌, ◌-◌, ◌/◌, ◌%◌, ◌^◌, ◌<◌, ◌≤◌, true, false, ◌&&◌, eqb, List, is_some, Some, None, Option, sym, refl, ap, subst, inl, inr, arith}
use Rattle.std.proofs.lemmas.Nat.{pow_pos, pow_below, div_below}
use Rattle.std.proofs.lemmas.Bool.{and_parts, eqb-true, false≢true, cases_lt, cases_eq, both_ways}
use Rattle.vector.specs.Out.{Out, fine, bad, then}
use Rattle.tables.specs.Bits.{has_bit}
use Rattle.tables.specs.Laws.{channel_at, plan_at, SlotInPlace, Lawful}
use Rattle.vector.specs.Ranges.{Mask}
use Rattle.tables.specs.Rows.{blank}
use Rattle.tables.specs.Sound.{SoundPlan, Sound}
use Rattle.vector.specs.Turns.{ends, has_partitions, has_plans, has_ports, settled}
use Rattle.vector.specs.Rooms.{Room}
use Rattle.vector.specs.Reading.{reading, verdict_of, taken, refused, takes, tables}
use Rattle.vector.specs.declared.kind.Kind.{Kind}
use Rattle.vector.specs.declared.sofar.Sofar.{Sofar}
use Rattle.tables.specs.declared.plan.Plan as plans
use Rattle.vector.proofs.Keeps.{taken-keeps}
use Rattle.vector.proofs.FitPlans.{FitPlan}
use Rattle.vector.proofs.Fits.{Fit, two-ports, fit-kept, fit-nothing}

ends_some : (l : Option Kind) → ends l ≡ true → is_some l ≡ true
ends_some None e = absurd (false≢true e)
ends_some (Some k) e = refl

-- a mask of n bits has no others
mask_below : (n m q : ℕ) → m < 2 ^ n → n ≤ q → has_bit m q ≡ false
mask_below n m q h l =
    let big : 2 ^ n ≤ 2 ^ q = elim (cases_eq n q) [ inl e ↦ subst (λ k. 2 ^ n ≤ 2 ^ k) e (omega arith) | inr ne ↦ let lt : n < q = omega (arith, ne) in omega (arith, pow_below n q lt) ] in
    let z : m / 2 ^ q ≡ 0 = omega (arith, div_below m (2 ^ q) 1 (pow_pos q) (omega arith)) in
    ap (λ k. eqb (k % 2) 1) z

mask_others : (n p m q : ℕ) → Mask n p m → has_bit m q ≡ true → (q < n) × (q ≡ p → ⊥)
mask_others n p m q h b = (
  elim (cases_lt q n) [ inl l ↦ l | inr l ↦ absurd (both_ways (has_bit m q) (mask_below n m q h.0 l) b) ],
  λ e. both_ways (has_bit m p) h.1 (subst (λ k. has_bit m k ≡ true) e b),
)

-- what is known where nothing is owed
module _ (s : Sofar) (r : Room s) (f : Fit s) (e : settled s ≡ true) where
  pub ended : (ends s.last ≡ true) × ((has_partitions s ≡ true) × ((has_plans s ≡ true) × (has_ports s ≡ true)))
  ended =
      let w = and_parts (ends s.last) (has_partitions s && (has_plans s && has_ports s)) e in
      let v = and_parts (has_partitions s) (has_plans s && has_ports s) w.1 in
      (w.0, (v.0, and_parts (has_plans s) (has_ports s) v.1))

  pub all-partitions : s.partitions ≡ s.tables.partitions.count
  all-partitions = sym (eqb-true _ _ ended.1.0)

  pub all-plans : s.plans ≡ s.tables.plans.count
  all-plans = sym (eqb-true _ _ ended.1.1.0)

  sound-plan : (p : plans.Plan) → FitPlan s.partitions p → SoundPlan p
  sound-plan p g = record { some = g.frame.0; short = g.frame.1; few = g.few; owners = λ i h. let o = (g.each i h).partition in omega (arith, r.promised.partitions) }

  sound : Sound s.tables
  sound =
      let p = f.some (ends_some s.last ended.0) in
      let n = all-partitions in
      let m = all-plans in
      let w = f.wires in
      record {
        some = omega arith;
        few = omega (arith, r.promised.partitions);
        plans = record { some = omega arith; few = omega (arith, r.promised.plans); each = λ i h. sound-plan (plan_at i s.tables) (f.plans.each i h) };
        channels = record { few = r.ported.few; each = w.sound };
        ports = record { few = w.few; each = λ i h. let b = w.belong i h in record { partition = omega (arith, r.promised.partitions); channel = omega (arith, r.ported.few) } };
        lines = λ i p q. let o = f.lines i p q in omega (arith, r.promised.partitions);
      }

  pub has_slot : (i : ℕ) → i < s.tables.plans.count → 1 ≤ (plan_at i s.tables).slots.count
  has_slot i h = elim (f.begun i h) [ inl o ↦ o | inr z ↦ absurd (false≢true (subst (λ (l : Option Kind). ends l ≡ true) z.1 ended.0)) ]

  has_two : (c : ℕ) → c < s.tables.channels.count → 2 ≤ (channel_at c s.tables).ports
  has_two c h =
      elim (cases_eq (c + 1) s.tables.channels.count) [
        | inl z ↦ let k : s.tables.channels.count - 1 ≡ c = omega arith in subst (λ j. 2 ≤ (channel_at j s.tables).ports) k (two-ports s ended.1.1.1 (omega arith))
        | inr ne ↦ f.wires.paired c (omega (arith, ne))
      ]

  lawful : Lawful s.tables
  lawful =
      let n = all-partitions in
      let w = f.wires in
      record {
        names = f.partitions.differ;
        slots = λ i h. record { some = has_slot i h; each = λ j k. subst (λ n. SlotInPlace n (plan_at i s.tables) j) n ((f.plans.each i h).each j k) };
        belong = λ i h. let b = w.belong i h in (omega arith, b.1);
        first = w.first;
        sources = λ c h. w.sources c h (omega (arith, has_two c h));
        counted = λ c h. record { counted = w.counted c h; two = has_two c h; queues = λ q. let l = w.queues c h q in omega (arith, has_two c h) };
        ports = w.names;
        links = λ p i m z. let l = f.partitions.links p i m z in (omega arith, λ q b. let o = mask_others s.partitions p m q l.1 b in (omega arith, o.1));
        lines = λ l p z. let o = f.lines l p z in omega arith;
      }

pub read-lawful : (bs : List ℕ) (s : Sofar) → reading bs ≡ fine s → Sound s.tables × Lawful s.tables
read-lawful bs s e = let k = taken-keeps Fit fit-kept fit-nothing bs s e in (sound s k.0.0 k.0.1 k.1, lawful s k.0.0 k.0.1 k.1)

taken_fine : (o : Out Sofar) → (elim (verdict_of o) [ taken ↦ true | refused l n p ↦ false ]) ≡ true → (s : Sofar) × (o ≡ fine s)
taken_fine (fine s) e = (s, refl)
taken_fine (bad r) e = absurd (false≢true e)

tables-read : (bs : List ℕ) (s : Sofar) → reading bs ≡ fine s → s.tables ≡ tables bs
tables-read bs s e = sym (ap (λ (o : Out Sofar). elim (then o (λ (s : Sofar). fine s.tables)) [ fine t ↦ t | bad r ↦ blank ]) e)

-- a vector that is taken was read to its end
pub taken-read : (bs : List ℕ) → takes bs ≡ true → (s : Sofar) × ((reading bs ≡ fine s) × (s.tables ≡ tables bs))
taken-read bs e = let o = taken_fine (reading bs) e in (o.0, (o.1, tables-read bs o.0 o.1))
