-- The plans of the records so far: their slots are in place.
use Rattle.std.proofs.Common.{◌≡◌, ℕ, ◌+◌, ◌-◌, ◌<◌, ◌≤◌, eqb, length, get_or, set, sym, refl, ◌∙◌, subst, inl, inr, arith, get_or-set_other, get_or-set_same}
use Rattle.std.proofs.lemmas.List.{length-set}
use Rattle.std.proofs.lemmas.Bool.{cases_eq, ne_eqb, cond-false}
use Rattle.tables.specs.Blank.{slot0, plan0}
use Rattle.tables.specs.Laws.{slot_at, SlotInPlace, In}
use Rattle.tables.specs.Rows.{plan_with, placed, end_of, slot_end}
use Rattle.tables.specs.declared.plan.Plan.{Plan}
use Rattle.tables.specs.Tables.{Plans}
use Rattle.tables.specs.declared.plan.Slot.{Slot}
use Rattle.tables.proofs.Lists.{one_more, replaced}

pub record FitPlan (n : ℕ) (p : Plan) : Type 0 where
  pub frame : In 1 1000000 p.frame
  pub few : p.slots.count ≤ 16
  pub size : length p.slots.rows ≡ 16
  pub each : (j : ℕ) → j < p.slots.count → SlotInPlace n p j

pub record FitPlans (n : ℕ) (ps : Plans) : Type 0 where
  pub size : length ps.rows ≡ 4
  pub each : (i : ℕ) → i < ps.count → FitPlan n (get_or ps.rows i plan0)

pub fit-plan : (n : ℕ) (ps : Plans) (g : ℕ) → FitPlans n ps → ps.count < 4 → In 1 1000000 g → FitPlans n (record { count = ps.count + 1; rows = set ps.rows ps.count (plan_with g) })
fit-plan n ps g f h x =
    let lt : ps.count < length ps.rows = omega (arith, f.size) in
    let new : FitPlan n (plan_with g) = record { frame = x; few = omega arith; size = refl; each = λ j l. absurd (omega arith) } in
    record { size = length-set _ _ _ ∙ f.size; each = one_more (λ _. FitPlan n) ps.rows ps.count (plan_with g) plan0 lt f.each new }

-- every slot ends at or before the end of the last one
ends_last : (n : ℕ) (p : Plan) → FitPlan n p → (i : ℕ) → i < p.slots.count → slot_end (slot_at i p) ≤ end_of p
ends_last n p f i h =
    let k = p.slots.count - 1 in
    let last = f.each k (omega arith) in
    let is : end_of p ≡ slot_end (slot_at k p) = cond-false (eqb p.slots.count 0) 0 (slot_end (slot_at k p)) (ne_eqb p.slots.count 0 (λ e. omega arith)) in
    elim (cases_eq i k) [
      | inl e ↦ subst (λ j. slot_end (slot_at j p) ≤ end_of p) (sym e) (omega (arith, is))
      | inr ne ↦ let b : slot_end (slot_at i p) ≤ (slot_at k p).start = last.ascends i (omega (arith, ne)) in omega (arith, is)
    ]

module _ (n : ℕ) (p : Plan) (x : Slot) (f : FitPlan n p) (h : p.slots.count < 16) where
  old_slot : (i : ℕ) → i < p.slots.count → slot_at i (placed x p) ≡ slot_at i p
  old_slot i l = get_or-set_other p.slots.rows p.slots.count i x slot0 (λ e. omega arith)

  new_slot : slot_at p.slots.count (placed x p) ≡ x
  new_slot = get_or-set_same p.slots.rows p.slots.count x slot0 (omega (arith, f.size))

  old_in_place : (j : ℕ) → j < p.slots.count → SlotInPlace n (placed x p) j
  old_in_place j l =
      let o = f.each j l in
      let e = old_slot j l in
      record {
        partition = subst (λ (y : Slot). y.partition < n) (sym e) o.partition;
        some = subst (λ (y : Slot). 1 ≤ y.duration) (sym e) o.some;
        ascends = λ i k. subst (λ (y : Slot). slot_end (slot_at i (placed x p)) ≤ y.start) (sym e) (subst (λ (z : Slot). slot_end z ≤ (slot_at j p).start) (sym (old_slot i (omega arith))) (o.ascends i k));
        ends = subst (λ (y : Slot). slot_end y ≤ p.frame) (sym e) o.ends;
      }

  new_in_place : x.partition < n → 1 ≤ x.duration → end_of p ≤ x.start → slot_end x ≤ p.frame → SlotInPlace n (placed x p) p.slots.count
  new_in_place a b c d =
      let e = new_slot in
      record {
        partition = subst (λ (y : Slot). y.partition < n) (sym e) a;
        some = subst (λ (y : Slot). 1 ≤ y.duration) (sym e) b;
        ascends = λ i k. subst (λ (y : Slot). slot_end (slot_at i (placed x p)) ≤ y.start) (sym e) (subst (λ (z : Slot). slot_end z ≤ x.start) (sym (old_slot i k)) (omega (arith, ends_last n p f i k)));
        ends = subst (λ (y : Slot). slot_end y ≤ p.frame) (sym e) d;
      }

  fit-placed : x.partition < n → 1 ≤ x.duration → end_of p ≤ x.start → slot_end x ≤ p.frame → FitPlan n (placed x p)
  fit-placed a b c d =
      record {
        frame = f.frame;
        few = omega arith;
        size = length-set _ _ _ ∙ f.size;
        each = λ j l. elim (cases_eq j p.slots.count) [
          | inl e ↦ subst (SlotInPlace n (placed x p)) (sym e) (new_in_place a b c d)
          | inr ne ↦ old_in_place j (omega (arith, ne))
        ];
      }

pub fit-slot : (n : ℕ) (ps : Plans) (x : Slot) → FitPlans n ps → 1 ≤ ps.count → (get_or ps.rows (ps.count - 1) plan0).slots.count < 16 → x.partition < n → 1 ≤ x.duration →
    end_of (get_or ps.rows (ps.count - 1) plan0) ≤ x.start → slot_end x ≤ (get_or ps.rows (ps.count - 1) plan0).frame →
    FitPlans n (record { count = ps.count; rows = set ps.rows (ps.count - 1) (placed x (get_or ps.rows (ps.count - 1) plan0)) })
fit-slot n ps x f h k a b c d =
    let p = get_or ps.rows (ps.count - 1) plan0 in
    let old : FitPlan n p = f.each (ps.count - 1) (omega arith) in
    record { size = length-set _ _ _ ∙ f.size; each = λ i j. replaced (FitPlan n) ps.rows (ps.count - 1) i (placed x p) plan0 (λ _. fit-placed n p x old k a b c d) (f.each i j) }
