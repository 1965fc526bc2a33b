-- Between the edges of slots the same partition runs, and nobody wakes.
use Rattle.std.proofs.Common.{◌≡◌, ℕ, ◌+◌, ◌-◌, ◌%◌, ◌<◌, ◌≤◌, false, cond, ◌&&◌, ◌||◌, eqb, leb, ltb, List, [], ◌∷◌, Some, inl, inr, sym, refl, ap, ap₂, ◌∙◌, arith}
use Rattle.std.proofs.Math.Nat.{mod-le}
use Rattle.std.proofs.Math.Bool.{and-false}
use Rattle.std.proofs.lemmas.Bool.{both_ways, or_parts, cases_lt, eq-eqb}
use Rattle.std.proofs.lemmas.Bool.Decides.{nat_tests}
use Rattle.tables.specs.Tables.{Plans}
use Rattle.tables.specs.declared.plan.Plan.{Plan}
use Rattle.tables.specs.declared.plan.Slot.{Slot}
use Rattle.machine.specs.declared.clock.Clock.{Clock}
use Rattle.machine.specs.declared.partition.Partition.{Partition}
use Rattle.machine.specs.Questions.{slots_of, covers, holder}
use Rattle.machine.specs.Time.{Timed, plan_at, clock_of, timed, micros}
use Rattle.clock.specs.Ranges.{within, starts}
use Rattle.clock.proofs.Running.{pass_in, pass-over}
use Rattle.clock.proofs.Waking.{wake-calm}
use Rattle.config.specs.Turns.{edges, Calm, Past, Turned}
use Rattle.config.specs.declared.turn.Turn.{Turn}

module _ (o u : ℕ) where
  -- what is calm of a slot and others is calm of the others, and of the slot
  rest : (s : Slot) (ss : List Slot) → Calm (s ∷ ss) o u → Calm ss o u
  unfolding edges
  rest s ss h x l m = (or_parts (eqb s.start x || eqb (s.start + s.duration) x) (edges ss x) (h x l m)).1

  no_start : (s : Slot) (ss : List Slot) → Calm (s ∷ ss) o u → o < s.start → s.start < u → ⊥
  unfolding edges
  no_start s ss h l m =
      let x = s.start in
      both_ways (eqb x x) (or_parts (eqb x x) _ (or_parts (eqb x x || eqb (s.start + s.duration) x) (edges ss x) (h x l m)).0).0 (eq-eqb x x refl)

  no_end : (s : Slot) (ss : List Slot) → Calm (s ∷ ss) o u → o < s.start + s.duration → s.start + s.duration < u → ⊥
  unfolding edges
  no_end s ss h l m =
      let x = s.start + s.duration in
      both_ways (eqb x x) (or_parts (eqb s.start x) _ (or_parts (eqb s.start x || eqb x x) (edges ss x) (h x l m)).0).1 (eq-eqb x x refl)

  -- an edge that is not crossed lies before both offsets, or before neither
  same_before : (x e : ℕ) → (o < e → e < u → ⊥) → o ≤ x → x < u → leb e x ≡ leb e o
  same_before x e h l m =
      elim (cases_lt o e) [
        | inl p ↦ elim (cases_lt x e) [ inl q ↦ grind (arith, nat_tests) | inr q ↦ absurd (h p (omega arith)) ]
        | inr p ↦ grind (arith, nat_tests)
      ]

  same_after : (x e : ℕ) → (o < e → e < u → ⊥) → o ≤ x → x < u → ltb x e ≡ ltb o e
  same_after x e h l m = grind (arith, nat_tests, same_before x e h l m)

  same-holder : (ss : List Slot) (x : ℕ) → Calm ss o u → o ≤ x → x < u → holder ss x ≡ holder ss o
  unfolding holder
  same-holder [] x h l m = refl
  same-holder (s ∷ ss) x h l m =
      let a = same_before x s.start (no_start s ss h) l m in
      let b = same_after x (s.start + s.duration) (no_end s ss h) l m in
      ap₂ (λ p q. cond (p && q) (Some s.partition) (holder ss x)) a b
      ∙ ap (λ r. cond (covers s o) (Some s.partition) r) (same-holder ss x (rest s ss h) l m)

  no_begin : (s : Slot) (ss : List Slot) (x : ℕ) → Calm (s ∷ ss) o u → x < u → within (o + 1) (x + 1) s.start ≡ false
  no_begin s ss x h m =
      elim (cases_lt o s.start) [
        | inl p ↦ elim (cases_lt x s.start) [ inl q ↦ grind (arith, nat_tests) | inr q ↦ absurd (no_start s ss h p (omega arith)) ]
        | inr p ↦ grind (arith, nat_tests)
      ]

  no_starts : (ss : List Slot) (x q : ℕ) → Calm ss o u → x < u → starts ss (o + 1) (x + 1) q ≡ false
  unfolding starts
  no_starts [] x q h m = refl
  no_starts (s ∷ ss) x q h m =
      ap₂ (λ y z. (eqb s.partition q && y) || z) (no_begin s ss x h m) (no_starts ss x q (rest s ss h) m) ∙ ap (λ y. y || false) (and-false (eqb s.partition q))

-- slots that have ended stay so in the frame
pub past_on : (ss : List Slot) (o x n : ℕ) → Past ss o n → o ≤ x → Past ss x n
past_on ss o x n h l = record { there = h.there; ended = λ j m. omega (arith, l, h.ended j m) }

-- a turn stays right up to its end
pub turned_on : (p : Plan) (o x : ℕ) (t : Turn) → Turned p o t → o ≤ x → x < t.until → Turned p x t
turned_on p o x t h l m = record {
  holder = h.holder ∙ sym (same-holder o t.until (slots_of p) x h.calm l m);
  calm = λ y a b. h.calm y (omega arith) b;
  within = h.within;
  past = past_on (slots_of p) o x t.slot h.past l;
}

-- up to there a microsecond only moves the time
pub calm_passed : (ps : Plans) (k : Clock) (qs : List Partition) (t : ℕ) (u : Turn) →
    Turned (plan_at ps k.plan) (k.time - k.start) u → k.start ≤ k.time → k.time ≤ t → t - k.start < u.until →
    micros ps (t - k.time) (timed k qs) ≡ timed (clock_of t k.plan k.next k.start) qs
calm_passed ps k qs t u h f l m =
    let ss = slots_of (plan_at ps k.plan) in
    pass_in ps t k.time k.plan k.next k.start qs f l (omega (arith, m, h.within))
    ∙ ap (timed (clock_of t k.plan k.next k.start)) (wake-calm ss (k.time - k.start + 1) (t - k.start + 1) qs (λ q. no_starts (k.time - k.start) u.until ss (t - k.start) q h.calm m))

-- as long as the frame's start stays, its plan does
pub same_plan : (ps : Plans) (k m : Clock) (qs rs : List Partition) (t : ℕ) →
    k.start ≤ k.time → k.time < k.start + (plan_at ps k.plan).frame → 0 < (plan_at ps k.plan).frame → 0 < (plan_at ps k.next).frame → k.time ≤ t →
    timed m rs ≡ micros ps (t - k.time) (timed k qs) → m.start ≡ k.start → record { plan : m.plan ≡ k.plan; later : k.time ≤ m.time }
same_plan ps k m qs rs t f h z y l e s =
    let w = (plan_at ps k.plan).frame in
    let clock : Timed → Clock = λ x. x.clock in
    elim (cases_lt (t - k.start) w) [
      | inl p ↦
          let g : m ≡ clock_of t k.plan k.next k.start = ap clock (e ∙ pass_in ps t k.time k.plan k.next k.start qs f l p) in
          record { plan = ap (λ (c : Clock). c.plan) g; later = omega (arith, l, ap (λ (c : Clock). c.time) g) }
      | inr p ↦
          let r = t - k.start - w in
          let g : m.start ≡ t - r % (plan_at ps k.next).frame = ap (λ (x : Timed). x.clock.start) (e ∙ pass-over ps t k.time k.plan k.next k.start qs f h y p) in
          absurd (omega (arith, s, g, z, p, mod-le r (plan_at ps k.next).frame))
    ]
