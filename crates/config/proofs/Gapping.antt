-- The gaps of a frame, slot by slot.
use Rattle.std.proofs.Common.{◌≡◌, ◌∙◌, ℕ, ◌+◌, ◌-◌, ◌<◌, ◌≤◌, List, length, get_or, set, take, drop, replicate, inl, inr, sym, refl, ap, arith}
use Rattle.std.proofs.lemmas.Bool.{cases_eq, cases_lt, cond-true, cond-false, lt-ltb, le-ltb}
use Rattle.std.proofs.Math.ListN.{get_or-eq_default}
use Rattle.std.proofs.lemmas.Grind.{get_or-set_at}
use Rattle.std.proofs.lemmas.List.{drop_more, drop_all, length-set, length-take, get_or-replicate, get_or-take, get_or-set_other}
use Rattle.tables.specs.Tables.{Plans}
use Rattle.tables.specs.declared.plan.Plan.{Plan}
use Rattle.tables.specs.declared.plan.Slot.{Slot}
use Rattle.tables.specs.Blank.{slot0, plan0}
use Rattle.machine.specs.Questions.{slots_of}
use Rattle.machine.specs.Time.{plan_at}
use Rattle.machine.specs.Management.{gaps}
use Rattle.config.specs.Slotless.{Gapped}

module _ (ss : List Slot) (f : ℕ) where
  -- the gap before the next slot, and those after it
  pub gaps_more : (i e : ℕ) → i < length ss →
      gaps e (drop i ss) f ≡ ((get_or ss i slot0).start - e) + gaps ((get_or ss i slot0).start + (get_or ss i slot0).duration) (drop (i + 1) ss) f
  unfolding gaps
  gaps_more i e h = ap (λ xs. gaps e xs f) (drop_more ss i slot0 h)

  -- the gap after the last slot
  pub gaps_end : (i e : ℕ) → length ss ≤ i → gaps e (drop i ss) f ≡ f - e
  unfolding gaps
  gaps_end i e h = ap (λ xs. gaps e xs f) (drop_all i ss h)

-- the microseconds of a plan's frame that no slot has
abbrev sum_of : Plan → ℕ
sum_of p = gaps 0 (slots_of p) p.frame

-- those of the first n plans are added up, and the other sums are 0
pub record Summed (ps : Plans) (n : ℕ) (gs : List ℕ) : Type 0 where
  pub four : length gs ≡ 4
  pub sums : (j : ℕ) → j < n → get_or gs j 0 ≡ sum_of (plan_at ps j)
  pub rest : (j : ℕ) → n ≤ j → get_or gs j 0 ≡ 0

pub summed_none : (ps : Plans) → Summed ps 0 (replicate 4 0)
summed_none ps =
    record {
      four = refl;
      sums = λ j l. absurd (omega (arith, l));
      rest = λ j l.
          elim (cases_lt j 4) [
            | inl m ↦ get_or-replicate 4 j 0 0 m
            | inr m ↦ get_or-eq_default (replicate 4 0) 0 m
          ];
    }

pub summed_more : (ps : Plans) (ss : List Plan) (n : ℕ) (gs : List ℕ) → ss ≡ take ps.count ps.rows → n < length ss → ps.count ≤ 4 → Summed ps n gs →
    Summed ps (n + 1) (set gs n (sum_of (get_or ss n plan0)))
summed_more ps ss n gs e l few m =
    let v = sum_of (get_or ss n plan0) in
    let there : n < ps.count = omega (arith, l, ap length e, length-take ps.count ps.rows) in
    let same : get_or ss n plan0 ≡ plan_at ps n = ap (λ xs. get_or xs n plan0) e ∙ get_or-take ps.count ps.rows n plan0 there in
    record {
      four = length-set gs n v ∙ m.four;
      sums = λ j h.
          elim (cases_eq j n) [
            | inl i ↦ get_or-set_at gs n j v 0 i (omega (arith, m.four, there, few)) ∙ ap sum_of (same ∙ ap (plan_at ps) (sym i))
            | inr d ↦ get_or-set_other gs n j v 0 d ∙ m.sums j (omega (arith, h, d))
          ];
      rest = λ j h. get_or-set_other gs n j v 0 (omega arith) ∙ m.rest j (omega (arith, h));
    }

pub summed_all : (ps : Plans) (gs : List ℕ) → Summed ps ps.count gs → Gapped ps gs
summed_all ps gs m p =
    elim (cases_lt p ps.count) [
      | inl l ↦ m.sums p l ∙ sym (cond-true _ _ _ (lt-ltb p ps.count l))
      | inr g ↦ m.rest p g ∙ sym (cond-false _ _ _ (le-ltb p ps.count g))
    ]
