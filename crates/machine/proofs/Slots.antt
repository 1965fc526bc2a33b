-- The slot that holds an offset.
use Rattle.std.proofs.Common.{◌≡◌, ℕ, zero, suc, ◌+◌, ◌<◌, ◌≤◌, true, false, leb, ltb, List, [], ◌∷◌, get_or, length, Some, Option, sym, ap, ◌∙◌, subst, arith}
use Rattle.std.proofs.lemmas.Bool.{and_parts, and_from, leb-true, ltb-true, le-leb, lt-ltb, false_from_ne_true, cond-true, cond-false, cond_both}
use Rattle.std.proofs.lemmas.List.{get_or-take, length-take}
use Rattle.tables.specs.Blank.{slot0}
use Rattle.tables.specs.Laws.{slot_at}
use Rattle.tables.specs.Rows.{slot_end}
use Rattle.tables.specs.declared.plan.Plan.{Plan}
use Rattle.tables.specs.declared.plan.Slot.{Slot}
use Rattle.machine.specs.Questions.{covers, slots_of, holder}
use Rattle.machine.specs.Searches.{RunsAt, Apart, Held}
use Rattle.machine.proofs.Names.{none-not, some_inj}

-- the first slot that covers an offset, and the number at which it stands
holder-found : (ss : List Slot) (o q : ℕ) → holder ss o ≡ Some q →
    (j : ℕ) × ((j < length ss) × (covers (get_or ss j slot0) o ≡ true) × ((get_or ss j slot0).partition ≡ q))
unfolding holder
holder-found [] o q e = absurd (none-not q e)
holder-found (s ∷ ss) o q e =
    cond_both (covers s o) (Some s.partition) (holder ss o)
    (λ h. h ≡ Some q → (j : ℕ) × ((j < length (s ∷ ss)) × (covers (get_or (s ∷ ss) j slot0) o ≡ true) × ((get_or (s ∷ ss) j slot0).partition ≡ q)))
    (λ c h. (0, (omega arith, c, some_inj _ q h)))
    (λ _ h. let r = holder-found ss o q h in (suc r.0, (let l = r.1.0 in omega arith, r.1.1, r.1.2)))
    e

covers-nothing : (o : ℕ) → covers slot0 o ≡ true → ⊥
covers-nothing o c = let h = ltb-true o 0 (and_parts (leb 0 o) (ltb o 0) c).1 in omega arith

holder-any : (ss : List Slot) (o j : ℕ) → covers (get_or ss j slot0) o ≡ true → ((i : ℕ) → i < j → covers (get_or ss i slot0) o ≡ false) →
    holder ss o ≡ Some (get_or ss j slot0).partition
unfolding holder
holder-any [] o j c n = absurd (covers-nothing o c)
holder-any (s ∷ ss) o zero c n = cond-true (covers s o) _ _ c
holder-any (s ∷ ss) o (suc j) c n = cond-false (covers s o) _ _ (n 0 (omega arith)) ∙ holder-any ss o j c (λ i h. n (suc i) (omega arith))

covering : (s : Slot) (o : ℕ) → covers s o ≡ true → (s.start ≤ o) × (o < slot_end s)
covering s o c =
    let h = and_parts (leb s.start o) (ltb o (s.start + s.duration)) c in
    (leb-true _ _ h.0, ltb-true _ _ h.1)

module _ (p : Plan) (o : ℕ) where
  same : (j : ℕ) → j < p.slots.count → get_or (slots_of p) j slot0 ≡ slot_at j p
  same j h = get_or-take p.slots.count p.slots.rows j slot0 h

  runs : (j : ℕ) → RunsAt p j o → covers (get_or (slots_of p) j slot0) o ≡ true
  runs j r = subst (λ s. covers s o ≡ true) (sym (same j r.there)) (and_from _ _ (le-leb _ _ r.begun) (lt-ltb _ _ r.goes))

  over : Apart p → (i j : ℕ) → i < j → RunsAt p j o → covers (get_or (slots_of p) i slot0) o ≡ true → ⊥
  over a i j l r c =
      let t = r.there in
      let h = covering (slot_at i p) o (subst (λ s. covers s o ≡ true) (same i (omega arith)) c) in
      omega (arith, h.1, a i j l t, r.begun)

  pub held : Held p o
  held =
      record {
        found = λ q e.
            let r = holder-found (slots_of p) o q e in
            let l : r.0 < p.slots.count = omega (arith, r.1.0, length-take p.slots.count p.slots.rows) in
            let c = covering (slot_at r.0 p) o (subst (λ s. covers s o ≡ true) (same r.0 l) r.1.1) in
            (r.0, (record { there = l; begun = c.0; goes = c.1 }, ap (λ (s : Slot). s.partition) (sym (same r.0 l)) ∙ r.1.2));
        any = λ a j r.
            holder-any (slots_of p) o j (runs j r) (λ i l. false_from_ne_true _ (over a i j l r))
            ∙ ap {B = Option ℕ} (λ (s : Slot). Some s.partition) (same j r.there);
      }
