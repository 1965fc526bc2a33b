-- What holds of the rows of a table.
use Rattle.std.proofs.Common.{◌≡◌, ℕ, zero, suc, ◌+◌, ◌<◌, ◌≤◌, Bool, false, List, [], ◌∷◌, length, get_or, take, set, replicate, sym, refl, ap, ◌∙◌, subst, inl, inr, arith, get_or-set_other, get_or-set_same}
use Rattle.std.proofs.lemmas.Bool.{cases_eq, or_parts}
use Rattle.tables.specs.Names.{any}

module _ {A : Type 0} (P : ℕ → A → Type 0) where
  -- what holds of each row that is there holds of one more
  pub one_more : (xs : List A) (n : ℕ) (v d : A) → n < length xs → ((i : ℕ) → i < n → P i (get_or xs i d)) → P n v → (i : ℕ) → i < n + 1 → P i (get_or (set xs n v) i d)
  one_more xs n v d h old new i j =
      elim (cases_eq i n) [
        | inl e ↦ subst (λ k. P k (get_or (set xs n v) k d)) (sym e) (subst (P n) (sym (get_or-set_same xs n v d h)) new)
        | inr ne ↦ let lt : i < n = omega (arith, ne) in subst (P i) (sym (get_or-set_other xs n i v d ne)) (old i lt)
      ]

module _ {A : Type 0} (P : A → Type 0) where
  -- and where one of them is replaced
  pub replaced : (xs : List A) (n i : ℕ) (v d : A) → (n ≡ i → P v) → P (get_or xs i d) → P (get_or (set xs n v) i d)
  replaced [] n i v d new old = old
  replaced (x ∷ xs) zero zero v d new old = new refl
  replaced (x ∷ xs) zero (suc i) v d new old = old
  replaced (x ∷ xs) (suc n) zero v d new old = old
  replaced (x ∷ xs) (suc n) (suc i) v d new old = replaced xs n i v d (λ e. new (ap suc e)) old

  pub changed : (xs : List A) (n i : ℕ) (v d : A) → n < length xs → (n ≡ i → P v) → ((n ≡ i → ⊥) → P (get_or xs i d)) → P (get_or (set xs n v) i d)
  changed xs n i v d h new old =
      elim (cases_eq n i) [
        | inl e ↦ subst (λ k. P (get_or (set xs n v) k d)) e (subst P (sym (get_or-set_same xs n v d h)) (new e))
        | inr ne ↦ subst P (sym (get_or-set_other xs n i v d (λ e. ne (sym e)))) (old ne)
      ]

  -- and where all rows are alike
  pub all_alike : (n i : ℕ) (v d : A) → P v → P d → P (get_or (replicate n v) i d)
  all_alike zero i v d a b = b
  all_alike (suc n) zero v d a b = a
  all_alike (suc n) (suc i) v d a b = all_alike n i v d a b

module _ {A : Type 0} (R : A → A → Type 0) where
  -- what holds of each two rows, where one more comes
  pub pairs_more : (xs : List A) (n : ℕ) (v d : A) → n < length xs → ((i j : ℕ) → i < j → j < n → R (get_or xs i d) (get_or xs j d)) → ((i : ℕ) → i < n → R (get_or xs i d) v) →
      (i j : ℕ) → i < j → j < n + 1 → R (get_or (set xs n v) i d) (get_or (set xs n v) j d)
  pairs_more xs n v d h old new i j lt m =
      let ys : List A = set xs n v in
      let left : get_or ys i d ≡ get_or xs i d = get_or-set_other xs n i v d (λ e. omega arith) in
      elim (cases_eq j n) [
        | inl e ↦ subst (λ (k : ℕ). R (get_or ys i d) (get_or ys k d)) (sym e) (subst (λ (y : A). R (get_or ys i d) y) (sym (get_or-set_same xs n v d h)) (subst (λ (x : A). R x v) (sym left) (new i (omega arith))))
        | inr ne ↦ let less : j < n = omega (arith, ne) in subst (λ (y : A). R (get_or ys i d) y) (sym (get_or-set_other xs n j v d ne)) (subst (λ (x : A). R x (get_or xs j d)) (sym left) (old i j lt less))
      ]

module _ {A B : Type 0} (g : A → B) where
  -- a part of the rows that the new row has as the old one had it
  pub same-part : (xs : List A) (n i : ℕ) (v d : A) → g v ≡ g (get_or xs n d) → g (get_or (set xs n v) i d) ≡ g (get_or xs i d)
  same-part xs n i v d e = replaced (λ y. g y ≡ g (get_or xs i d)) xs n i v d (λ m. e ∙ ap (λ k. g (get_or xs k d)) m) refl

module _ {A : Type 0} (test : A → Bool) where
  -- where none of the first n rows passes a test
  pub none_passes : (xs : List A) (n i : ℕ) (d : A) → any test (take n xs) ≡ false → i < n → n ≤ length xs → test (get_or xs i d) ≡ false
  none_passes [] n i d e h l = absurd (omega arith)
  none_passes (x ∷ xs) zero i d e h l = absurd (omega arith)
  none_passes (x ∷ xs) (suc n) zero d e h l = (or_parts (test x) (any test (take n xs)) e).0
  none_passes (x ∷ xs) (suc n) (suc i) d e h l = none_passes xs n i d (or_parts (test x) (any test (take n xs)) e).1 (omega arith) (omega arith)
