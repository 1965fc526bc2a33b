-- Tests over the rows of a table and over a list, where one more comes or one is replaced.
use Rattle.std.proofs.Common.{◌≡◌, ℕ, zero, suc, ◌+◌, ◌<◌, Bool, true, ◌||◌, eqb, List, [], ◌∷◌, length, get_or, take, drop, set, replicate, sym, refl, ap, ◌∙◌, inl, inr, arith}
use Rattle.std.specs.Str.{bytes_eq}
use Rattle.std.proofs.lemmas.Slice.Eq.{bytes_eq-Decides}
use Rattle.std.proofs.lemmas.List.{take_more_set, take-append-le, take_all}
use Rattle.std.proofs.Math.Bool.{or-false, or_comm}
use Rattle.std.proofs.lemmas.List.Folds.{list_any-append}
use Rattle.std.proofs.lemmas.Bool.{and_parts, eqb-true, cases_Bool, both_ways}
use Rattle.tables.specs.Names.{any, padded, same_name}
use Rattle.tables.proofs.Names.{same-name}

module _ {A : Type 0} (test : A → Bool) where
  pub any_more : (xs : List A) (n : ℕ) (v : A) → n < length xs → any test (take (n + 1) (set xs n v)) ≡ (test v || any test (take n xs))
  any_more xs n v h = ap (any test) (take_more_set xs n v h) ∙ (list_any-append test (take n xs) (v ∷ []) ∙ (ap (λ b. any test (take n xs) || b) (or-false (test v)) ∙ or_comm (any test (take n xs)) (test v)))

  pub any-set : (xs : List A) (n p : ℕ) (v d : A) → test v ≡ test (get_or xs p d) → any test (take n (set xs p v)) ≡ any test (take n xs)
  any-set [] n p v d e = refl
  any-set (x ∷ xs) zero zero v d e = refl
  any-set (x ∷ xs) zero (suc p) v d e = refl
  any-set (x ∷ xs) (suc n) zero v d e = ap (λ b. b || any test (take n xs)) e
  any-set (x ∷ xs) (suc n) (suc p) v d e = ap (λ b. test x || b) (any-set xs n p v d e)

-- the bytes of a name, out of its row
pub unpadded : (n : List ℕ) → take (length n) (padded n).bytes ≡ n
unpadded n = take-append-le (length n) n (drop (length n) (replicate 16 0)) (omega arith) ∙ take_all (length n) n (omega arith)

-- names are equal in their rows just if their bytes are
pub padded-same : (m n : List ℕ) → same_name (padded m) (padded n) ≡ bytes_eq m n
padded-same m n =
    elim (cases_Bool (bytes_eq m n)) [
      | inl t ↦ same-name (padded m) (padded n) (ap padded ((bytes_eq-Decides m n).0 t)) ∙ sym t
      | inr f ↦ elim (cases_Bool (same_name (padded m) (padded n))) [
        | inl t ↦ absurd (both_ways (bytes_eq m n) f ((bytes_eq-Decides m n).1 (unpad t)))
        | inr g ↦ g ∙ sym f
      ]
    ]
  where
    unpad : same_name (padded m) (padded n) ≡ true → m ≡ n
    unpad t =
        let w = and_parts (eqb (length m) (length n)) (bytes_eq (padded m).bytes (padded n).bytes) t in
        let l : length m ≡ length n = eqb-true (length m) (length n) w.0 in
        let b : (padded m).bytes ≡ (padded n).bytes = (bytes_eq-Decides (padded m).bytes (padded n).bytes).0 w.1 in
        sym (unpadded m) ∙ (ap (λ k. take k (padded m).bytes) l ∙ (ap (take (length n)) b ∙ unpadded n))
