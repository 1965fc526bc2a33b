-- What `array::from_fn` makes, where its closure computes f.
use Rattle.std.proofs.Common.{◌≡◌, ℕ, zero, suc, ◌+◌, ◌<◌, ◌≤◌, List, map, get_or, refl, subst, ap, ◌∙◌, ⊎_elim, arith}
use Rattle.std.proofs.lemmas.Bool.{cases_eq}
use Rattle.std.proofs.lemmas.List.FromFn.{fill_by_all}
use Rattle.std.specs.Array.{IsFromFnResult, IsFromFnResultFrom}
use Rattle.std.specs.Fn.{Called}
use Rattle.std.specs.List.{range_with_len}
use denote.Param.Members.{Mut}

module _ {F B : Type 0} {g : Mut F (ℕ × Unit {0}) B} (f : ℕ → B) {s : F} (each : (k : ℕ) (y : B) (q : F) → Called g s (k, tt) y q → (q ≡ s) × (y ≡ f k)) where
  place : (ys : List B) (p : F) (i n : ℕ) → p ≡ s → IsFromFnResultFrom g p ys i n → (k : ℕ) (d : B) → i ≤ k → k < i + n → get_or ys k d ≡ f k
  place ys p i zero e made k d h l = absurd (omega arith)
  place ys p i (suc n) e (q, y, at, called, made) k d h l =
      let z = each i y q (subst (λ (x : F). Called g x (i, tt) y q) e called) in
      ⊎_elim
      (λ (c : k ≡ i). ap (λ (x : ℕ). get_or ys x d) c ∙ at.1 d ∙ z.1 ∙ ap f (omega arith))
      (λ (c : k ≡ i → ⊥). place ys q (i + 1) n z.0 made k d (omega arith) (omega arith))
      (cases_eq k i)

  pub map-from_fn : {ys : List B} (n : ℕ) → IsFromFnResult g s ys n → ys ≡ map f (range_with_len 0 n)
  map-from_fn {ys} n made = fill_by_all f ys n (f 0) made.long (λ k l. place ys s 0 n refl made.each k (f 0) (omega arith) (omega arith))
