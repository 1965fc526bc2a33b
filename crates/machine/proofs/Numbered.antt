-- What holds of each call by its number.
use Rattle.std.proofs.Common.{◌≡◌, ℕ, zero, suc, ◌+◌, List, [], ◌∷◌, get_or, subst, arith}
use Rattle.machine.specs.declared.event.Hypercall.{Hypercall}
use Rattle.machine.specs.declared.event.Hypercall.TheVariants.{GetTime}
use Rattle.machine.specs.Calls.{calls}

module _ (P : ℕ → Hypercall → Type 0) where
  -- P of each call of the list, numbered from n on
  pub data From : ℕ → List Hypercall → Type 0 where
    none : {n : ℕ} → From n []
    ◌also◌ : {n : ℕ} {h : Hypercall} {hs : List Hypercall} → P n h → From (suc n) hs → From n (h ∷ hs)

  infixr 5 ◌also◌
  numbered_from : ((n : ℕ) → P n GetTime) → (n : ℕ) (hs : List Hypercall) → From n hs → (i : ℕ) → P (n + i) (get_or hs i GetTime)
  numbered_from d n [] none i = d (n + i)
  numbered_from d n (h ∷ hs) (s also r) zero = let e : n ≡ n + 0 = omega arith in subst (λ j. P j h) e s
  numbered_from d n (h ∷ hs) (s also r) (suc i) =
      let e : suc n + i ≡ n + suc i = omega arith in subst (λ j. P j (get_or hs i GetTime)) e (numbered_from d (suc n) hs r i)

  pub numbered : ((n : ℕ) → P n GetTime) → From 0 calls → (n : ℕ) → P n (get_or calls n GetTime)
  numbered d s n = let e : 0 + n ≡ n = omega arith in subst (λ j. P j (get_or calls n GetTime)) e (numbered_from d 0 calls s n)
