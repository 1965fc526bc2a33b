-- What is known of a test that passed.
use Rattle.std.proofs.Common.{◌≡◌, ℕ, ◌<◌, ◌≤◌, Bool, true, false, cond, ◌&&◌, ltb, leb, ◌⊎◌, refl, ap, subst, inl, inr}
use Rattle.std.proofs.lemmas.Bool.{and_parts, leb-true, ltb-true}
use Rattle.vector.specs.Reasons.{Reason, out_of_range}
use Rattle.vector.specs.Out.{Out, fine, bad, then, pass}
use Rattle.vector.specs.Fields.{within, existing}

module _ {X Y : Type 0} where
  pub then-fine : (o : Out X) (f : X → Out Y) (y : Y) → then o f ≡ fine y → (x : X) × (o ≡ fine x) × (f x ≡ fine y)
  then-fine (fine x) f y e = (x, refl, e)
  then-fine (bad r) f y e = absurd cc

  pub pass-fine : (o : Out X) (q : Out Y) (y : Y) → pass o q ≡ fine y → (x : X) × (o ≡ fine x) × (q ≡ fine y)
  pass-fine (fine x) q y e = (x, refl, e)
  pass-fine (bad r) q y e = absurd cc

  pub then-bad : (o : Out X) (f : X → Out Y) (r : Reason) → then o f ≡ bad r → (o ≡ bad r) ⊎ ((x : X) × (o ≡ fine x) × (f x ≡ bad r))
  then-bad (fine x) f r e = inr (x, refl, e)
  then-bad (bad q) f r e = inl (let z : q ≡ r = cc in ap bad z)

  pub pass-bad : (o : Out X) (y : Y) (r : Reason) → pass o (fine y) ≡ bad r → o ≡ bad r
  pass-bad (fine x) y r e = absurd cc
  pass-bad (bad q) y r e = let z : q ≡ r = cc in ap bad z

module _ {X : Type 0} where
  pub cond-fine : (b : Bool) (o : Out X) (r : Reason) (x : X) → cond b o (bad r) ≡ fine x → (b ≡ true) × (o ≡ fine x)
  cond-fine true o r x e = (refl, e)
  cond-fine false o r x e = absurd cc

  pub cond-bad : (b : Bool) (o : Out X) (r : Reason) (x : X) → cond b (bad r) o ≡ fine x → (b ≡ false) × (o ≡ fine x)
  cond-bad false o r x e = (refl, e)
  cond-bad true o r x e = absurd cc

  -- a value that came out is the one that was given
  pub same-fine : (P : X → Type 0) (x y : X) → fine x ≡ fine y → P x → P y
  same-fine P x y e h = let q : x ≡ y = cc in subst P q h

pub within-fine : (low high at v : ℕ) (u : Unit {0}) → within low high at v ≡ fine u → (low ≤ v) × (v ≤ high)
within-fine low high at v u e =
    let b = and_parts _ _ (cond-fine (leb low v && leb v high) (fine tt) (out_of_range at) u e).0 in
    (leb-true _ _ b.0, leb-true _ _ b.1)

pub existing-fine : (n at p : ℕ) (u : Unit {0}) → existing n at p ≡ fine u → p < n
existing-fine n at p u e = ltb-true _ _ (cond-fine (ltb p n) (fine tt) (out_of_range at) u e).0
