-- The records one by one.
use Rattle.std.proofs.Common.{◌≡◌, ℕ, zero, suc, ◌+◌, List, [], ◌∷◌, length, drop, refl, ap, ◌∙◌, arith, nat_eq, false, false-eqb}
use Rattle.events.specs.Records.{short_at, beyond, first, followed, events_after, events_of}

skipped : (k : ℕ) (bs : List ℕ) → events_after k bs ≡ events_of (drop k bs)
unfolding events_after
skipped zero bs = refl
skipped (suc k) [] = refl
skipped (suc k) (b ∷ bs) = skipped k bs

pub drop_more : (n b : ℕ) (bs : List ℕ) → drop (3 + n) bs ≡ drop (4 + n) (b ∷ bs)
drop_more n b bs = let e : suc (3 + n) ≡ 4 + n = omega arith in ap (λ k. drop k (b ∷ bs)) e

-- a record, and those after it
pub record_then : (bs : List ℕ) → false ≡ nat_eq (length bs) 0 → events_of bs ≡ followed (first bs) (events_of (beyond 4 bs))
unfolding events_after
record_then [] h = absurd (omega (arith, false-eqb 0 0 h))
record_then (b ∷ bs) h =
    let n = short_at (b ∷ bs) 0 in
    ap (followed (first (b ∷ bs))) (skipped (3 + n) bs ∙ ap events_of (drop_more n b bs))
