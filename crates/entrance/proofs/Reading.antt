-- The records one by one.
use Rattle.std.proofs.Common.{◌≡◌, ℕ, zero, suc, ◌+◌, List, [], ◌∷◌, length, drop, refl, ap, ◌∙◌, arith, nat_eq, false, false-eqb}
use Rattle.events.proofs.Records.{drop_more}
use Rattle.events.specs.Records.{short_at, first, beyond}
use Rattle.entrance.specs.Session.{before, read_after, read_of}

skipped : (k : ℕ) (bs : List ℕ) → read_after k bs ≡ read_of (drop k bs)
unfolding read_after
skipped zero bs = refl
skipped (suc k) [] = refl
skipped (suc k) (b ∷ bs) = skipped k bs

-- a record, and those after it
pub read-then : (bs : List ℕ) → false ≡ nat_eq (length bs) 0 → read_of bs ≡ before (first bs) (read_of (beyond 4 bs))
unfolding read_after
read-then [] h = absurd (omega (arith, false-eqb 0 0 h))
read-then (b ∷ bs) h =
    let n = short_at (b ∷ bs) 0 in
    ap (before (first (b ∷ bs))) (skipped (3 + n) bs ∙ ap read_of (drop_more n b bs))
