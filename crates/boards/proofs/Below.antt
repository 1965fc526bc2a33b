-- Tests of the numbers below n, and of those before another.
use Rattle.std.proofs.Common.{◌≡◌, ℕ, ◌<◌, Bool, true, get_or, refl, sym, ap, ◌∙◌, arith}
use Rattle.std.proofs.lemmas.Iterator.{YieldsList-from_range}
use Rattle.std.proofs.lemmas.Iterator.Search.{all_from_yields_List}
use Rattle.std.proofs.lemmas.List.FromFn.{length-range_with_len, get_or-range_with_len}
use Rattle.std.proofs.lemmas.List.Sums.{AllPass-from_list_all, list_all-from_AllPass}
use Rattle.std.proofs.iter.Yields.{nat_range_steps}
use Rattle.std.specs.declared.ops.Range.{Range}
use Rattle.std.specs.Fn.{Called}
use Rattle.std.specs.Iterator.{ChecksAll}
use Rattle.std.specs.List.{range_with_len}
use denote.Param.Members.{Mut}
use Rattle.boards.specs.Below.{all_below}

-- what `(0..n).all(..)` answers, where the closure computes the test
pub all_below-from_all : {F : Type 0} {g : Mut F (ℕ × Unit {0}) Bool} (test : ℕ → Bool) (n : ℕ) {u : Range ℕ} {f : F} {r : Bool} →
    ChecksAll nat_range_steps g (record { start = 0; end = n }) f r u →
    ((x : ℕ) (b : Bool) (q : F) → Called g f (x, tt) b q → (q ≡ f) × (b ≡ test x)) → r ≡ all_below test n
unfolding all_below
all_below-from_all test n {u} {f} {r} ran each =
    all_from_yields_List test u f r ran (YieldsList-from_range 0 n n refl (omega arith)) each

number_at : (n k d : ℕ) → k < n → get_or (range_with_len 0 n) k d ≡ k
number_at n k d h = get_or-range_with_len 0 n k d h ∙ omega arith

-- the test holds of each of them
pub below_at : (test : ℕ → Bool) (n k : ℕ) → all_below test n ≡ true → k < n → test k ≡ true
unfolding all_below
below_at test n k e h =
    let l = length-range_with_len 0 n in
    ap test (sym (number_at n k 0 h)) ∙ AllPass-from_list_all test (range_with_len 0 n) e k 0 (omega arith)

-- and what holds of each of them is what the test holds of
pub all-below : (test : ℕ → Bool) (n : ℕ) → ((k : ℕ) → k < n → test k ≡ true) → all_below test n ≡ true
unfolding all_below
all-below test n h =
    let l = length-range_with_len 0 n in
    list_all-from_AllPass test (range_with_len 0 n)
    (λ k d q. let r : k < n = omega arith in ap test (number_at n k d r) ∙ h k r)

-- two numbers, neither before the other, are one
pub neither_before : (x y : ℕ) → (y < x → ⊥) → (x < y → ⊥) → x ≡ y
neither_before x y f g = omega arith
