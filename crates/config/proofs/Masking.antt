-- A mask's lowest and highest bit, and the mask without it.
use Rattle.std.proofs.Common.{◌≡◌, ◌==◌, ℕ, suc, ◌-◌, ◌*◌, ◌/◌, ◌%◌, ◌^◌, ◌<◌, ◌≤◌, sym, ap, ◌∙◌, inl, inr, arith, w32, eq-eqb}
use Rattle.std.specs.Int.{bit_at, bit_not, trailing_zeros, leading_zeros}
use Rattle.std.specs.Int.Bits.{bit_and}
use Rattle.std.proofs.lemmas.Bool.{cases_eq, ne_eqb, cases_lt}
use Rattle.std.proofs.lemmas.Nat.{and_le_l, le-div, div_below, pow_pos, leading_top}
use Rattle.std.proofs.lemmas.Nat.Bits.{bit_at_above, bit_at_clear_same, bit_at_clear_other, bit_at-trailing_zeros}
use Rattle.std.proofs.Math.Nat.{two-pow-succ}
use Rattle.config.specs.Masks.{Without, Lowest, Highest}

-- a word without a bit
abbrev cut : ℕ → ℕ → ℕ
cut w k = bit_and w (bit_not w32 (1 * 2 ^ k % 2 ^ 32))

without : (w k : ℕ) → k < 32 → w < 2 ^ 32 → bit_at w k ≡ 1 → Without w (cut w k) k
without w k within fits one =
    let gone : bit_at (cut w k) k ≡ 0 = bit_at_clear_same w32 w k within in
    let most : cut w k ≤ w = and_le_l w _ in
    record {
      within = within;
      set = eq-eqb _ _ one;
      gone = ne_eqb _ _ (omega (arith, gone));
      others = λ j n.
          ap (λ b. b == 1)
          (elim (cases_lt j 32) [
            | inl l ↦ bit_at_clear_other w32 w k within j l n
            | inr g ↦ bit_at_above (cut w k) 32 j (omega arith) g ∙ sym (bit_at_above w 32 j fits g)
          ]);
      less =
          elim (cases_eq (cut w k) w) [
            | inl same ↦ absurd (let both : bit_at (cut w k) k ≡ bit_at w k = ap (λ x. bit_at x k) same in omega arith)
            | inr other ↦ omega arith
          ];
    }

pub lowest : (w : ℕ) → 0 < w → w < 2 ^ 32 → Lowest w (cut w (trailing_zeros w32 w)) (trailing_zeros w32 w)
lowest w some fits =
    let h = bit_at-trailing_zeros w32 w some fits in
    record { without = without w _ h.0 fits h.1; below = λ j l. ne_eqb _ _ (omega (arith, h.2 j l)) }

-- the bit at the top of a number that lies between two powers
top : (w j : ℕ) → 2 ^ j ≤ w → w < 2 ^ suc j → bit_at w j ≡ 1
top w j low high =
    let p = pow_pos j in
    let e : w / 2 ^ j ≡ 1 = omega (arith, le-div 1 w (2 ^ j) p (omega arith), div_below w (2 ^ j) 2 p (omega (arith, two-pow-succ j))) in
    ap (λ d. d % 2) e

pub highest : (w : ℕ) → 0 < w → w < 2 ^ 32 → Highest w (cut w (31 - leading_zeros w32 w)) (31 - leading_zeros w32 w)
highest w some fits =
    let h = leading_top 32 w some fits in
    let e : 31 - leading_zeros w32 w ≡ h.0 = omega (arith, h.1) in
    let one : bit_at w (31 - leading_zeros w32 w) ≡ 1 = rw e (top w h.0 h.2 h.3) in
    record {
      without = without w _ (omega arith) fits one;
      above = λ j l. ne_eqb _ _ (omega (arith, bit_at_above w (suc h.0) j h.3 (omega (arith, e))));
    }
