-- The bits of a word.
use Rattle.std.proofs.Common.{◌≡◌, ℕ, zero, suc, ◌*◌, ◌/◌, ◌%◌, ◌^◌, ◌<◌, true, false, eqb, ◌⊎◌, sym, ap, ◌∙◌, inl, inr, arith}
use Rattle.std.specs.Int.{bit_at}
use Rattle.std.specs.Int.Bits.{bit_and, bit_or}
use Rattle.std.proofs.lemmas.Bool.{not-true, not_from_false, eqb-false, eq-eqb, ne_eqb, cases_eq}
use Rattle.std.proofs.lemmas.Nat.{pow_pos}
use Rattle.std.proofs.lemmas.Nat.Bits.{bit_at_lowest, bit_at-suc, bit_at-zero, bit_at_and, bit_at_or, bit_at-pow_same, bit_at-pow_other, and_pow}
use Rattle.tables.specs.Bits.{has_bit}
use Rattle.machine.specs.Partitions.{bit}

-- the bit of a number, as std has it: 0 or 1

one-bit : (w i : ℕ) → bit_at w i ≡ 1 → bit w i ≡ true
one-bit w i h =
    not_from_false _ (ne_eqb _ _ (λ e.
    let f : 0 ≡ 1 * 2 ^ i = sym e ∙ (and_pow w i ∙ ap (λ b. b * 2 ^ i) h) in
    let g = pow_pos i in absurd (omega arith)))

bit_one : (w i : ℕ) → bit w i ≡ true → bit_at w i ≡ 1
bit_one w i h =
    elim (cases_eq (bit_at w i) 1) [
      | inl e ↦ e
      | inr o ↦
          let z : bit_at w i ≡ 0 = omega arith in
          let f : bit_and w (2 ^ i) ≡ 0 * 2 ^ i = and_pow w i ∙ ap (λ b. b * 2 ^ i) z in
          absurd (eqb-false _ _ (not-true _ h) (omega arith))
    ]

-- the vector asks for a bit another way
pub has : (w i : ℕ) → bit w i ≡ true → has_bit w i ≡ true
has w i h = eq-eqb _ _ (bit_one w i h)

-- a word that is not 0 has a bit
record Bit (w : ℕ) : Type 0 where
  place : ℕ
  set : bit_at w place ≡ 1

below_pow : (w : ℕ) → w < 2 ^ w
below_pow zero = omega arith
below_pow (suc w) = let h = below_pow w in omega arith

bit_of : (n w : ℕ) → w < 2 ^ n → (w ≡ 0 → ⊥) → Bit w
bit_of zero w h z = absurd (z (omega arith))
bit_of (suc n) w h z =
    elim (cases_eq (w % 2) 1) [
      | inl e ↦ record { place = 0; set = bit_at_lowest w ∙ e }
      | inr o ↦
          let r = bit_of n (w / 2) (omega arith) (λ e. z (omega arith)) in
          record { place = suc r.place; set = bit_at-suc w r.place ∙ r.set }
    ]

-- a bit of an or is a bit of one of the two
pub or_stays : (m w i : ℕ) → bit m i ≡ true → bit (bit_or m w) i ≡ true
or_stays m w i h = let e = bit_one m i h in one-bit _ i (omega (arith, bit_at_or m w i))

pub or_sets : (m r : ℕ) → bit (bit_or m (2 ^ r)) r ≡ true
or_sets m r = let e = bit_at-pow_same r in one-bit _ r (omega (arith, bit_at_or m (2 ^ r) r))

pub pow_own : (r : ℕ) → bit (2 ^ r) r ≡ true
pow_own r = one-bit (2 ^ r) r (bit_at-pow_same r)

pub or_bit : (m r i : ℕ) → bit (bit_or m (2 ^ r)) i ≡ true → (bit m i ≡ true) ⊎ (i ≡ r)
or_bit m r i h =
    elim (cases_eq i r) [
      | inl e ↦ inr e
      | inr o ↦
          let e = bit_at-pow_other r i o in
          inl (one-bit m i (omega (arith, bit_at_or m (2 ^ r) i, bit_one _ i h)))
    ]

pub pow_bit : (r i : ℕ) → bit (2 ^ r) i ≡ true → i ≡ r
pow_bit r i h =
    elim (cases_eq i r) [
      | inl e ↦ e
      | inr o ↦ absurd (omega (arith, bit_at-pow_other r i o, bit_one _ i h))
    ]

-- two words that have a bit in common
pub record Common (a b : ℕ) : Type 0 where
  pub place : ℕ
  pub left : bit a place ≡ true
  pub right : bit b place ≡ true

pub common : (a b : ℕ) → eqb (bit_and a b) 0 ≡ false → Common a b
common a b h =
    let r = bit_of (bit_and a b) (bit_and a b) (below_pow _) (eqb-false _ _ h) in
    let m = sym (bit_at_and a b r.place) ∙ r.set in
    record { place = r.place; left = one-bit a r.place (omega arith); right = one-bit b r.place (omega arith) }

pub in_common : (a b i : ℕ) → bit a i ≡ true → bit b i ≡ true → eqb (bit_and a b) 0 ≡ false
in_common a b i g h =
    ne_eqb _ _ (λ e.
    let f = sym (bit_at_and a b i) ∙ (ap (λ v. bit_at v i) e ∙ bit_at-zero i) in
    absurd (omega (arith, bit_one a i g, bit_one b i h)))
