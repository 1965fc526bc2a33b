-- The lowest and the highest bit of a mask.
use Rattle.std.specs.Prelude.{◌≡◌, ℕ, ◌<◌, true, false}
use Rattle.tables.specs.Bits.{has_bit}

-- i is a bit of w, below 32, and v is w without it
pub record Without (w v i : ℕ) : Type 0 where
  pub within : i < 32
  pub set : has_bit w i ≡ true
  pub gone : has_bit v i ≡ false
  pub others : (j : ℕ) → (j ≡ i → ⊥) → has_bit v j ≡ has_bit w j
  pub less : v < w

pub record Lowest (w v i : ℕ) : Type 0 where
  pub without : Without w v i
  pub below : (j : ℕ) → j < i → has_bit w j ≡ false

pub record Highest (w v i : ℕ) : Type 0 where
  pub without : Without w v i
  pub above : (j : ℕ) → i < j → has_bit w j ≡ false
