-- Areas that lie in one memory: `view` sees them in it.
use Rattle.std.specs.Prelude.{◌≡◌, ℕ, ◌+◌, ◌<◌, ◌≤◌, true, false, cond, List, length, Some, None, Option, nat_lt, slice_index, slice_index_or, slice_set}
use Rattle.board.specs.Areas.{area, inside, Area}

-- The laws of areas in a memory of n bytes: area i has `size i` bytes, and byte `at` of it lies at `place i at`; no two bytes lie at one place.
-- From byte `at` on, `stretch i at` bytes of the area lie in the memory one after another, itself the first.
pub record LayoutLaws (n : ℕ) (view : List ℕ → List Area) (size : ℕ → ℕ) (place stretch : ℕ → ℕ → ℕ) : Type 0 where
  pub eight : (memory : List ℕ) → length (view memory) ≡ 8
  pub long : (memory : List ℕ) → length memory ≡ n → (i : ℕ) → length (area (view memory) i) ≡ size i
  pub byte : (memory : List ℕ) (i at : ℕ) → at < size i → slice_index (area (view memory) i) at ≡ slice_index memory (place i at)
  pub within : (i at : ℕ) → at < size i → place i at < n
  pub apart : (i j a c : ℕ) → a < size i → c < size j → place i a ≡ place j c → (i ≡ j) × (a ≡ c)
  pub some : (i at : ℕ) → at < size i → 0 < stretch i at
  pub ends : (i at : ℕ) → at < size i → at + stretch i at ≤ size i
  pub straight : (i at k : ℕ) → at < size i → k < stretch i at → place i (at + k) ≡ place i at + k

-- where byte `at` of area i lies in the memory, or none outside the area
abbrev pub found : (ℕ → ℕ → ℕ) → (ℕ → ℕ) → ℕ → ℕ → Option ℕ
found place size i at = cond (nat_lt at (size i)) (Some (place i at)) None

-- byte `at` of area i lies at p: the memory has it there, and what is written there replaces it, and nothing else
pub record LiesAt (view : List ℕ → List Area) (memory : List ℕ) (i at p : ℕ) : Type 0 where
  pub within : p < length memory
  pub there : inside (view memory) i at ≡ true
  pub byte : slice_index_or memory p 0 ≡ slice_index (area (view memory) i) at
  pub written : (b : ℕ) → view (slice_set memory p b) ≡ slice_set (view memory) i (slice_set (area (view memory) i) at b)

-- what a place, or none, says of byte `at` of area i
abbrev pub Places : (List ℕ → List Area) → List ℕ → ℕ → ℕ → Option ℕ → Type 0
Places view memory i at None = inside (view memory) i at ≡ false
Places view memory i at (Some p) = LiesAt view memory i at p
