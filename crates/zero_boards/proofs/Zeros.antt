-- Areas of zeros have the vector's sizes, and fit.
use Rattle.std.proofs.Common.{◌≡◌, ℕ, zero, suc, ◌<◌, ◌≤◌, true, ltb, [], length, get_or, replicate, refl, ap, ◌∙◌, arith}
use lib.ListN.{length-replicate}
use Rattle.std.proofs.lemmas.List.FromFn.{get_or-map-range_with_len}
use Rattle.std.proofs.lemmas.Bool.{and_from, cond_both, cond-true, eq-eqb, lt-ltb, ltb-true}
use Rattle.board.specs.Areas.{area}
use Rattle.tables.specs.declared.Tables.{Tables}
use Rattle.tables.specs.Laws.{AreasSized}
use Rattle.tables.specs.Rows.{partition_at}
use Rattle.machine.specs.Step.{fits, fits_below}
use Rattle.zero_boards.specs.Layouts.{size_at, zeros_at, zeroed}

-- a memory of zeros has a zero everywhere
pub zero-at : (n i : ℕ) → get_or {A = ℕ} (replicate n 0) i 0 ≡ 0
zero-at zero i = refl
zero-at (suc n) zero = refl
zero-at (suc n) (suc i) = zero-at n i

module _ (t : Tables) where
  -- no area is too large
  pub size-most : AreasSized t → (i : ℕ) → size_at t i ≤ 1024
  size-most s i =
      cond_both (ltb i t.partitions.count) (partition_at i t).size 0 (λ n. n ≤ 1024)
      (λ e. (s i (ltb-true i t.partitions.count e)).1)
      (λ _. omega arith)

  area-size : (i : ℕ) → i < 8 → i < t.partitions.count → length (area (zeroed t) i) ≡ (partition_at i t).size
  unfolding zeroed
  area-size i h l =
      ap length (get_or-map-range_with_len (zeros_at t) 0 8 i i [] h (omega arith))
      ∙ length-replicate (size_at t i) 0
      ∙ cond-true (ltb i t.partitions.count) (partition_at i t).size 0 (lt-ltb i t.partitions.count l)

  fit-below : (n : ℕ) → n ≤ 8 → n ≤ t.partitions.count → fits_below t (zeroed t) n ≡ true
  unfolding fits_below
  fit-below zero h l = refl
  fit-below (suc n) h l =
      and_from (fits_below t (zeroed t) n) _ (fit-below n (omega arith) (omega arith))
      (eq-eqb (length (area (zeroed t) n)) (partition_at n t).size (area-size n (omega arith) (omega arith)))

  pub zeros_fit : t.partitions.count ≤ 8 → fits t (zeroed t) ≡ true
  zeros_fit h = fit-below t.partitions.count h (omega arith)
