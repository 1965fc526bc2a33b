-- The fences of a script are sound, and hold zeros.
use Rattle.std.proofs.Common.{◌≡◌, ℕ, ◌-◌, ◌*◌, ◌<◌, ◌≤◌, true, List, [], map, take, replicate, refl, ap, ◌∙◌, arith}
use Rattle.std.specs.List.{range_with_len}
use lib.ListN.{length-map}
use Rattle.std.proofs.lemmas.List.FromFn.{length-map-range_with_len, get_or-map-range_with_len, fill_by_all}
use Rattle.std.proofs.lemmas.List.{get_or-map, take-replicate, drop-replicate}
use Rattle.std.proofs.lemmas.Bool.{and_from}
use Rattle.std.proofs.lemmas.Bool.Decides.{nat_tests}
use Rattle.tables.specs.declared.Tables.{Tables}
use Rattle.tables.specs.Laws.{AreasSized}
use Rattle.boards.specs.declared.fenced.Fence.{Fence}
use Rattle.boards.specs.Below.{all_below}
use Rattle.boards.specs.Fences.{nowhere, fence_of, part, parts, within, apart, apart_at, good_fence, sound_fences}
use Rattle.zero_boards.specs.Layouts.{size_at, sizes_of, zeros_at, zeroed, fence_at, fences_of}
use Rattle.boards.proofs.Below.{all-below}
use Rattle.zero_boards.proofs.Zeros.{size-most}

module _ (t : Tables) (s : AreasSized t) (n : ℕ) (room : 8192 ≤ n) where
  abbrev fence-at : ℕ → Fence
  fence-at i = fence_at i (size_at t i)

  -- the fences, one for each number below eight
  abbrev counted : List Fence
  counted = map fence-at (range_with_len 0 8)

  counted-is : fences_of (sizes_of t) ≡ counted
  counted-is = refl

  fence-lem : (i : ℕ) → i < 8 → fence_of counted i ≡ fence-at i
  fence-lem i h = get_or-map-range_with_len fence-at 0 8 i i nowhere h (omega arith)

  lies_within : (i : ℕ) → i < 8 → within n (fence-at i) ≡ true
  lies_within i h =
      let z = size-most t s i in
      grind (arith, nat_tests)

  lies_apart : (i j : ℕ) → j < i → apart (fence-at i) (fence-at j) ≡ true
  lies_apart i j h =
      let z = size-most t s j in
      grind (arith, nat_tests)

  pub fences-sound : sound_fences counted n ≡ true
  fences-sound =
      all-below (good_fence counted n) 8 (λ i h.
      and_from (within n (fence_of counted i)) (all_below (apart_at counted i) i)
      (ap (within n) (fence-lem i h) ∙ lies_within i h)
      (all-below (apart_at counted i) i (λ j l.
      ap (λ (f : Fence). apart f (fence_of counted j)) (fence-lem i h)
      ∙ ap (apart (fence-at i)) (fence-lem j (omega arith))
      ∙ lies_apart i j l)))

  zeros_of : (i : ℕ) → i < 8 → part (replicate n 0) (fence-at i) ≡ zeros_at t i
  zeros_of i h =
      let z = size-most t s i in
      ap (take (size_at t i)) (drop-replicate (1024 * i) n 0) ∙ take-replicate (size_at t i) (n - 1024 * i) 0 (omega arith)

  pub fences-zeroed : parts (replicate n 0) counted ≡ zeroed t
  unfolding zeroed
  fences-zeroed =
      fill_by_all (zeros_at t) (parts (replicate n 0) counted) 8 []
      (length-map counted (part (replicate n 0)) ∙ length-map-range_with_len fence-at 0 8)
      (λ i h.
      get_or-map (part (replicate n 0)) counted i nowhere [] (let l = length-map-range_with_len fence-at 0 8 in omega arith)
      ∙ ap (part (replicate n 0)) (fence-lem i h)
      ∙ zeros_of i h)

  pub fences-laid : (fences : List Fence) → fences ≡ fences_of (sizes_of t) →
      record { sound : sound_fences fences n ≡ true; zeroed : parts (replicate n 0) fences ≡ zeroed t }
  fences-laid fences e =
      let f : fences ≡ counted = e ∙ counted-is in
      record { sound = rw f fences-sound; zeroed = rw f fences-zeroed }
