-- Sound fences lay the areas apart in the memory.
use Rattle.std.proofs.Common.{◌≡◌, ℕ, ◌+◌, ◌<◌, ◌≤◌, true, List, length, get_or, drop, replicate, sym, refl, ap, ◌∙◌, arith, length-drop, length-take}
use lib.ListN.{length-map, get_or-map}
use Rattle.std.proofs.lemmas.List.{get_or-take, get_or-drop, get_or_past}
use Rattle.std.proofs.lemmas.Bool.{and_parts}
use Rattle.std.proofs.lemmas.Bool.Decides.{nat_tests}
use Rattle.board.specs.Areas.{area}
use Rattle.boards.specs.declared.fenced.Fence.{Fence}
use Rattle.boards.specs.Below.{all_below}
use Rattle.boards.specs.Places.{LayoutLaws}
use Rattle.boards.specs.Fences.{nowhere, fence_of, part, parts, within, apart, apart_at, good_fence, sound_fences, fence_place, fence_size, fence_stretch}
use Rattle.boards.proofs.Below.{below_at, neither_before}

-- eight empty fences are sound in any memory
pub empty-sound : (n : ℕ) → sound_fences (replicate 8 nowhere) n ≡ true
unfolding all_below
empty-sound n = refl

ends-within : (n : ℕ) (f : Fence) (a : ℕ) → within n f ≡ true → a < f.size → f.base + f.size ≤ n
ends-within n f a e l = grind (arith, nat_tests)

no_byte_shared : (f g : Fence) (a c : ℕ) → apart f g ≡ true → a < f.size → c < g.size → f.base + a ≡ g.base + c → ⊥
no_byte_shared f g a c e l k p = grind (arith, nat_tests)

area-part : (memory : List ℕ) (fences : List Fence) (i : ℕ) → area (parts memory fences) i ≡ part memory (fence_of fences i)
area-part memory fences i = get_or-map (part memory) fences i nowhere

module _ (fences : List Fence) (n : ℕ) (e : length fences ≡ 8) (s : sound_fences fences n ≡ true) where
  -- an area with a byte is one of the eight
  below : (i a : ℕ) → a < fence_size fences i → i < 8
  below i a l =
      let past : 8 ≤ i → fence_size fences i ≡ 0 = λ h. ap (λ (f : Fence). f.size) (get_or_past fences i nowhere (omega arith)) in
      grind arith

  good : (i : ℕ) → i < 8 → (within n (fence_of fences i) ≡ true) × (all_below (apart_at fences i) i ≡ true)
  good i h = and_parts (within n (fence_of fences i)) (all_below (apart_at fences i) i) (below_at (good_fence fences n) 8 i s h)

  fence_end : (i a : ℕ) → a < fence_size fences i → (fence_of fences i).base + fence_size fences i ≤ n
  fence_end i a l = ends-within n (fence_of fences i) a (good i (below i a l)).0 l

  earlier : (i j a c : ℕ) → j < i → a < fence_size fences i → c < fence_size fences j → fence_place fences i a ≡ fence_place fences j c → ⊥
  earlier i j a c h l k =
      no_byte_shared (fence_of fences i) (fence_of fences j) a c (below_at (apart_at fences i) i j (good i (below i a l)).1 h) l k

  bytes_apart : (i j a c : ℕ) → a < fence_size fences i → c < fence_size fences j → fence_place fences i a ≡ fence_place fences j c → (i ≡ j) × (a ≡ c)
  bytes_apart i j a c l k p =
      let z = neither_before i j (λ h. earlier i j a c h l k p) (λ h. earlier j i c a h k l (sym p)) in
      let b = ap (λ (x : ℕ). (fence_of fences x).base) z in
      (z, omega arith)

  part-size : (memory : List ℕ) → length memory ≡ n → (i : ℕ) → length (area (parts memory fences) i) ≡ fence_size fences i
  part-size memory m i =
      let ends : 0 < fence_size fences i → (fence_of fences i).base + fence_size fences i ≤ n = λ h. fence_end i 0 h in
      ap length (area-part memory fences i) ∙ simp (length-take, length-drop) (grind arith)

  pub fences_laid : LayoutLaws n (λ memory. parts memory fences) (fence_size fences) (fence_place fences) (fence_stretch fences)
  fences_laid =
      record {
        eight = λ memory. length-map fences (part memory) ∙ e;
        long = part-size;
        byte =
            λ memory i a l.
            ap (λ (bytes : List ℕ). get_or bytes a 0) (area-part memory fences i)
            ∙ get_or-take (fence_size fences i) (drop (fence_of fences i).base memory) a 0 l
            ∙ get_or-drop (fence_of fences i).base memory a 0;
        within = λ i a l. let w = fence_end i a l in omega arith;
        apart = bytes_apart;
        some = λ i a l. omega arith;
        ends = λ i a l. omega arith;
        straight = λ i a k l h. omega arith;
      }
