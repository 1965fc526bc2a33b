-- A sound page table lays the areas apart in the memory.
use Rattle.std.proofs.Common.{◌≡◌, cond, false, ℕ, ◌+◌, ◌*◌, ◌/◌, ◌%◌, ◌<◌, ◌≤◌, Bool, true, not, ◌&&◌, ◌||◌, eqb, leb, List, [], length, get_or, replicate, sym, refl, ap, ◌∙◌, ⊎_elim, arith}
use Rattle.std.proofs.lemmas.List.FromFn.{length-map-range_with_len, get_or-map-range_with_len}
use Rattle.std.specs.List.{list_all}
use Rattle.std.proofs.lemmas.List.{get_or_past}
use Rattle.std.proofs.lemmas.List.Sums.{AllPass-from_list_all}
use Rattle.std.proofs.lemmas.Bool.{cases_lt, and_parts, leb-true, lt-ltb, not-true, eqb-false}
use Rattle.board.specs.Areas.{area}
use Rattle.boards.specs.declared.paged.Pages.{Pages}
use Rattle.boards.specs.Below.{all_below}
use Rattle.boards.specs.Places.{LayoutLaws}
use Rattle.boards.specs.Pages.{no_pages, page, paged_size, paged_place, paged_stretch, paged_byte, paged_area, paged, eight-paged, entry, used, differs, good_entry, fits, sound_pages}
use Rattle.boards.proofs.Below.{below_at, neither_before}

-- eight empty areas are sound in any memory
pub empty-sound : (n : ℕ) → sound_pages (replicate 8 no_pages) n ≡ true
unfolding all_below
empty-sound n = refl

-- pages that are not sound leave no area a byte
pub paged-choice : (memory : List ℕ) (table : List Pages) (b : Bool) →
    paged memory (cond b table (replicate 8 no_pages)) ≡ cond b (paged memory table) (replicate 8 [])
unfolding paged
paged-choice memory table true = refl
paged-choice memory table false = refl

implied : (u t : Bool) → (not u || t) ≡ true → u ≡ true → t ≡ true
implied u t h k = grind arith

module _ (table : List Pages) (n : ℕ) (e : length table ≡ 8) (s : sound_pages table n ≡ true) where
  sound : (all_below (good_entry table n) 128 ≡ true) × (list_all fits table ≡ true)
  sound = and_parts (all_below (good_entry table n) 128) (list_all fits table) s

  -- each of the eight areas is not too large
  most : (i : ℕ) → i < 8 → paged_size table i ≤ 1024
  most i h = leb-true (paged_size table i) 1024 (AllPass-from_list_all fits table sound.1 i no_pages (omega arith))

  -- an area with a byte is one of the eight, and not too large
  pub fitting : (i a : ℕ) → a < paged_size table i → (i < 8) × (paged_size table i ≤ 1024)
  fitting i a l =
      let past : 8 ≤ i → paged_size table i ≡ 0 = λ h. ap (λ (p : Pages). p.size) (get_or_past table i no_pages (omega arith)) in
      let h : i < 8 = grind arith in
      (h, most i h)

  -- the entry of a byte's page is used
  entry_of : (i a : ℕ) → a < paged_size table i →
      (16 * i + a / 64 < 128) × (used table (16 * i + a / 64) ≡ true) × (entry table (16 * i + a / 64) ≡ page table i (a / 64))
  entry_of i a l =
      let f = fitting i a l in
      let q : (16 * i + a / 64) / 16 ≡ i = omega arith in
      let r : (16 * i + a / 64) % 16 ≡ a / 64 = omega arith in
      let z = ap (paged_size table) q in (
        omega arith,
        lt-ltb (64 * ((16 * i + a / 64) % 16)) (paged_size table ((16 * i + a / 64) / 16)) (omega arith),
        ap (λ (x : ℕ). page table x ((16 * i + a / 64) % 16)) q ∙ ap (page table i) r,
      )

  -- a used entry is good
  held : (x : ℕ) → x < 128 → used table x ≡ true → (leb (64 * entry table x + 64) n ≡ true) × (all_below (differs table x) x ≡ true)
  held x h u =
      and_parts (leb (64 * entry table x + 64) n) (all_below (differs table x) x)
      (implied (used table x) (leb (64 * entry table x + 64) n && all_below (differs table x) x) (below_at (good_entry table n) 128 x sound.0 h) u)

  earlier : (x y : ℕ) → y < x → x < 128 → used table x ≡ true → used table y ≡ true → entry table x ≡ entry table y → ⊥
  earlier x y h k u v =
      eqb-false (entry table x) (entry table y)
      (not-true (eqb (entry table x) (entry table y))
      (implied (used table y) (not (eqb (entry table x) (entry table y))) (below_at (differs table x) x y (held x k u).1 h) v))

  -- two used entries of one page are one entry
  same-entry : (x y : ℕ) → x < 128 → y < 128 → used table x ≡ true → used table y ≡ true → entry table x ≡ entry table y → x ≡ y
  same-entry x y h k u v p = neither_before x y (λ l. earlier x y l h u v p) (λ l. earlier y x l k v u (sym p))

  place-within : (i a : ℕ) → a < paged_size table i → paged_place table i a < n
  place-within i a l =
      let w = entry_of i a l in
      let b = leb-true (64 * entry table (16 * i + a / 64) + 64) n (held (16 * i + a / 64) w.0 w.1).0 in
      let p = w.2 in
      omega arith

  bytes_apart : (i j a c : ℕ) → a < paged_size table i → c < paged_size table j → paged_place table i a ≡ paged_place table j c → (i ≡ j) × (a ≡ c)
  bytes_apart i j a c l k p =
      let w = entry_of i a l in
      let v = entry_of j c k in
      let f = fitting i a l in
      let g = fitting j c k in
      let q : page table i (a / 64) ≡ page table j (c / 64) = omega arith in
      let z = same-entry (16 * i + a / 64) (16 * j + c / 64) w.0 v.0 w.1 v.1 (w.2 ∙ q ∙ sym v.2) in
      (omega arith, omega arith)

  area-paged : (memory : List ℕ) (i : ℕ) → i < 8 → area (paged memory table) i ≡ paged_area memory table i
  unfolding paged
  area-paged memory i h = get_or-map-range_with_len (paged_area memory table) 0 8 i i [] h (omega arith)

  area-size : (memory : List ℕ) (i : ℕ) → length (area (paged memory table) i) ≡ paged_size table i
  area-size memory i =
      ⊎_elim
      (λ (h : i < 8). ap length (area-paged memory i h) ∙ length-map-range_with_len (paged_byte memory table i) 0 (paged_size table i))
      (λ (h : 8 ≤ i).
      let k = eight-paged memory table in
      ap length (get_or_past (paged memory table) i [] (omega arith)) ∙ sym (ap (λ (p : Pages). p.size) (get_or_past table i no_pages (omega arith))))
      (cases_lt i 8)

  -- bytes of one page lie in a row
  straight : (i a k : ℕ) → a < paged_size table i → k < paged_stretch table i a → paged_place table i (a + k) ≡ paged_place table i a + k
  straight i a k l h =
      let q : (a + k) / 64 ≡ a / 64 = omega arith in
      let r : (a + k) % 64 ≡ a % 64 + k = omega arith in
      let p = ap (page table i) q in
      omega arith

  pub pages_laid : LayoutLaws n (λ memory. paged memory table) (paged_size table) (paged_place table) (paged_stretch table)
  pages_laid =
      record {
        eight = λ memory. eight-paged memory table;
        long = λ memory _ i. area-size memory i;
        byte =
            λ memory i a l.
            ap (λ (bytes : List ℕ). get_or bytes a 0) (area-paged memory i (fitting i a l).0)
            ∙ get_or-map-range_with_len (paged_byte memory table i) 0 (paged_size table i) a a 0 l (omega arith);
        within = place-within;
        apart = bytes_apart;
        some = λ i a l. omega arith;
        ends = λ i a l. omega arith;
        straight = straight;
      }
