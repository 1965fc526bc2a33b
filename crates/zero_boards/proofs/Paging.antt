-- The pages of a script are sound, and hold zeros.
use Rattle.std.proofs.Common.{◌≡◌, ℕ, ◌+◌, ◌-◌, ◌*◌, ◌/◌, ◌%◌, ◌<◌, ◌≤◌, true, false, not, eqb, leb, List, [], map, get_or, replicate, refl, sym, ap, ◌∙◌, arith}
use lib.ListN.{length-replicate}
use Rattle.std.specs.List.{list_all, range_with_len}
use Rattle.std.proofs.lemmas.List.Sums.{list_all-from_AllPass}
use Rattle.std.proofs.lemmas.List.FromFn.{length-map-range_with_len, get_or-map-range_with_len, fill_by_all}
use Rattle.std.proofs.lemmas.List.{get_or-replicate}
use Rattle.std.proofs.lemmas.Bool.{and_from, or_right, le-leb, ne_eqb, not_from_false}
use Rattle.tables.specs.declared.Tables.{Tables}
use Rattle.tables.specs.Laws.{AreasSized}
use Rattle.boards.specs.declared.paged.Pages.{Pages}
use Rattle.boards.specs.Below.{all_below}
use Rattle.boards.specs.Pages.{no_pages, paged_size, paged_byte, paged_area, paged, entry, used, differs, good_entry, fits, sound_pages}
use Rattle.zero_boards.specs.Layouts.{size_at, sizes_of, zeros_at, zeroed, pages_at, pages_of}
use Rattle.boards.proofs.Below.{all-below}
use Rattle.zero_boards.proofs.Zeros.{zero-at, size-most}

module _ (t : Tables) (s : AreasSized t) (n : ℕ) (room : 8192 ≤ n) where
  abbrev pages_in : ℕ → Pages
  pages_in i = pages_at i (size_at t i)

  -- the page table, an entry for each number below eight
  abbrev table : List Pages
  table = map pages_in (range_with_len 0 8)

  table-is : pages_of (sizes_of t) ≡ table
  table-is = refl

  area-lem : (i : ℕ) → i < 8 → get_or table i no_pages ≡ pages_in i
  area-lem i h = get_or-map-range_with_len pages_in 0 8 i i no_pages h (omega arith)

  size-lem : (i : ℕ) → i < 8 → paged_size table i ≡ size_at t i
  size-lem i h = ap (λ (p : Pages). p.size) (area-lem i h)

  entry-lem : (e : ℕ) → e < 128 → entry table e ≡ 16 * (7 - e / 16) + e % 16
  entry-lem e h =
      ap (λ (p : Pages). get_or p.numbers (e % 16) 0) (area-lem (e / 16) (omega arith))
      ∙ get_or-map-range_with_len (λ k. 16 * (7 - e / 16) + k) 0 16 (e % 16) (e % 16) 0 (omega arith) (omega arith)

  -- no page is met twice
  entries-differ : (e d : ℕ) → e < 128 → d < e → eqb (entry table e) (entry table d) ≡ false
  entries-differ e d h l =
      let x = entry-lem e h in
      let y = entry-lem d (omega arith) in
      ne_eqb (entry table e) (entry table d) (λ z. omega arith)

  entry-good : (e : ℕ) → e < 128 → good_entry table n e ≡ true
  entry-good e h =
      let x = entry-lem e h in
      or_right (not (used table e)) _
      (and_from (leb (64 * entry table e + 64) n) (all_below (differs table e) e)
      (le-leb (64 * entry table e + 64) n (omega arith))
      (all-below (differs table e) e (λ d l.
      or_right (not (used table d)) _ (not_from_false (eqb (entry table e) (entry table d)) (entries-differ e d h l)))))

  pages-sound : sound_pages table n ≡ true
  pages-sound =
      and_from (all_below (good_entry table n) 128) (list_all fits table)
      (all-below (good_entry table n) 128 entry-good)
      (list_all-from_AllPass fits table (λ i d h.
      let l = length-map-range_with_len pages_in 0 8 in
      ap fits (get_or-map-range_with_len pages_in 0 8 i i d (omega arith) (omega arith)) ∙ le-leb (size_at t i) 1024 (size-most t s i)))

  zeros_of : (i : ℕ) → i < 8 → paged_area (replicate n 0) table i ≡ zeros_at t i
  zeros_of i h =
      ap (λ (z : ℕ). map (paged_byte (replicate n 0) table i) (range_with_len 0 z)) (size-lem i h)
      ∙ sym (fill_by_all (paged_byte (replicate n 0) table i) (zeros_at t i) (size_at t i) 0 (length-replicate (size_at t i) 0)
      (λ k l. get_or-replicate (size_at t i) k 0 0 l ∙ sym (zero-at n _)))

  pages-zeroed : paged (replicate n 0) table ≡ zeroed t
  unfolding paged zeroed
  pages-zeroed =
      fill_by_all (zeros_at t) (paged (replicate n 0) table) 8 []
      (length-map-range_with_len (paged_area (replicate n 0) table) 0 8)
      (λ i h. get_or-map-range_with_len (paged_area (replicate n 0) table) 0 8 i i [] h (omega arith) ∙ zeros_of i h)

  pub pages-laid : (areas : List Pages) → areas ≡ pages_of (sizes_of t) →
      record { sound : sound_pages areas n ≡ true; zeroed : paged (replicate n 0) areas ≡ zeroed t }
  pages-laid areas e =
      let f : areas ≡ table = e ∙ table-is in
      record { sound = rw f pages-sound; zeroed = rw f pages-zeroed }
