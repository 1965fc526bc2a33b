-- Areas of up to 16 pages of 64 bytes, found through a page table.
use Rattle.std.specs.Prelude.{◌≡◌, ℕ, ◌+◌, ◌-◌, ◌*◌, ◌/◌, ◌%◌, min, Bool, not, ◌&&◌, ◌||◌, List, [], map, replicate, length, if◌then◌else◌, ◌==◌, nat_le, nat_lt, slice_index, slice_index_or}
use Rattle.std.specs.List.{list_all, range_with_len}
use Rattle.std.proofs.lemmas.List.FromFn.{length-map-range_with_len}
use Rattle.board.specs.Areas.{Area}
use Rattle.boards.specs.declared.paged.Pages.{Pages}
use Rattle.boards.specs.Below.{all_below}
use Rattle.boards.specs.Places.{LayoutLaws}

-- the pages of an area of no bytes
abbrev pub no_pages : Pages
no_pages = record { numbers = replicate 16 0; size = 0 }

-- the pages of area i; one that is not there has none
abbrev pub pages_at : List Pages → ℕ → Pages
pages_at table i = slice_index_or table i no_pages

-- page k of area i
abbrev pub page : List Pages → ℕ → ℕ → ℕ
page table i k = slice_index (pages_at table i).numbers k

-- the size of area i in bytes
abbrev pub paged_size : List Pages → ℕ → ℕ
paged_size table i = (pages_at table i).size

-- where byte `at` of area i lies
abbrev pub paged_place : List Pages → ℕ → ℕ → ℕ
paged_place table i at = 64 * page table i (at / 64) + at % 64

-- the bytes of a page lie one after another: from byte `at` on, those up to the page's end or the area's, which is nearer
abbrev pub paged_stretch : List Pages → ℕ → ℕ → ℕ
paged_stretch table i at = min (64 - at % 64) (paged_size table i - at)

-- byte `at` of area i
abbrev pub paged_byte : List ℕ → List Pages → ℕ → ℕ → ℕ
paged_byte memory table i at = slice_index memory (paged_place table i at)

-- area i: its bytes from 0 up to its size
abbrev pub paged_area : List ℕ → List Pages → ℕ → Area
paged_area memory table i = map (paged_byte memory table i) (range_with_len 0 (paged_size table i))

-- the eight areas (shut, since open it would be eight rows)
unfoldable pub paged : List ℕ → List Pages → List Area
paged memory table = map (paged_area memory table) (range_with_len 0 8)

-- there are eight
pub eight-paged : (memory : List ℕ) (table : List Pages) → length (paged memory table) ≡ 8
unfolding paged
eight-paged memory table = length-map-range_with_len (paged_area memory table) 0 8

-- entry e of the table is page e % 16 of area e / 16
abbrev pub entry : List Pages → ℕ → ℕ
entry table e = page table (e / 16) (e % 16)

-- an entry is used when its area's size reaches into its page
abbrev pub used : List Pages → ℕ → Bool
used table e = nat_lt (64 * (e % 16)) (paged_size table (e / 16))

-- entry d is unused, or has another page than entry e
abbrev pub differs : List Pages → ℕ → ℕ → Bool
differs table e d = not (used table d) || not (entry table e == entry table d)

-- an entry is unused, or its page lies whole within a memory of n bytes and is not met at an earlier entry
abbrev pub good_entry : List Pages → ℕ → ℕ → Bool
good_entry table n e = not (used table e) || (nat_le (64 * entry table e + 64) n && all_below (differs table e) e)

-- an area has at most 1,024 bytes
abbrev pub fits : Pages → Bool
fits pages = nat_le pages.size 1024

-- all 128 entries are good, and all eight areas fit
abbrev pub sound_pages : List Pages → ℕ → Bool
sound_pages table n = all_below (good_entry table n) 128 && list_all fits table

-- the pages that a board takes: the given ones where they are sound, else none for any area
abbrev pub taken_pages : List Pages → ℕ → List Pages
taken_pages table n = if sound_pages table n then table else replicate 8 no_pages

-- the pages lay the areas apart in a memory of n bytes
abbrev pub PagesLaid : List Pages → ℕ → Type 0
PagesLaid table n =
    LayoutLaws n (λ memory. paged memory table) (paged_size table) (paged_place table) (paged_stretch table)

-- the areas of a board on a memory of n bytes: the given pages where they are sound, else eight empty ones
abbrev pub paged_areas : List ℕ → List Pages → ℕ → List Area
paged_areas memory table n = if sound_pages table n then paged memory table else replicate 8 []
