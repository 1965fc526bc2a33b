-- Where a script's areas lie in the memory of each board.
use Rattle.std.specs.Prelude.{ℕ, ◌+◌, ◌-◌, ◌*◌, cond, List, map, replicate, nat_lt, slice_index, slice_index_or}
use Rattle.std.specs.List.{range_with_len}
use Rattle.board.specs.Areas.{Area}
use Rattle.tables.specs.declared.Tables.{Tables}
use Rattle.tables.specs.Blank.{row0}
use Rattle.boards.specs.declared.fenced.Fence.{Fence}
use Rattle.boards.specs.declared.paged.Pages.{Pages}

-- the vector's size; a partition that is not there has none
abbrev pub size_at : Tables → ℕ → ℕ
size_at t i = cond (nat_lt i t.partitions.count) (slice_index_or t.partitions.rows i row0).size 0

abbrev pub sizes_of : Tables → List ℕ
sizes_of t = map (size_at t) (range_with_len 0 8)

abbrev pub zeros_at : Tables → ℕ → Area
zeros_at t i = replicate (size_at t i) 0

-- the eight areas: as many zeros as the vector gives the partition
unfoldable pub zeroed : Tables → List Area
zeroed t = map (zeros_at t) (range_with_len 0 8)

-- each area has 1,024 bytes of the memory to lie in
abbrev pub fence_at : ℕ → ℕ → Fence
fence_at i size = record { base = 1024 * i; size = size }

abbrev pub fences_of : List ℕ → List Fence
fences_of sizes = map (λ i. fence_at i (slice_index sizes i)) (range_with_len 0 8)

-- each area has sixteen pages, one after another; the last area lies first
abbrev pub pages_at : ℕ → ℕ → Pages
pages_at i size = record { numbers = map (λ k. 16 * (7 - i) + k) (range_with_len 0 16); size = size }

abbrev pub pages_of : List ℕ → List Pages
pages_of sizes = map (λ i. pages_at i (slice_index sizes i)) (range_with_len 0 8)
