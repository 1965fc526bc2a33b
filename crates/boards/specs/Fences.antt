-- Eight fences: parts of one memory, apart from one another.
use Rattle.std.specs.Prelude.{ℕ, ◌+◌, ◌-◌, Bool, ◌&&◌, ◌||◌, List, [], map, take, drop, replicate, if◌then◌else◌, ◌==◌, nat_le, slice_index_or}
use Rattle.board.specs.Areas.{Area}
use Rattle.boards.specs.declared.fenced.Fence.{Fence}
use Rattle.boards.specs.Below.{all_below}
use Rattle.boards.specs.Places.{LayoutLaws}

-- an empty fence
abbrev pub nowhere : Fence
nowhere = record { base = 0; size = 0 }

-- the fence of an area; one that is not there is empty
abbrev pub fence_of : List Fence → ℕ → Fence
fence_of fences i = slice_index_or fences i nowhere

-- the bytes that a fence holds: `size` of them, from `base` on
abbrev pub part : List ℕ → Fence → Area
part memory f = take f.size (drop f.base memory)

-- the areas: the part of each fence
abbrev pub parts : List ℕ → List Fence → List Area
parts memory fences = map (part memory) fences

-- a fence has at most 1,024 bytes, all within a memory of n; an empty one may have any base
abbrev pub within : ℕ → Fence → Bool
within n f = nat_le f.size 1024 && (f.size == 0 || nat_le (f.base + f.size) n)

-- two fences share no byte: one is empty, or one ends before the other begins
abbrev pub apart : Fence → Fence → Bool
apart f g = (f.size == 0 || g.size == 0) || (nat_le (f.base + f.size) g.base || nat_le (g.base + g.size) f.base)

-- fences i and j share no byte
abbrev pub apart_at : List Fence → ℕ → ℕ → Bool
apart_at fences i j = apart (fence_of fences i) (fence_of fences j)

-- fence i lies within the memory, and apart from each fence before it
abbrev pub good_fence : List Fence → ℕ → ℕ → Bool
good_fence fences n i = within n (fence_of fences i) && all_below (apart_at fences i) i

-- all eight fences are good in a memory of n bytes
abbrev pub sound_fences : List Fence → ℕ → Bool
sound_fences fences n = all_below (good_fence fences n) 8

-- the fences that a board takes: the given ones where they are sound, else eight empty ones
abbrev pub taken_fences : List Fence → ℕ → List Fence
taken_fences fences n = if sound_fences fences n then fences else replicate 8 nowhere

-- where byte `at` of area i lies
abbrev pub fence_place : List Fence → ℕ → ℕ → ℕ
fence_place fences i at = (fence_of fences i).base + at

-- the size of area i
abbrev pub fence_size : List Fence → ℕ → ℕ
fence_size fences i = (fence_of fences i).size

-- all bytes of an area lie one after another: from byte `at` on, those that are left
abbrev pub fence_stretch : List Fence → ℕ → ℕ → ℕ
fence_stretch fences i at = fence_size fences i - at

-- the fences lay the areas apart in a memory of n bytes
abbrev pub FencesLaid : List Fence → ℕ → Type 0
FencesLaid fences n =
    LayoutLaws n (λ memory. parts memory fences) (fence_size fences) (fence_place fences) (fence_stretch fences)

-- the areas of a board on a memory of n bytes: the given fences' parts where they are sound, else eight empty ones
abbrev pub fenced_areas : List ℕ → List Fence → ℕ → List Area
fenced_areas memory fences n = if sound_fences fences n then parts memory fences else replicate 8 []
