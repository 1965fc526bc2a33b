-- What the functions of a board do to its areas.
use Rattle.std.specs.Prelude.{ℕ, ◌+◌, Bool, cond, List, [], ◌++◌, length, take, drop, replicate, Some, None, Option, nat_le, nat_lt, slice_index, slice_index_or, slice_set}

-- the bytes of an area
abbrev pub Area : Type 0
Area = List ℕ

-- an area by its number; one that is not there is empty
abbrev pub area : List Area → ℕ → Area
area ms i = slice_index_or ms i []

-- does the place lie within the area
abbrev pub inside : List Area → ℕ → ℕ → Bool
inside ms i at = nat_lt at (length (area ms i))

-- the byte at a place, or none outside
abbrev pub loaded : List Area → ℕ → ℕ → Option ℕ
loaded ms i at = cond (inside ms i at) (Some (slice_index (area ms i) at)) None

-- the answer of a store: none outside
abbrev pub wrote : List Area → ℕ → ℕ → Option (Unit {0})
wrote ms i at = cond (inside ms i at) (Some tt) None

-- the areas with the byte at one place replaced, and nothing else; outside, as they were
abbrev pub stored : List Area → ℕ → ℕ → ℕ → List Area
stored ms i at byte = cond (inside ms i at) (slice_set ms i (slice_set (area ms i) at byte)) ms

-- the areas with one filled with zeros, and nothing else; one that is not there has no bytes to fill
abbrev pub wiped : List Area → ℕ → List Area
wiped ms i = slice_set ms i (replicate (length (area ms i)) 0)

-- a range lies in the area: address and length add up to at most its size
abbrev pub ranged : Area → ℕ → ℕ → Bool
ranged a o n = nat_le (o + n) (length a)

-- the bytes of a range
abbrev pub part : Area → ℕ → ℕ → List ℕ
part a o n = take n (drop o a)

-- an area with other bytes from a place on
abbrev pub patched : Area → ℕ → List ℕ → Area
patched a o bs = take o a ++ (bs ++ drop (o + length bs) a)

-- the areas with other bytes in one, from a place on
abbrev pub patched_in : List Area → ℕ → ℕ → List ℕ → List Area
patched_in ms i at bytes = slice_set ms i (patched (area ms i) at bytes)

-- do the n bytes from a place on lie within the area
abbrev pub holds : List Area → ℕ → ℕ → ℕ → Bool
holds ms i at n = ranged (area ms i) at n

-- the answer for a range of n bytes: none where it does not lie within the area
abbrev pub reached : List Area → ℕ → ℕ → ℕ → Option (Unit {0})
reached ms i at n = cond (holds ms i at n) (Some tt) None

-- a buffer with the bytes from a place on; where they do not lie within the area, as it was
abbrev pub loaded_range : List Area → ℕ → ℕ → List ℕ → List ℕ
loaded_range ms i at buffer = cond (holds ms i at (length buffer)) (part (area ms i) at (length buffer)) buffer

-- the areas with the bytes from a place on replaced, and nothing else; where they do not lie within the area,
-- as they were
abbrev pub stored_range : List Area → ℕ → ℕ → List ℕ → List Area
stored_range ms i at bytes = cond (holds ms i at (length bytes)) (patched_in ms i at bytes) ms
