-- How the bytes of an area are written.
use Rattle.std.specs.Prelude.{ℕ, ◌/◌, ◌%◌, false, List, [], ◌∷◌, ◌++◌, take, codes, decimal}
use Rattle.std.specs.Fmt.{digit_glyph}
use Rattle.std.specs.List.{flat_map, range_with_len}
use Rattle.board.specs.Areas.{area, Area}
use Rattle.xmscript.specs.Lines.{ended}

-- a byte as two hexadecimal digits
abbrev pub in_hex : ℕ → List ℕ
in_hex byte = digit_glyph false (byte / 16) ∷ digit_glyph false (byte % 16) ∷ []

-- the bytes of an area, up to the 1,024 that a vector gives one at most
abbrev pub area_bytes : List Area → ℕ → List ℕ
area_bytes areas i = flat_map in_hex (take 1024 (area areas i))

-- the number of the partition, and the bytes of its area
abbrev pub area_line : List Area → ℕ → List ℕ
area_line areas i = ended (codes "area " ++ decimal i ++ codes " " ++ area_bytes areas i)

-- the lines of the first `shown` partitions
abbrev pub area_lines : List Area → ℕ → List ℕ
area_lines areas shown = flat_map (area_line areas) (range_with_len 0 shown)
