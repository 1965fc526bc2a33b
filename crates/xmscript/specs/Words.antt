-- What the program is asked for.
use Rattle.std.specs.Prelude.{ℕ, Bool, List, if◌then◌else◌, codes, string_bytes}
use Rattle.std.specs.List.{list_any}
use Rattle.std.specs.Str.{bytes_eq}
use Rattle.std.specs.declared.alloc.Global.{Global}
use Rattle.std.specs.declared.string.String.{String}
use Rattle.tables.specs.declared.Tables.{Tables}
use Rattle.xmscript.specs.declared.Wanted.{Wanted}
use Rattle.xmscript.specs.declared.Wanted.TheVariants.{Answers, Areas}

-- how many areas are printed: none, or each partition's
abbrev pub areas_of : Wanted → Tables → ℕ
areas_of Answers t = 0
areas_of Areas t = t.partitions.count

-- the word `areas`
abbrev pub is_areas : String Global → Bool
is_areas word = bytes_eq (string_bytes word) (codes "areas")

-- the areas are wanted where one of the words is that one
abbrev pub wanted_of : List (String Global) → Wanted
wanted_of words = if list_any is_areas words then Areas else Answers
