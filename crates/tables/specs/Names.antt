-- Names, and whether one was given before.
use Rattle.std.specs.Prelude.{ℕ, Bool, ◌&&◌, ◌||◌, List, ◌++◌, length, drop, replicate, ◌==◌}
use Rattle.std.specs.List.{list_any}
use Rattle.std.specs.Str.{bytes_eq}
use Rattle.tables.specs.declared.name.Name.{Name}
use Rattle.tables.specs.declared.partition.PartitionRow.{PartitionRow}
use Rattle.tables.specs.declared.port.Port.{Port}

-- a name in its row: zeros behind it
abbrev pub padded : List ℕ → Name
padded bs = record { length = length bs; bytes = bs ++ drop (length bs) (replicate 16 0) }

-- names are equal by length and bytes
abbrev pub same_name : Name → Name → Bool
same_name m n = m.length == n.length && bytes_eq m.bytes n.bytes

module _ {A : Type 0} where
  -- one of the list passes the test
  abbrev pub any : (A → Bool) → List A → Bool
  any test xs = list_any test xs

abbrev pub has_name : Name → PartitionRow → Bool
has_name n r = same_name r.name n

-- one of the partitions has this name
abbrev pub named : List PartitionRow → Name → Bool
named rs n = any (has_name n) rs

-- two ports of one partition are of one channel, or have one name
abbrev pub clash : Port → Port → Bool
clash p q = p.partition == q.partition && (p.channel == q.channel || same_name p.name q.name)

-- one of the ports clashes with this one
abbrev pub clashes : List Port → Port → Bool
clashes qs p = any (clash p) qs
