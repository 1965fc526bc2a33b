-- The bytes of a record.
use Rattle.std.specs.Prelude.{ℕ, ◌/◌, ◌%◌, ◌<◌, Bool, true, false, List, [], ◌∷◌, ◌++◌, length, slice_index}
use Rattle.tables.specs.Numbers.{class_number, channel_number, scope_number, action_number, direction_number}
use Rattle.vector.specs.Bodies.{Said, header, partition, plan, slot, channel, port, ipvi, line, action}
use Rattle.vector.specs.Ranges.{kind_said}
use Rattle.vector.specs.Turns.{kind_number}

-- a list of bytes
abbrev pub Bytes : List ℕ → Type 0
Bytes bs = (i : ℕ) → slice_index bs i < 256

-- two bytes, and four, the low one first
abbrev pub two : ℕ → List ℕ
two n = n % 256 ∷ n / 256 ∷ []

abbrev pub four : ℕ → List ℕ
four n = two (n % 65536) ++ two (n / 65536)

abbrev pub flag_number : Bool → ℕ
flag_number false = 0
flag_number true = 1

-- the body of a record
abbrev pub body_of : Said → List ℕ
body_of (header n m) = n ∷ m ∷ []
body_of (partition c z n) = class_number c ∷ (two z ++ n.bytes)
body_of (plan f) = four f
body_of (slot p b d) = p ∷ (four b ++ four d)
body_of (channel k l d) = channel_number k ∷ (two l ++ (d ∷ []))
body_of (port p d n) = p ∷ direction_number d ∷ n.bytes
body_of (ipvi n p m) = n ∷ p ∷ m ∷ []
body_of (line l p) = l ∷ p ∷ []
body_of (action s e a l) = scope_number s ∷ e ∷ action_number a ∷ flag_number l ∷ []

-- the length of its body, its kind, and its body
abbrev pub bytes_of : Said → List ℕ
bytes_of x = two (length (body_of x)) ++ (two (kind_number (kind_said x)) ++ body_of x)
