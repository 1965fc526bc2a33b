-- How a record is cut off the front of the bytes that are left.
use Rattle.std.specs.Prelude.{ℕ, ◌+◌, ◌*◌, cond, List, length, take, drop, Some, None, Option, nat_lt, slice_index}
use Rattle.frame.specs.declared.Cut.{Cut}

-- two bytes from i on, the low one first
abbrev pub word16 : List ℕ → ℕ → ℕ
word16 bs i = slice_index bs i + 256 * slice_index bs (i + 1)

-- a record cut off: its kind or the number of its kind, its body, and the bytes after it
pub record Piece (K : Type 0) : Type 0 where
  pub kind : K
  pub body : List ℕ
  pub rest : List ℕ

module _ {K : Type 0} where
  abbrev pub framed_of : Cut K → Piece K
  framed_of c = record { kind = c.kind; body = c.body.now; rest = c.rest.now }

-- what stands at the front: a length, the number of a kind, and as many bytes as the length says
abbrev pub front : List ℕ → Option (Piece ℕ)
front bs =
    cond (nat_lt (length bs) 4) None
    (cond (nat_lt (length bs) (4 + word16 bs 0)) None
    (Some (record { kind = word16 bs 2; body = take (word16 bs 0) (drop 4 bs); rest = drop (4 + word16 bs 0) bs })))
