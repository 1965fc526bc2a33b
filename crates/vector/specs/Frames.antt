-- Which record stands at the front of the bytes that are left: its kind is known, and its body suits it.
use Rattle.std.specs.Prelude.{ℕ, ◌+◌, Bool, cond, ◌&&◌, List, length, take, drop, ◌==◌, nat_le, nat_lt}
use Rattle.frame.specs.Frames.{word16, Piece}
use Rattle.vector.specs.Reasons.{past_end, unknown_kind, wrong_length}
use Rattle.vector.specs.Out.{Out, fine, bad, then}
use Rattle.vector.specs.declared.kind.Kind.{Kind}
use Rattle.vector.specs.declared.kind.Kind.TheVariants.{Header, Partition, Plan, Slot, Channel, Port, Ipvi, Line, Action}

-- the kind of each number
abbrev pub kind_of : ℕ → ℕ → Out Kind
kind_of at k =
    cond (k == 1) (fine Header)
    (cond (k == 2) (fine Partition)
    (cond (k == 3) (fine Plan)
    (cond (k == 4) (fine Slot)
    (cond (k == 5) (fine Channel)
    (cond (k == 6) (fine Port)
    (cond (k == 7) (fine Ipvi)
    (cond (k == 8) (fine Line)
    (cond (k == 9) (fine Action)
    (bad (unknown_kind at))))))))))

-- how long the body of each kind is
abbrev pub suits : Kind → ℕ → Bool
suits Header n = n == 2
suits Partition n = nat_le 4 n && nat_le n 19
suits Plan n = n == 4
suits Slot n = n == 9
suits Channel n = n == 4
suits Port n = nat_le 3 n && nat_le n 18
suits Ipvi n = n == 3
suits Line n = n == 2
suits Action n = n == 4

abbrev pub Framed : Type 0
Framed = Piece Kind

-- a body of n bytes and the rest, if the body suits the kind
abbrev pub cut_at : ℕ → ℕ → List ℕ → Kind → Out Framed
cut_at at n bs k = cond (suits k n) (fine (record { kind = k; body = take n (drop 4 bs); rest = drop (4 + n) bs })) (bad (wrong_length at))

-- the record at the front: a length, a kind, and as many bytes as the length says
abbrev pub framed : ℕ → List ℕ → Out Framed
framed at bs =
    cond (nat_lt (length bs) 4) (bad (past_end at))
    (cond (nat_lt (length bs) (4 + word16 bs 0)) (bad (past_end at))
    (then (kind_of at (word16 bs 2)) (cut_at at (word16 bs 0) bs)))
