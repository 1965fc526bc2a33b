-- The reading of a vector: its records one after another, the verdict, and the tables.
use Rattle.std.specs.Prelude.{ℕ, zero, suc, ◌+◌, Bool, true, false, List, [], ◌∷◌, length}
use Rattle.vector.specs.Out.{Out, fine, bad, then, pass}
use Rattle.vector.specs.Frames.{framed}
use Rattle.vector.specs.Bodies.{Said, said_by}
use Rattle.tables.specs.Rows.{blank}
use Rattle.vector.specs.Sofars.{nothing}
use Rattle.vector.specs.Turns.{turned, ending}
use Rattle.vector.specs.Joins.{joined}
use Rattle.vector.specs.declared.refusal.Layer.{Layer}
use Rattle.vector.specs.declared.kind.Kind.{Kind}
use Rattle.vector.specs.declared.sofar.Sofar.{Sofar}
use Rattle.tables.specs.declared.Tables.{Tables}

-- what a record of a known kind and the right length says: its turn comes before its fields
abbrev pub heard : ℕ → Sofar → Kind → List ℕ → Out Said
heard at s k body = pass (turned at k s) (said_by k s (at + 4) body)

-- and its fields before its relations
abbrev pub followed : ℕ → Sofar → Kind → List ℕ → Out Sofar
followed at s k body = then (heard at s k body) (joined at s)

-- over the bytes, of which the next `skip` belong to a record that was read; `at` is the next record's place
abbrev pub read_on : ℕ → ℕ → Sofar → List ℕ → Out Sofar
read_on skip at s [] = ending at s
read_on (suc k) at s (b ∷ bs) = read_on k at s bs
read_on zero at s (b ∷ bs) =
    then (framed at (b ∷ bs)) (λ f.
    then (followed at s f.kind f.body) (λ t.
    read_on (3 + length f.body) (at + (4 + length f.body)) t bs))

-- what a vector says, or the first refusal
abbrev pub reading : List ℕ → Out Sofar
reading bs = read_on 0 0 nothing bs

abbrev pub gathered : List ℕ → Out Tables
gathered bs = then (reading bs) (λ s. fine s.tables)

pub data Verdict : Type 0 where
  taken : Verdict
  refused : Layer → ℕ → ℕ → Verdict

abbrev pub verdict_of : {X : Type 0} → Out X → Verdict
verdict_of (fine x) = taken
verdict_of (bad r) = refused r.layer r.number r.place

-- the verdict on a vector: taken, or refused by a layer's number at a place
abbrev pub verdict : List ℕ → Verdict
verdict bs = verdict_of (reading bs)

-- 0 where the vector is taken
abbrev pub number_in : Verdict → ℕ
number_in taken = 0
number_in (refused l n p) = n

abbrev pub place_in : Verdict → ℕ
place_in taken = 0
place_in (refused l n p) = p

-- the vector is taken, as a test
abbrev pub takes : List ℕ → Bool
takes bs = elim (verdict bs) [ taken ↦ true | refused l n p ↦ false ]

-- the tables of a vector that is taken
abbrev pub tables : List ℕ → Tables
tables bs = elim (gathered bs) [ fine t ↦ t | bad r ↦ blank ]
