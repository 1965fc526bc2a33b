-- Worked examples: bytes, and the verdict on them.
use Rattle.std.specs.Prelude.{ℕ, zero, suc, List, [], ◌∷◌, ◌++◌, take}
use Rattle.vector.specs.Reading.{Verdict, taken, refused}
use Rattle.vector.specs.declared.refusal.Layer.TheVariants.{Frame, Field, Relation}

pub record Example : Type 0 where
  pub bytes : List ℕ
  pub says : Verdict

-- one partition named A with 16 bytes, and one plan of 1,000 microseconds
abbrev pub alone : List ℕ
alone = 2 ∷ 0 ∷ 1 ∷ 0 ∷ 1 ∷ 1 ∷ 4 ∷ 0 ∷ 2 ∷ 0 ∷ 0 ∷ 16 ∷ 0 ∷ 65 ∷ 4 ∷ 0 ∷ 3 ∷ 0 ∷ 232 ∷ 3 ∷ 0 ∷ 0 ∷ []

-- with one slot for the whole frame
abbrev pub whole : List ℕ
whole = alone ++ (9 ∷ 0 ∷ 4 ∷ 0 ∷ 0 ∷ 0 ∷ 0 ∷ 0 ∷ 0 ∷ 232 ∷ 3 ∷ 0 ∷ 0 ∷ [])

-- n slots of one microsecond each, one after another
abbrev pub slots : ℕ → List ℕ
slots zero = []
slots (suc n) = slots n ++ (9 ∷ 0 ∷ 4 ∷ 0 ∷ 0 ∷ n ∷ 0 ∷ 0 ∷ 0 ∷ 1 ∷ 0 ∷ 0 ∷ 0 ∷ [])

-- the partitions A and B, a plan with a slot for A, and a queue of four messages from A to B
abbrev pub pair : List ℕ
pair =
    (2 ∷ 0 ∷ 1 ∷ 0 ∷ 2 ∷ 1 ∷ [])
    ++ ((4 ∷ 0 ∷ 2 ∷ 0 ∷ 0 ∷ 16 ∷ 0 ∷ 65 ∷ [])
    ++ ((4 ∷ 0 ∷ 2 ∷ 0 ∷ 1 ∷ 16 ∷ 0 ∷ 66 ∷ [])
    ++ ((4 ∷ 0 ∷ 3 ∷ 0 ∷ 232 ∷ 3 ∷ 0 ∷ 0 ∷ [])
    ++ ((9 ∷ 0 ∷ 4 ∷ 0 ∷ 0 ∷ 0 ∷ 0 ∷ 0 ∷ 0 ∷ 232 ∷ 3 ∷ 0 ∷ 0 ∷ [])
    ++ ((4 ∷ 0 ∷ 5 ∷ 0 ∷ 1 ∷ 8 ∷ 0 ∷ 4 ∷ [])
    ++ ((3 ∷ 0 ∷ 6 ∷ 0 ∷ 0 ∷ 0 ∷ 111 ∷ [])
    ++ (3 ∷ 0 ∷ 6 ∷ 0 ∷ 1 ∷ 1 ∷ 105 ∷ [])))))))

-- IPVI 0 from A to B, line 3 of B, and a halt where A fails
abbrev pub links : List ℕ
links = 3 ∷ 0 ∷ 7 ∷ 0 ∷ 0 ∷ 0 ∷ 2 ∷ 2 ∷ 0 ∷ 8 ∷ 0 ∷ 3 ∷ 1 ∷ 4 ∷ 0 ∷ 9 ∷ 0 ∷ 0 ∷ 6 ∷ 3 ∷ 1 ∷ []

abbrev pub examples : List Example
examples =
    record { bytes = whole; says = taken }
    ∷ record { bytes = take 34 whole; says = refused Frame 12 22 }
    ∷ record { bytes = []; says = refused Frame 16 0 }
    -- a slot of 1,001 microseconds
    ∷ record { bytes = alone ++ (9 ∷ 0 ∷ 4 ∷ 0 ∷ 0 ∷ 0 ∷ 0 ∷ 0 ∷ 0 ∷ 233 ∷ 3 ∷ 0 ∷ 0 ∷ []); says = refused Relation 33 22 }
    -- a slot of partition 1
    ∷ record { bytes = alone ++ (9 ∷ 0 ∷ 4 ∷ 0 ∷ 1 ∷ 0 ∷ 0 ∷ 0 ∷ 0 ∷ 232 ∷ 3 ∷ 0 ∷ 0 ∷ []); says = refused Field 21 26 }
    -- all nine kinds
    ∷ record { bytes = pair ++ links; says = taken }
    -- a record of kind 10
    ∷ record { bytes = whole ++ (0 ∷ 0 ∷ 10 ∷ 0 ∷ []); says = refused Frame 13 35 }
    -- a header of three bytes
    ∷ record { bytes = 3 ∷ 0 ∷ 1 ∷ 0 ∷ 1 ∷ 1 ∷ 1 ∷ []; says = refused Frame 14 0 }
    -- a plan before its partitions; a line after an action
    ∷ record { bytes = take 6 alone ++ (4 ∷ 0 ∷ 3 ∷ 0 ∷ 232 ∷ 3 ∷ 0 ∷ 0 ∷ []); says = refused Frame 15 6 }
    ∷ record { bytes = pair ++ (links ++ (2 ∷ 0 ∷ 8 ∷ 0 ∷ 4 ∷ 1 ∷ [])); says = refused Frame 15 86 }
    -- a plan without a slot; a channel with one port
    ∷ record { bytes = alone; says = refused Frame 16 22 }
    ∷ record { bytes = take 58 pair; says = refused Frame 16 58 }
    -- 16 slots, and a 17th
    ∷ record { bytes = alone ++ slots 16; says = taken }
    ∷ record { bytes = alone ++ slots 17; says = refused Relation 31 230 }
    -- a second partition named A; IPVI 0 from A again
    ∷ record { bytes = take 14 pair ++ (4 ∷ 0 ∷ 2 ∷ 0 ∷ 1 ∷ 16 ∷ 0 ∷ 65 ∷ []); says = refused Relation 32 14 }
    ∷ record { bytes = pair ++ (take 7 links ++ links); says = refused Relation 32 72 }
    -- an IPVI to its own source
    ∷ record { bytes = pair ++ (3 ∷ 0 ∷ 7 ∷ 0 ∷ 0 ∷ 0 ∷ 1 ∷ []); says = refused Field 21 71 }
    ∷ []
