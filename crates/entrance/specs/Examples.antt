-- The worked examples of the rules, in one list: what is asked, and what the rules say.
use Rattle.std.specs.Prelude.{◌≡◌, ℕ, List, [], ◌∷◌, ◌++◌, map, Some, None, Option}
use Rattle.vector.specs.Examples.{Example, examples}
use Rattle.vector.specs.Reading.{Verdict, taken, verdict, tables}
use Rattle.machine.specs.Questions.{plan, slots_of, holder}
use Rattle.machine.specs.Circle.{circle_of}

-- the verdict on a vector, who has the slot at an offset of its first plan's frame, or the circle of a partition
pub data Question : Type 0 where
  vector : List ℕ → Question
  slot : List ℕ → ℕ → Question
  circle : List ℕ → ℕ → Question

pub data Finding : Type 0 where
  says : Verdict → Finding
  runs : Option ℕ → Finding
  mask : ℕ → Finding

abbrev pub asked : Question → Finding
asked (vector bs) = says (verdict bs)
asked (slot bs o) = runs (holder (slots_of (plan (tables bs) 0)) o)
asked (circle bs p) = mask (circle_of (tables bs) p)

pub record Worked : Type 0 where
  pub question : Question
  pub finding : Finding

abbrev pub of_vector : Example → Worked
of_vector e = record { question = vector e.bytes; finding = says e.says }

-- two partitions, a frame of 20,000, the first from 0 to 10,000 and the second from 15,000 to 20,000
abbrev pub shared : List ℕ
shared =
    2 ∷ 0 ∷ 1 ∷ 0 ∷ 2 ∷ 1
    ∷ 4 ∷ 0 ∷ 2 ∷ 0 ∷ 0 ∷ 16 ∷ 0 ∷ 65
    ∷ 4 ∷ 0 ∷ 2 ∷ 0 ∷ 0 ∷ 16 ∷ 0 ∷ 66
    ∷ 4 ∷ 0 ∷ 3 ∷ 0 ∷ 32 ∷ 78 ∷ 0 ∷ 0
    ∷ 9 ∷ 0 ∷ 4 ∷ 0 ∷ 0 ∷ 0 ∷ 0 ∷ 0 ∷ 0 ∷ 16 ∷ 39 ∷ 0 ∷ 0
    ∷ 9 ∷ 0 ∷ 4 ∷ 0 ∷ 1 ∷ 152 ∷ 58 ∷ 0 ∷ 0 ∷ 136 ∷ 19 ∷ 0 ∷ 0 ∷ []

-- three standard partitions: A (0) sends B (1) a queue, and C (2) raises an IPVI to A
abbrev pub linked : List ℕ
linked =
    2 ∷ 0 ∷ 1 ∷ 0 ∷ 3 ∷ 1
    ∷ 4 ∷ 0 ∷ 2 ∷ 0 ∷ 0 ∷ 16 ∷ 0 ∷ 65
    ∷ 4 ∷ 0 ∷ 2 ∷ 0 ∷ 0 ∷ 16 ∷ 0 ∷ 66
    ∷ 4 ∷ 0 ∷ 2 ∷ 0 ∷ 0 ∷ 16 ∷ 0 ∷ 67
    ∷ 4 ∷ 0 ∷ 3 ∷ 0 ∷ 232 ∷ 3 ∷ 0 ∷ 0
    ∷ 9 ∷ 0 ∷ 4 ∷ 0 ∷ 0 ∷ 0 ∷ 0 ∷ 0 ∷ 0 ∷ 232 ∷ 3 ∷ 0 ∷ 0
    ∷ 4 ∷ 0 ∷ 5 ∷ 0 ∷ 1 ∷ 8 ∷ 0 ∷ 2
    ∷ 3 ∷ 0 ∷ 6 ∷ 0 ∷ 0 ∷ 0 ∷ 111
    ∷ 3 ∷ 0 ∷ 6 ∷ 0 ∷ 1 ∷ 1 ∷ 105
    ∷ 3 ∷ 0 ∷ 7 ∷ 0 ∷ 0 ∷ 2 ∷ 1 ∷ []

abbrev pub worked : List Worked
worked =
    map of_vector examples
    ++ (record { question = slot shared 9999; finding = runs (Some 0) }
    ∷ record { question = slot shared 10000; finding = runs None }
    ∷ record { question = slot shared 15000; finding = runs (Some 1) }
    -- B's circle is A, B and C; C's is C
    ∷ record { question = vector linked; finding = says taken }
    ∷ record { question = circle linked 1; finding = mask 7 }
    ∷ record { question = circle linked 2; finding = mask 4 }
    ∷ [])

abbrev pub ask : Worked → Finding
ask w = asked w.question

abbrev pub found : Worked → Finding
found w = w.finding

-- each question has the finding that stands beside it
abbrev pub ExamplesStand : Type 0
ExamplesStand = map ask worked ≡ map found worked
