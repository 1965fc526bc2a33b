-- The reader as it goes from record to record.
use Rattle.std.specs.Prelude.{ℕ, ◌+◌, cond, List, length, Some, None, Option, ◌==◌}
use Rattle.vector.specs.Out.{Out, fine, bad, then, pass}
use Rattle.vector.specs.Frames.{Framed, framed}
use Rattle.vector.specs.Bodies.{Said, said_of}
use Rattle.vector.specs.Joins.{joined}
use Rattle.vector.specs.Turns.{ending}
use Rattle.vector.specs.Reading.{heard, read_on}
use Rattle.vector.specs.declared.reader.Records.{Records}
use Rattle.vector.specs.declared.reader.Shown as declared
use Rattle.vector.specs.declared.sofar.Sofar.{Sofar}

-- where the reader stands: the place of the next record, what the records so far have said, and the bytes that are left
pub record Point : Type 0 where
  pub at : ℕ
  pub sofar : Sofar
  pub rest : List ℕ

abbrev pub point_of : Records → Point
point_of r = record { at = r.at; sofar = r.sofar; rest = r.rest.now }

-- what the records that are left say with those so far, or the first refusal
abbrev pub remaining : Point → Out Sofar
remaining p = read_on 0 p.at p.sofar p.rest

-- a record, and its place
pub record Shown : Type 0 where
  pub at : ℕ
  pub said : Said

abbrev pub shown_of : Option declared.Shown → Option Shown
shown_of None = None
shown_of (Some x) = Some (record { at = x.at; said = said_of x.record })

-- a record that was taken, and where the reader stands after it
pub record Step : Type 0 where
  pub shown : Shown
  pub point : Point

-- the step over a record that was cut off, which says x and gives t
abbrev pub step_over : ℕ → Framed → Said → Sofar → Step
step_over at f x t = record {
  shown = record { at = at; said = x };
  point = record { at = at + (4 + length f.body); sofar = t; rest = f.rest };
}

-- the record at a point
abbrev pub step : Point → Out Step
step p =
    then (framed p.at p.rest) (λ f.
    then (heard p.at p.sofar f.kind f.body) (λ x.
    then (joined p.at p.sofar x) (λ t.
    fine (step_over p.at f x t))))

-- the record at a point, or none at the end of the bytes, where nothing may be owed
abbrev pub next : Point → Out (Option Step)
next p =
    cond (length p.rest == 0)
    (pass (ending p.at p.sofar) (fine None))
    (then (step p) (λ x. fine (Some x)))

-- what is shown of a step
abbrev pub shown : Out (Option Step) → Out (Option Shown)
shown (fine None) = fine None
shown (fine (Some x)) = fine (Some x.shown)
shown (bad r) = bad r

-- where the reader stands after it: a refusal leaves it where it was
abbrev pub moved : Point → Out (Option Step) → Point
moved p (fine None) = p
moved p (fine (Some x)) = x.point
moved p (bad r) = p
