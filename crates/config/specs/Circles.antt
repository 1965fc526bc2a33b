-- The circle of a partition that may not be there.
use Rattle.std.specs.Prelude.{ℕ, Some, None, Option, if◌then◌else◌}
use Rattle.tables.specs.declared.Tables.{Tables}
use Rattle.machine.specs.Questions.{exists}
use Rattle.machine.specs.Circle.{circle_of}

-- the circle as a mask; none where the vector has no such partition
abbrev pub circle_mask : Tables → ℕ → Option ℕ
circle_mask k p = if exists k p then Some (circle_of k p) else None
