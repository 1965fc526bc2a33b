-- What is true of the records that the reader shows.
use Rattle.std.specs.Prelude.{◌≡◌, ◌++◌}
use Rattle.vector.specs.Encoding.{Bytes, bytes_of}
use Rattle.vector.specs.Out.{fine}
use Rattle.vector.specs.Points.{Point, Step, step}

-- what the reader shows of a record gives back its bytes
abbrev pub RecordsWritten : Type 0
RecordsWritten = (p : Point) (x : Step) → Bytes p.rest → step p ≡ fine x → p.rest ≡ bytes_of x.shown.said ++ x.point.rest
