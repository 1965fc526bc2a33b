use Rattle.std.proofs.Common.{◌≡◌, length}
use Rattle.vector.specs.Points.{point_of, remaining}
use Rattle.vector.proofs.reader.Records.read_all.Given as goal

abbrev pub invariant-loop : goal.invariant-loop
invariant-loop l = remaining (point_of l.self) ≡ remaining (point_of l.fn.self)

abbrev pub decreases-loop : goal.decreases-loop
decreases-loop l = length l.self.rest.now
