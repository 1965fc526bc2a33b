-- The clock of a boot.
use Rattle.std.proofs.Common.{arith}
use Rattle.tables.specs.declared.Tables.{Tables}
use Rattle.tables.specs.Sound.{Sound}
use Rattle.machine.specs.Time.{clock_of}
use Rattle.clock.specs.Timely.{Timely}

-- it starts within the first plan's frame
pub started : (t : Tables) → Sound t → Timely t.plans (clock_of 0 0 0 0)
started t s =
    let f = (s.plans.each 0 (omega (arith, s.plans.some))).some in
    record { plan = omega (arith, s.plans.some); next = omega (arith, s.plans.some); begun = omega arith; within = omega (arith, f) }
