-- The clock stands within the frame of a plan that is there.
use Rattle.std.specs.Prelude.{◌+◌, ◌<◌, ◌≤◌}
use Rattle.tables.specs.Tables.{Plans}
use Rattle.machine.specs.declared.clock.Clock.{Clock}
use Rattle.machine.specs.Time.{plan_at}

pub record Timely (ps : Plans) (c : Clock) : Type 0 where
  pub plan : c.plan < ps.count
  pub next : c.next < ps.count
  pub begun : c.start ≤ c.time
  pub within : c.time < c.start + (plan_at ps c.plan).frame
