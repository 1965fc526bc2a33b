use Rattle.std.proofs.Common.{◌≡◌, Some, rules}
use Rattle.kernel.proofs.Running.{there}
use Rattle.kernel.proofs.system.System.running.Goals as goal

pub returns-then-is_ready-clause-is : goal.returns-then-is_ready-clause-is
returns-then-is_ready-clause-is g c =
    let s = c.args.self.now in
    let h : s.core.turn.holder ≡ Some c.args.q = search rules in
    let e = there s.core.config.tables s.core.clock s.core.turn c.args.q s.core.config.slots s.timely.plan s.turned h in
    search rules

pub returns-then-is_ready-clause-runs : goal.returns-then-is_ready-clause-runs
returns-then-is_ready-clause-runs g c =
    let s = c.args.self.now in
    let h : s.core.turn.holder ≡ Some c.args.q = search rules in
    let e = there s.core.config.tables s.core.clock s.core.turn c.args.q s.core.config.slots s.timely.plan s.turned h in
    search rules
