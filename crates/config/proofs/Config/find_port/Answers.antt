use Rattle.std.proofs.Common.{sym, ◌∙◌}
use Rattle.config.proofs.Finding.{begun, there, goes_on}
use Rattle.config.proofs.Config.find_port.Goals as goal

pub loop-i-init : goal.loop-i-init
loop-i-init c = begun c.args.self.now.tables c.args.q c.args.kind c.args.name.now _ c.ports_of-left.ensures

pub is_named-requires : goal.is_named-requires
is_named-requires c = there _ _ _ _ _ _ _ c.in-Some.ensures c.loop-i.invariant

pub returns-then-is_named-clause-there : goal.returns-then-is_named-clause-there
returns-then-is_named-clause-there c = there _ _ _ _ _ _ _ c.in-Some.ensures c.loop-i.invariant

pub loop-i-preserved : goal.loop-i-preserved
loop-i-preserved c = goes_on _ _ _ _ _ _ _ c.in-Some.ensures c.loop-i.invariant (sym c.is_named.ensures ∙ c.if-is_named.false)
