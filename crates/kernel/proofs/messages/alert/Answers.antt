use Rattle.std.proofs.Common.{set, ap, ◌∙◌}
use Rattle.machine.specs.Questions.{port}
use Rattle.config.specs.Index.{listens}
use Rattle.kernel.proofs.Alerting.{begun, ended, there, more}
use Rattle.kernel.proofs.messages.alert.Goals as goal

pub loop-i-init : goal.loop-i-init
loop-i-init c =
    let k = c.args.config.now.tables in
    begun k c.args.c c.args.parts.now _ (λ i. c.hearing-left.ensures i ∙ ap (λ n. listens k n i) c.number.ensures.is)

pub bounds-parts-port : goal.bounds-parts-port
bounds-parts-port c =
    let d = c.args.config.now in
    (d.sound.ports.each _ (there d.tables c.args.c c.args.parts.now _ _ c.in-Some.i _ c.in-Some.ensures c.loop-i.invariant)).partition

pub loop-i-preserved : goal.loop-i-preserved
loop-i-preserved c =
    let k = c.args.config.now.tables in
    more k c.args.c c.args.parts.now _ _ c.in-Some.i _ c.in-Some.ensures c.loop-i.invariant _ (ap (set c.loop-i.parts (port k c.in-Some.i).partition) c.tell.ensures)

pub returns : goal.returns
returns c = ended c.args.config.now.tables c.args.c c.args.parts.now _ _ c.in_default.ensures c.loop-i.invariant
