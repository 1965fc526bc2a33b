use Rattle.std.proofs.Common.{arith}
use Rattle.kernel.proofs.Going.{onward, over}
use Rattle.kernel.proofs.Keeping.{isolating, preserving, lawful}
use Rattle.kernel.proofs.history.play.Goals as goal

pub loop-exchange-preserved : goal.loop-exchange-preserved
loop-exchange-preserved g c = onward _ _ _ _ _ _ _ _ (omega arith) c.event-exchange.ensures.is c.loop-exchange.invariant

pub returns : goal.returns
returns g c =
    let z = over _ _ _ _ _ _ _ c.boot-system.ensures.is (omega arith) c.loop-exchange.invariant in
    let k = c.boot-system.ensures.kept in
    record {
      ends = z.ends;
      told = z.told;
      isolated = isolating _ _ _ _ _ k.fair z.ends z.told;
      preserved = preserving _ _ _ _ z.ends;
      lawful = lawful _ k.sound k.lawful _ _ _ z.ends;
    }
