use Rattle.std.proofs.Common.{arith}
use Rattle.boards.proofs.Storing.{lies_at}
use Rattle.boards.proofs.laid.Laid.find.Goals as goal

pub returns-then-at-size-clause-lies : goal.returns-then-at-size-clause-lies
returns-then-at-size-clause-lies g c =
    let b = c.args.self.now in
    let laws = g.L.Layout.laws b.layout in
    let s = laws.long b.memory b.whole c.args.i in
    rw c.place.ensures (lies_at laws b.memory b.whole c.args.i c.args.at (omega arith))
