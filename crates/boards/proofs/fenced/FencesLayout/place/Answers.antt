use Rattle.std.proofs.Common.{arith}
use Rattle.boards.proofs.fenced.FencesLayout.place.Goals as goal

pub overflow_add-result : goal.overflow_add-result
overflow_add-result g c =
    let w = c.args.self.now.laws.within c.args.i c.args.at c.requires in
    omega arith
