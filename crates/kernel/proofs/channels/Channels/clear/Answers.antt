use Rattle.std.proofs.Common.{rules}
use Rattle.kernel.proofs.Channelling.{emptied-more, emptied}
use Rattle.kernel.proofs.channels.Channels.clear.Goals as goal

pub loop-queue-preserved : goal.loop-queue-preserved
loop-queue-preserved c = search (emptied-more, rules)

pub returns : goal.returns
returns c = emptied c.loop-queue.queue-items c.loop-queue.invariant.eight (search rules)
