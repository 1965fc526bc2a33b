use Rattle.std.proofs.Common.{◌≡◌, [], length, take, replicate}
use Rattle.kernel.proofs.channels.Channels.clear.Given as goal

-- the queues so far are empty
abbrev pub invariant-loop-queue : goal.invariant-loop-queue
invariant-loop-queue l = record { eight : length l.queue-items ≡ 8; empty : take l.queue-index l.queue-items ≡ replicate l.queue-index [] }
