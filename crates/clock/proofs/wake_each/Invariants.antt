use Rattle.std.proofs.Common.{◌≡◌, take}
use Rattle.clock.specs.Ranges.{wake}
use Rattle.clock.proofs.wake_each.Given as goal

-- the slots so far have woken theirs
abbrev pub invariant-loop-slot : goal.invariant-loop-slot
invariant-loop-slot l = l.parts ≡ wake (take l.slot-index l.slot-items) l.offsets.start l.offsets.end l.initial.parts
