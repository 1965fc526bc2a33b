-- The calls on ports and channels: 9 to 15.
use Rattle.std.specs.Prelude.{ℕ, zero, suc, Bool, true, cond, ◌&&◌, List, [], ◌∷◌, ◌++◌, length, pos, Some, None, Option, ◌==◌, nat_le, nat_lt, slice_index_or}
use Rattle.board.specs.Areas.{Area, ranged, part, patched}
use Rattle.tables.specs.Names.{padded}
use Rattle.tables.specs.Numbers.{direction_number}
use Rattle.tables.specs.declared.Tables.{Tables}
use Rattle.tables.specs.declared.channel.ChannelKind.{ChannelKind}
use Rattle.tables.specs.declared.channel.ChannelKind.TheVariants.{Sampling, Queuing}
use Rattle.queue.specs.Ring.{first, rest}
use Rattle.machine.specs.declared.partition.Partition.{Partition}
use Rattle.machine.specs.declared.answer.Refusal.TheVariants.{NoAction, InvalidParam, InvalidConfig, InvalidMode, NotAvailable}
use Rattle.machine.specs.Answers.{reply}
use Rattle.machine.specs.Partitions.{nobody, is_open, opened, signalled}
use Rattle.machine.specs.Questions.{port, channel_of, channel, is_source, owns, hears, named}
use Rattle.machine.specs.Letters.{Letter}
use Rattle.machine.specs.Management.{Call, arg}
use Rattle.machine.specs.State.{Core, writes, Out, answered, told, done, refused, guard, with_parts, with_chan, modify}

-- the bit that signals a message
abbrev pub message_bit : ℕ
message_bit = 256

-- a name of at most 16 bytes in a range of the area, and a direction 0 or 1
abbrev pub nameable : Area → List ℕ → Bool
nameable a g = (ranged a (arg g 0) (arg g 1) && nat_le (arg g 1) 16) && nat_lt (arg g 3) 2

-- the caller's port of the name in its area, or none
abbrev pub sought : Tables → Area → ℕ → ChannelKind → List ℕ → Option ℕ
sought k a q t g = cond (nameable a g) (named k q t (padded (part a (arg g 0) (arg g 1))) k.ports.count) None

-- do the longest message and the direction agree with the vector's
abbrev pub agrees : Tables → ℕ → List ℕ → Bool
agrees k i g = arg g 2 == (channel k i).longest && arg g 3 == direction_number (port k i).direction

abbrev pub deepens : Tables → ℕ → ChannelKind → List ℕ → Bool
deepens k i Sampling g = true
deepens k i Queuing g = arg g 4 == (channel k i).depth

-- opens the port that was found, and answers its number
abbrev pub create_at : Option ℕ → ChannelKind → Tables → Core → ℕ → List ℕ → Out
create_at None t k x q g = refused x InvalidParam
create_at (Some i) t k x q g =
    guard (agrees k i g && deepens k i t g)
    (guard (is_open i (slice_index_or x.parts q nobody)) (refused x NoAction)
    (told (with_parts x (modify x.parts q (opened i))) i 0 0))
    (refused x InvalidConfig)

abbrev pub create : ChannelKind → Call
create t k x a q g = create_at (sought k a q t g) t k x q g

-- 9 and 12: opens the caller's port of that name and type; the code is the port's number
abbrev pub create_sampling_port : Call
create_sampling_port = create Sampling

abbrev pub create_queuing_port : Call
create_queuing_port = create Queuing

-- is i an open port of the caller, of this type
abbrev pub usable : Tables → Core → ℕ → ChannelKind → ℕ → Bool
usable k x q t i = owns k q t i && is_open i (slice_index_or x.parts q nobody)

abbrev pub queue : Tables → Core → ℕ → List Letter
queue k x i = slice_index_or x.chans (channel_of k i) []

-- port i's partition is told of a message on channel c, where the port hears of it and is open
abbrev pub alert : Tables → ℕ → ℕ → Partition → Partition
alert k c i p = cond (hears k c i && is_open i p) (signalled message_bit p) p

-- .. of the first n ports
unfoldable pub alerted : Tables → ℕ → ℕ → List Partition → List Partition
alerted k c zero ps = ps
alerted k c (suc n) ps = modify (alerted k c n ps) (port k n).partition (alert k c n)

-- a message of 1 byte to the longest, from a range of the area
abbrev pub sendable : Tables → Area → List ℕ → Bool
sendable k a g = (nat_le 1 (arg g 2) && nat_le (arg g 2) (channel k (arg g 0)).longest) && ranged a (arg g 1) (arg g 2)

abbrev pub letter : Core → Area → List ℕ → Letter
letter x a g = record { bytes = part a (arg g 1) (arg g 2); time = x.clock.time }

-- channel c holds these messages, and its readers are told
abbrev pub posted : Tables → Core → ℕ → List Letter → Core
posted k x c ms = with_parts (with_chan x c ms) (alerted k c k.ports.count x.parts)

-- a send by port, address and length: the tests that both types share
abbrev pub sending : ChannelKind → Tables → Core → Area → ℕ → List ℕ → Out → Out
sending t k x a q g o =
    guard (usable k x q t (arg g 0) && sendable k a g)
    (guard (is_source (port k (arg g 0)).direction) o (refused x InvalidMode))
    (refused x InvalidParam)

-- 10: the message replaces the channel's
abbrev pub write_sampling_message : Call
write_sampling_message k x a q g = sending Sampling k x a q g (done (posted k x (channel_of k (arg g 0)) (letter x a g ∷ [])))

-- 13: the message is appended, where the channel is not full
abbrev pub send_queuing_message : Call
send_queuing_message k x a q g =
    sending Queuing k x a q g
    (guard (nat_lt (length (queue k x (arg g 0))) (channel k (arg g 0)).depth)
    (done (posted k x (channel_of k (arg g 0)) (queue k x (arg g 0) ++ (letter x a g ∷ []))))
    (refused x NotAvailable))

-- a receipt by port, address and length: the tests that both types share
abbrev pub receiving : ChannelKind → Tables → Core → Area → ℕ → List ℕ → Out → Out
receiving t k x a q g o =
    guard (usable k x q t (arg g 0) && ranged a (arg g 1) (arg g 2))
    (guard (is_source (port k (arg g 0)).direction) (refused x InvalidMode) o)
    (refused x InvalidParam)

-- the message is copied to the range's front; the code is its length, a its time, b the number left
abbrev pub delivered : Core → Area → List ℕ → Letter → ℕ → Out
delivered x a g m n =
    record { core = x; effect = writes (patched a (arg g 1) m.bytes); reply = reply (pos (length m.bytes)) m.time n }

-- does the range hold the message
abbrev pub holds : List ℕ → Letter → Bool
holds g m = nat_le (length m.bytes) (arg g 2)

abbrev pub sampled : Core → Area → List ℕ → Option Letter → Out
sampled x a g None = refused x NoAction
sampled x a g (Some m) = guard (holds g m) (delivered x a g m 0) (refused x InvalidConfig)

-- 11: the channel's message stays
abbrev pub read_sampling_message : Call
read_sampling_message k x a q g = receiving Sampling k x a q g (sampled x a g (first (queue k x (arg g 0))))

-- what is left of a channel when its oldest message is taken
abbrev pub left : Tables → Core → ℕ → List Letter
left k x i = rest (queue k x i)

abbrev pub taken : Tables → Core → Area → List ℕ → Option Letter → Out
taken k x a g None = refused x NotAvailable
taken k x a g (Some m) =
    guard (holds g m)
    (delivered (with_chan x (channel_of k (arg g 0)) (left k x (arg g 0))) a g m (length (left k x (arg g 0))))
    (refused x InvalidConfig)

-- 14: the oldest message is removed
abbrev pub receive_queuing_message : Call
receive_queuing_message k x a q g = receiving Queuing k x a q g (taken k x a g (first (queue k x (arg g 0))))

-- 15: the number of messages that wait, by a port of either direction
abbrev pub get_queuing_status : Call
get_queuing_status k x a q g =
    guard (usable k x q Queuing (arg g 0)) (answered x (length (queue k x (arg g 0))) 0) (refused x InvalidParam)
