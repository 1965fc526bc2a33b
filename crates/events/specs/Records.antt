-- The event records: a 2-byte body length, a 2-byte kind and the body; numbers have their low byte first.
use Rattle.std.specs.Prelude.{◌≡◌, ℕ, zero, suc, ◌+◌, ◌*◌, cond, List, [], ◌∷◌, length, drop, Some, None, Option, ◌==◌, slice_index}
use Rattle.frame.specs.Frames.{word16, Piece, front}
use Rattle.machine.specs.declared.event.Event.{Event}
use Rattle.machine.specs.declared.event.Event.TheVariants as events
use Rattle.events.specs.declared.kind.EventKind.{EventKind}
use Rattle.events.specs.declared.kind.EventKind.TheVariants.{Tick, Call, Load, Store, Fault, Line, SystemFault}
use Rattle.events.specs.declared.kind.UnknownKind.{UnknownKind}
use Rattle.events.specs.declared.record.Cut.{Cut}

-- the byte at place i
abbrev pub byte_at : List ℕ → ℕ → ℕ
byte_at bs i = slice_index bs i

-- the 2-byte number at place i
abbrev pub short_at : List ℕ → ℕ → ℕ
short_at bs i = word16 bs i

-- the 4-byte number at place i
abbrev pub long_at : List ℕ → ℕ → ℕ
long_at bs i = byte_at bs i + byte_at bs (i + 1) * 256 + byte_at bs (i + 2) * 65536 + byte_at bs (i + 3) * 16777216

-- the kinds by their numbers
abbrev pub kind_of : ℕ → Option EventKind
kind_of n =
    cond (n == 32) (Some Tick)
    (cond (n == 33) (Some Call)
    (cond (n == 34) (Some Load)
    (cond (n == 35) (Some Store)
    (cond (n == 36) (Some Fault)
    (cond (n == 37) (Some Line)
    (cond (n == 38) (Some SystemFault)
    None))))))

-- why any other number is refused
abbrev pub unknown : UnknownKind
unknown = record {}

-- how many bytes the body of each kind has
abbrev pub body_length : EventKind → ℕ
body_length Tick = 4
body_length Call = 22
body_length Load = 5
body_length Store = 6
body_length Fault = 2
body_length Line = 1
body_length SystemFault = 1

-- five arguments of four bytes each
abbrev pub args_of : List ℕ → List ℕ
args_of b = long_at b 0 ∷ long_at b 4 ∷ long_at b 8 ∷ long_at b 12 ∷ long_at b 16 ∷ []

-- the fields of a body; a store's byte comes last
abbrev pub event_of : EventKind → List ℕ → Event
event_of Tick b = events.Tick (long_at b 0)
event_of Call b = events.Call (byte_at b 0) (byte_at b 1) (args_of (drop 2 b))
event_of Load b = events.Load (byte_at b 0) (long_at b 1)
event_of Store b = events.Store (byte_at b 0) (byte_at b 5) (long_at b 1)
event_of Fault b = events.Fault (byte_at b 0) (byte_at b 1)
event_of Line b = events.Line (byte_at b 0)
event_of SystemFault b = events.SystemFault (byte_at b 0)

-- an event of a kind that there is, with a body of that kind's length
abbrev pub event_in : Option EventKind → List ℕ → Option Event
event_in None b = None
event_in (Some k) b = cond (length b == body_length k) (Some (event_of k b)) None

-- the bytes after a head of so many bytes and a part as long as the head's first number says
abbrev pub beyond : ℕ → List ℕ → List ℕ
beyond head bs = drop (head + short_at bs 0) bs

-- the event of a record that is cut off, if there is one
abbrev pub event_cut : Option (Piece ℕ) → Option Event
event_cut None = None
event_cut (Some p) = event_in (kind_of p.kind) p.body

-- the event of the first record: a 2-byte body length, a 2-byte kind and the body
abbrev pub first : List ℕ → Option Event
first bs = event_cut (front bs)

-- an event and those after it, if there are both
abbrev pub followed : Option Event → Option (List Event) → Option (List Event)
followed None rest = None
followed (Some e) None = None
followed (Some e) (Some es) = Some (e ∷ es)

-- the events of the records to the end of the bytes, of which the next `skip` belong to a record that was read
unfoldable pub events_after : ℕ → List ℕ → Option (List Event)
events_after skip [] = Some []
events_after (suc k) (b ∷ bs) = events_after k bs
events_after zero (b ∷ bs) = followed (first (b ∷ bs)) (events_after (3 + short_at (b ∷ bs) 0) bs)

-- the events of the records
abbrev pub events_of : List ℕ → Option (List Event)
events_of bs = events_after 0 bs

-- a record is cut off with its event, and what comes after it is the rest
abbrev pub Splits : List ℕ → Option Cut → Type 0
Splits bs None = first bs ≡ None
Splits bs (Some c) = record { event : first bs ≡ Some c.event; rest : c.rest.now ≡ beyond 4 bs }
