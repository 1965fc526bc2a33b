-- The script format: a 2-byte vector length, the vector, then event records to the end; numbers have their low byte first.
use Rattle.std.specs.Prelude.{ℕ, ◌+◌, Bool, cond, ◌&&◌, List, map, length, take, drop, None, Option, Ok, nat_le}
use Rattle.std.specs.Option.{option_map}
use Rattle.machine.specs.declared.answer.Answer.TheVariants.{Done}
use Rattle.machine.specs.declared.event.Exchange.{Exchange}
use Rattle.machine.specs.declared.event.Event.{Event}
use Rattle.events.specs.Records.{short_at, beyond, events_of}

-- a head of so many bytes is there, and after it a part as long as the head's first number says
abbrev pub holds : ℕ → List ℕ → Bool
holds head bs = nat_le (head + short_at bs 0) (length bs)

-- that part
abbrev pub part : ℕ → List ℕ → List ℕ
part head bs = take (short_at bs 0) (drop head bs)

-- a script is at most 32,768 bytes long, and its vector is whole
abbrev pub opens : List ℕ → Bool
opens bs = nat_le (length bs) 32768 && holds 2 bs

-- the vector comes after its 2-byte length
abbrev pub vector_of : List ℕ → List ℕ
vector_of bs = part 2 bs

-- the event records come after the vector
abbrev pub records_of : List ℕ → List ℕ
records_of bs = beyond 2 bs

-- an event that is not answered yet
abbrev pub unanswered : Event → Exchange
unanswered e = record { event = e; answer = Ok Done }

-- the history that event records say
abbrev pub history_of : List ℕ → Option (List Exchange)
history_of bs = option_map (map unanswered) (events_of bs)

-- what a script says
pub record Said : Type 0 where
  pub vector : List ℕ
  pub history : List Exchange

abbrev pub saying : List ℕ → List Exchange → Said
saying v h = record { vector = v; history = h }

-- the vector and the history of a script; none if it is malformed
abbrev pub said : List ℕ → Option Said
said bs = cond (opens bs) (option_map (saying (vector_of bs)) (history_of (records_of bs))) None
