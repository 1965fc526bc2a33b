-- What event records say, and what they are answered.
use Rattle.std.specs.Prelude.{◌≡◌, ℕ, zero, suc, ◌+◌, ◌/◌, Bool, true, false, cond, if◌then◌else◌, ◌&&◌, List, [], ◌∷◌, length, take, Some, None, Option, Ok, Err, Result, nat_le}
use Rattle.board.specs.Areas.{Area}
use Rattle.vector.specs.Reading.{Verdict, taken as is_taken, refused as is_refused, takes, tables}
use Rattle.vector.specs.Reasons.{reason}
use Rattle.vector.specs.declared.refusal.Layer.{Layer}
use Rattle.machine.specs.declared.event.Event.{Event}
use Rattle.machine.specs.Runs.{after, lines}
use Rattle.kernel.specs.World.{World, booted}
use Rattle.events.specs.Records.{short_at, first}
use Rattle.zero_boards.specs.Layouts.{zeroed}
use Rattle.entrance.specs.Encoding.{answer_bytes, encoded, laid}
use Rattle.entrance.specs.declared.error.EntranceError.{EntranceError}
use Rattle.entrance.specs.declared.error.EntranceError.TheVariants.{Vector, Malformed, NoRoom}

-- the events before the first malformed record, and whether there is no such record
pub record Read : Type 0 where
  pub events : List Event
  pub whole : Bool

abbrev pub before : Option Event → Read → Read
before None r = record { events = []; whole = false }
before (Some e) r = record r { events = e ∷ r.events }

-- of bytes whose next `skip` belong to a record that was read
unfoldable pub read_after : ℕ → List ℕ → Read
read_after skip [] = record { events = []; whole = true }
read_after (suc k) (b ∷ bs) = read_after k bs
read_after zero (b ∷ bs) = before (first (b ∷ bs)) (read_after (3 + short_at (b ∷ bs) 0) bs)

abbrev pub read_of : List ℕ → Read
read_of bs = read_after 0 bs

-- the events of a script that has these records: none where one is malformed
abbrev pub events_in : Read → Option (List Event)
events_in r = cond r.whole (Some r.events) None

-- how many answers there is room for
abbrev pub room_in : List ℕ → ℕ
room_in bs = length bs / answer_bytes

-- all events are answered, or some record is malformed or without room for its answer
abbrev pub count_of : Read → ℕ → Option ℕ
count_of r n = cond (r.whole && nat_le (length r.events) n) (Some (length r.events)) None

-- none as usize::MAX
abbrev pub number_of : Option ℕ → ℕ
number_of None = 18446744073709551615
number_of (Some n) = n

-- how a session ends: its events are answered, its vector is refused, a record is malformed, or one has no room for its answer
pub data Ending : Type 0 where
  answered : ℕ → Ending
  refused : Layer → ℕ → ℕ → Ending
  malformed : Ending
  full : Ending

-- what a result says
abbrev pub ending_of : Result ℕ EntranceError → Ending
ending_of (Ok n) = answered n
ending_of (Err (Vector r)) = refused (reason r).layer (reason r).number (reason r).place
ending_of (Err Malformed) = malformed
ending_of (Err NoRoom) = full

-- the answers run out of room, or the records end or are malformed before
abbrev pub records_end : Read → ℕ → Ending
records_end r n = cond (nat_le (length r.events) n) (cond r.whole (answered (length r.events)) malformed) full

-- a vector that is refused ends its session before a record is looked at
abbrev pub ending : Verdict → Read → ℕ → Ending
ending is_taken r n = records_end r n
ending (is_refused l k p) r n = refused l k p

-- the events that are taken: those that there is room to answer
abbrev pub taken : Read → List ℕ → List Event
taken r old = take (room_in old) r.events

-- their answers, and the old bytes after them
abbrev pub written : World → Read → List ℕ → List ℕ
written w r old = laid (encoded (lines w.tables w.state (taken r old))) old

-- where they bring the world
abbrev pub reached : World → Read → List ℕ → World
reached w r old = record w { state = after w.tables w.state (taken r old) }

-- the records bring the world there
abbrev pub Reaches : World → List ℕ → List ℕ → World → Type 0
Reaches w records old v = v ≡ reached w (read_of records) old

-- the bytes of a vector's answers, booted on these areas
abbrev pub answers_from : List ℕ → List Area → List ℕ → List ℕ → List ℕ
answers_from vector areas records old = written (booted (tables vector) areas) (read_of records) old

-- the same from areas of zeros on; a vector that is refused leaves the old bytes
abbrev pub answers_of : List ℕ → List ℕ → List ℕ → List ℕ
answers_of vector records old = if takes vector then answers_from vector (zeroed (tables vector)) records old else old

-- how many events of a vector's records are answered, where all are
abbrev pub answers_in : List ℕ → List ℕ → List ℕ → Option ℕ
answers_in vector records old = if takes vector then count_of (read_of records) (room_in old) else None
