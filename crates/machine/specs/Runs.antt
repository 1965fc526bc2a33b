-- A history of events: where it ends, and what each event was answered.
use Rattle.std.specs.Prelude.{List, [], ◌∷◌, map}
use Rattle.tables.specs.declared.Tables.{Tables}
use Rattle.machine.specs.declared.event.Event.{Event}
use Rattle.machine.specs.declared.event.Exchange.{Exchange}
use Rattle.machine.specs.declared.answer.Reply.{Reply}
use Rattle.machine.specs.Answers.{reply_of}
use Rattle.machine.specs.State.{State}
use Rattle.machine.specs.Step.{step}

-- an event and the numbers of its answer
pub record Line : Type 0 where
  pub event : Event
  pub reply : Reply

abbrev pub line : Event → Reply → Line
line e r = record { event = e; reply = r }

abbrev pub line_of : Exchange → Line
line_of x = line x.event (reply_of x.answer)

abbrev pub event_of : Exchange → Event
event_of x = x.event

abbrev pub lines_of : List Exchange → List Line
lines_of xs = map line_of xs

abbrev pub events_of : List Exchange → List Event
events_of xs = map event_of xs

-- the state after a history
unfoldable pub after : Tables → State → List Event → State
after k s [] = s
after k s (e ∷ es) = after k (step k s e).state es

-- each event with its answer
unfoldable pub lines : Tables → State → List Event → List Line
lines k s [] = []
lines k s (e ∷ es) = line e (step k s e).reply ∷ lines k (step k s e).state es
