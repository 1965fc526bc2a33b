-- Which answer fits what was asked. Some answers have one code and one pair of values: their shapes tell them apart.
use Rattle.std.specs.Prelude.{◌≡◌, ◌⊎◌, Result, Ok, Err, IfOk}
use Rattle.tables.specs.declared.response.Scope.TheVariants.{System}
use Rattle.tables.specs.declared.response.Action.TheVariants.{Ignore}
use Rattle.machine.specs.declared.partition.Status.TheVariants.{Ready}
use Rattle.machine.specs.declared.log.Entry.{Entry}
use Rattle.machine.specs.declared.answer.Refusal.{Refusal}
use Rattle.machine.specs.declared.answer.Answer.{Answer}
use Rattle.machine.specs.declared.answer.Answer.TheVariants.{Done, Time, State, Plans, Port, Received, Waiting, Words, Logged, Byte, Outside, Responded}
use Rattle.machine.specs.declared.event.Hypercall.{Hypercall}
use Rattle.machine.specs.declared.event.Hypercall.TheVariants as calls
use Rattle.machine.specs.declared.event.Event.{Event}
use Rattle.machine.specs.declared.event.Event.TheVariants as events
use Rattle.machine.specs.Calls.{call_of}

-- the entry of no fault
abbrev pub entry0 : Entry
entry0 = record { action = Ignore; scope = System; event = 0; time = 0 }

-- an answer with its values left out
abbrev pub shape : Answer → Answer
shape Done = Done
shape (Time t) = Time 0
shape (State s) = State Ready
shape (Plans p n m) = Plans 0 0 0
shape (Port i) = Port 0
shape (Received n t m) = Received 0 0 0
shape (Waiting n) = Waiting 0
shape (Words p m) = Words 0 0
shape (Logged n e) = Logged 0 entry0
shape (Byte v) = Byte 0
shape Outside = Outside
shape (Responded r) = Responded Ignore

-- a refusal, or an answer of this shape
abbrev pub Shaped : Answer → Result Answer Refusal → Type 0
Shaped a r = IfOk r (λ x. shape x ≡ a)

-- a refusal, this answer's shape, or `Outside`
abbrev pub ShapedOrOutside : Answer → Result Answer Refusal → Type 0
ShapedOrOutside a r = IfOk r (λ x. (shape x ≡ a) ⊎ (shape x ≡ Outside))

-- the shape of what a call answers
abbrev pub call_shape : Hypercall → Answer
call_shape calls.GetTime = Time 0
call_shape calls.GetPartitionStatus = State Ready
call_shape calls.GetPlanStatus = Plans 0 0 0
call_shape calls.CreateSamplingPort = Port 0
call_shape calls.ReadSamplingMessage = Received 0 0 0
call_shape calls.CreateQueuingPort = Port 0
call_shape calls.ReceiveQueuingMessage = Received 0 0 0
call_shape calls.GetQueuingStatus = Waiting 0
call_shape calls.GetIrqs = Words 0 0
call_shape calls.RaisePartitionError = Responded Ignore
call_shape calls.ReadLog = Logged 0 entry0
call_shape _ = Done

-- what a call is answered; a number that no call has is refused
abbrev pub CallShaped : Result Hypercall Refusal → Result Answer Refusal → Type 0
CallShaped (Ok c) r = Shaped (call_shape c) r
CallShaped (Err e) r = r ≡ Err e

-- the answer of an event, by its shape
abbrev pub Suits : Event → Result Answer Refusal → Type 0
Suits (events.Tick t) r = Shaped Done r
Suits (events.Call q n g) r = IfOk r (λ x. CallShaped (call_of n) r)
Suits (events.Load q o) r = ShapedOrOutside (Byte 0) r
Suits (events.Store q v o) r = ShapedOrOutside Done r
Suits (events.Fault q e) r = Shaped (Responded Ignore) r
Suits (events.Line n) r = Shaped Done r
Suits (events.SystemFault e) r = Shaped (Responded Ignore) r
