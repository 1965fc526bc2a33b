-- What the one word of a log entry tells: call 22 shows scope, event and action in it.
use Rattle.std.specs.Prelude.{◌≡◌, ℕ, ◌/◌, ◌%◌, ◌<◌}
use Rattle.tables.specs.Numbers.{scope_number, action_number}
use Rattle.tables.specs.declared.response.Scope.{Scope}
use Rattle.tables.specs.declared.response.Scope.TheVariants.{Partition, System}
use Rattle.machine.specs.declared.log.Entry.{Entry}
use Rattle.machine.specs.Answers.{packed}

-- no partition has the system's number, 255
abbrev pub Below : Scope → Type 0
Below (Partition p) = p < 255
Below System = Unit {0}

-- what an entry of a log is: its partition and its event are bytes
abbrev pub Noted : Entry → Type 0
Noted e = Below e.scope × (e.event < 256)

-- The word's lowest byte is the scope, the next one the event, and what is above them the action.
pub record Unpacks (e : Entry) (w : ℕ) : Type 0 where
  pub scope : w % 256 ≡ scope_number e.scope
  pub event : w / 256 % 256 ≡ e.event
  pub action : w / 65536 ≡ action_number e.action

-- two entries with one word differ in their times at most
abbrev pub Telling : Type 0
Telling = (e f : Entry) → Noted e → Noted f → packed e ≡ packed f → (e.scope ≡ f.scope) × (e.event ≡ f.event) × (e.action ≡ f.action)
