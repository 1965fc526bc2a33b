-- The health monitor's decisions, and what carrying one out comes to.
use Rattle.std.specs.Prelude.{ℕ, List}
use Rattle.board.specs.Areas.{Area}
use Rattle.tables.specs.declared.Tables.{Tables}
use Rattle.tables.specs.declared.response.Scope.{Scope}
use Rattle.tables.specs.declared.response.Scope.TheVariants.{Partition, System}
use Rattle.tables.specs.declared.event.Event.{Event}
use Rattle.machine.specs.declared.answer.Answer.{Answer}
use Rattle.machine.specs.Answers.{answer_reply}
use Rattle.machine.specs.State.{Core, Out}
use Rattle.machine.specs.Faults.{carried, logged, system_carried}
use Rattle.config.specs.Responses.{response_of}
use Rattle.kernel.specs.Events.{Settles}
use Rattle.kernel.specs.World.{core_of}
use Rattle.kernel.specs.declared.monitor.Decision.{Decision}
use Rattle.kernel.specs.declared.system.System as systems

-- what the fault table says at an event
abbrev pub decided : Tables → Event → Decision
decided k e = record { event = e; response = response_of k e.scope e.number }

-- the log entry comes before the action
abbrev pub executed : Scope → Decision → Tables → Core → Out
executed (Partition q) d k x = carried d.response.action q (logged (Partition q) d.event.number d.response x)
executed System d k x = system_carried k d.response.action (logged System d.event.number d.response x)

-- the partition that a decision concerns; one of the system concerns none, and 0 is there a filler that nothing uses
abbrev pub home : Scope → ℕ
home (Partition q) = q
home System = 0

module _ {B : Type 0} where
  -- a decision is carried out
  abbrev pub CarriesOut : (B → List Area) → Decision → systems.System B → Answer → systems.System B → Type 0
  CarriesOut m d old a new =
      Settles m (home d.event.scope) (executed d.event.scope d old.core.config.tables (core_of old.core)) old (answer_reply a) new
