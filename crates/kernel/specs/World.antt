-- What a system is to the machine: its tables, its core, and the areas of its board.
use Rattle.std.specs.Prelude.{ℕ, List}
use Rattle.board.specs.Areas.{area, Area}
use Rattle.tables.specs.declared.Tables.{Tables}
use Rattle.machine.specs.declared.event.Event.{Event}
use Rattle.machine.specs.declared.answer.Reply.{Reply}
use Rattle.machine.specs.State.{State, Out, Stepped, settle}
use Rattle.machine.specs.State.{Core as Machine}
use Rattle.machine.specs.Management.{Call}
use Rattle.machine.specs.Step.{step, boot}
use Rattle.machine.specs.Runs.{after}
use Rattle.kernel.specs.declared.inner.Core.{Core}
use Rattle.kernel.specs.declared.system.System.{System}

pub record World : Type 0 where
  pub tables : Tables
  pub state : State

-- a world and an answer
pub record Moved : Type 0 where
  pub tables : Tables
  pub result : Stepped

abbrev pub core_of : Core → Machine
core_of x = record { clock = x.clock; halted = x.halted; parts = x.parts; chans = x.channels; log = x.log }

module _ {B : Type 0} where
  -- a system on a board whose areas are `m` of it
  abbrev pub world_of : (B → List Area) → System B → World
  world_of m s = record { tables = s.core.config.tables; state = record { core = core_of s.core; areas = m s.board } }

abbrev pub with_core : Machine → World → World
with_core x w = record w { state = record w.state { core = x } }

abbrev pub gives : World → Reply → Moved
gives w r = record { tables = w.tables; result = record { state = w.state; reply = r } }

-- what the machine's step makes of a world
abbrev pub stepped : Event → World → Moved
stepped e w = record { tables = w.tables; result = step w.tables w.state e }

-- an outcome of an event of partition q
abbrev pub settled : ℕ → Out → World → Moved
settled q o w = record { tables = w.tables; result = settle w.state q o }

-- what a call makes of a world
abbrev pub performed : Call → ℕ → List ℕ → World → Moved
performed f q g w = settled q (f w.tables w.state.core (area w.state.areas q) q g) w

abbrev pub booted : Tables → List Area → World
booted k ms = record { tables = k; state = boot k ms }

-- the end of a history that began with the boot
abbrev pub ended : Tables → List Area → List Event → World
ended k ms h = record { tables = k; state = after k (boot k ms) h }
