-- Integrity: nobody writes into another's area.
use Rattle.std.specs.Prelude.{◌≡◌, ℕ, Bool, true, false, ◌&&◌, ◌||◌, List, ◌==◌, ◌≢◌}
use Rattle.board.specs.Areas.{area}
use Rattle.tables.specs.Names.{any}
use Rattle.tables.specs.declared.Tables.{Tables}
use Rattle.tables.specs.declared.response.Action.{Action}
use Rattle.tables.specs.declared.response.Action.TheVariants.{Ignore, Signal, Suspend, Halt, WarmReset, ColdReset}
use Rattle.machine.specs.declared.event.Event.{Event}
use Rattle.machine.specs.declared.event.Event.TheVariants.{Tick, Call, Load, Store, Fault, Line, SystemFault}
use Rattle.machine.specs.Questions.{is_system}
use Rattle.machine.specs.State.{State}
use Rattle.machine.specs.Faults.{is_systems, system_response}
use Rattle.machine.specs.Management.{arg}
use Rattle.machine.specs.Step.{step}
use Rattle.machine.specs.Runs.{after}
use Rattle.machine.specs.Isolation.{is_of}

-- a cold reset: call 5 or 23 with mode 1
abbrev pub is_cold : ℕ → List ℕ → Bool
is_cold n g = (n == 5 && arg g 1 == 1) || (n == 23 && arg g 0 == 1)

-- .. by a system partition. Integrity rests on this, and on `is_cold_fault` below: each sort of event has a line of its
-- own, so that a new one is not let through unseen
abbrev pub is_cold_reset : Tables → Event → Bool
is_cold_reset k (Tick t) = false
is_cold_reset k (Call q n g) = is_system k q && is_cold n g
is_cold_reset k (Load q o) = false
is_cold_reset k (Store q v o) = false
is_cold_reset k (Fault q e) = false
is_cold_reset k (Line l) = false
is_cold_reset k (SystemFault e) = false

-- in every state: an event of partition q leaves every area but q's own as it was, save a system partition's cold reset
abbrev pub Integral : Tables → State → Event → Type 0
Integral k s e =
    (q r : ℕ) → is_of k q e ≡ true → is_cold_reset k e ≡ false → (r ≢ q) →
    area (step k s e).state.areas r ≡ area s.areas r

-- is this action of the health monitor a cold reset; a line for each, as above
abbrev pub is_cold_action : Action → Bool
is_cold_action Ignore = false
is_cold_action Signal = false
is_cold_action Suspend = false
is_cold_action Halt = false
is_cold_action WarmReset = false
is_cold_action ColdReset = true

-- a fault of the system whose response is a cold reset
abbrev pub is_cold_fault : Tables → Event → Bool
is_cold_fault k (Tick t) = false
is_cold_fault k (Call q n g) = false
is_cold_fault k (Load q o) = false
is_cold_fault k (Store q v o) = false
is_cold_fault k (Fault q e) = false
is_cold_fault k (Line l) = false
is_cold_fault k (SystemFault e) = is_systems e && is_cold_action (system_response k e).action

-- may the event change r's area: it is r's own, or a cold reset by a system partition or by a fault of the system
abbrev pub reaches : Tables → ℕ → Event → Bool
reaches k r e = is_of k r e || (is_cold_reset k e || is_cold_fault k e)

-- an area stays through every history of events none of which reaches it
abbrev pub Preserved : Tables → State → List Event → Type 0
Preserved k s h = (r : ℕ) → any (reaches k r) h ≡ false → area (after k s h).areas r ≡ area s.areas r
