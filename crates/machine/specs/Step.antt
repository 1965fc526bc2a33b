-- The machine: what one event does, and how a system boots.
use Rattle.std.specs.Prelude.{ℕ, zero, suc, ◌-◌, Bool, true, not, ◌&&◌, List, [], length, replicate, pos, ◌==◌, nat_le, nat_lt, slice_index, slice_index_or, slice_set}
use Rattle.board.specs.Areas.{Area, area}
use Rattle.tables.specs.declared.Tables.{Tables}
use Rattle.machine.specs.declared.event.Event.{Event}
use Rattle.machine.specs.declared.event.Event.TheVariants.{Tick, Call, Load, Store, Fault, Line, SystemFault}
use Rattle.machine.specs.declared.answer.Refusal.TheVariants.{InvalidParam, OpNotAllowed, NotOnProcessor, SystemHalted}
use Rattle.machine.specs.Partitions.{nobody, fresh, is_ready}
use Rattle.machine.specs.Questions.{exists, row, plan, slots_of, holder, names}
use Rattle.machine.specs.State.{Core, State, writes, Out, Stepped, answered, done, refused, guard, with_parts, with_clock, settle}
use Rattle.machine.specs.Answers.{reply}
use Rattle.machine.specs.Time.{Timed, timed, clock_of, micros, Time, farthest}
use Rattle.machine.specs.Faults.{faulted, strayed, is_systems, system_faulted}
use Rattle.machine.specs.Interrupts.{line}
use Rattle.machine.specs.Calls.{called}

-- the partition whose slot runs
abbrev pub turn : Tables → Core → ℕ → Bool
turn k x q = names (holder (slots_of (plan k x.clock.plan)) (x.clock.time - x.clock.start)) q

-- is q on the processor: its slot runs, and it is READY
abbrev pub running : Tables → Core → ℕ → Bool
running k x q = exists k q && (turn k x q && is_ready (slice_index_or x.parts q nobody).status)

-- what a guest does comes only from the partition on the processor
abbrev pub gate : Tables → Core → ℕ → Out → Out
gate k x q o = guard (running k x q) o (refused x NotOnProcessor)

abbrev pub load : Tables → Core → Area → ℕ → ℕ → Out
load k x a q o = guard (nat_lt o (length a)) (answered x (slice_index a o) 0) (strayed k x q)

abbrev pub store : Tables → Core → Area → ℕ → ℕ → ℕ → Out
store k x a q o v =
    guard (nat_lt o (length a)) (record { core = x; effect = writes (slice_set a o v); reply = reply (pos 0) 0 0 }) (strayed k x q)

-- a guest's fault event is 0 to 6
abbrev pub fault : Tables → Core → ℕ → ℕ → Out
fault k x q e = guard (nat_lt e 7) (faulted k x q e) (refused x InvalidParam)

abbrev pub system_fault : Tables → Core → ℕ → Out
system_fault k x e = guard (is_systems e) (system_faulted k x e) (refused x InvalidParam)

abbrev pub with_timed : Core → Timed → Core
with_timed x t = with_parts (with_clock x t.clock) t.parts

-- n microseconds pass
abbrev pub later : Tables → Time → Core → Core
later k n x = with_timed x (micros k.plans n (timed x.clock x.parts))

-- a tick to t is t - now microseconds; t is not before now, nor too far ahead
abbrev pub tick : Tables → Core → Time → Out
tick k x t =
    guard (nat_le x.clock.time t && nat_le (t - x.clock.time) farthest)
    (done (later k (t - x.clock.time) x))
    (refused x OpNotAllowed)

-- what an event comes to in a system that runs
abbrev pub outcome : Tables → State → Event → Out
outcome k s (Tick t) = tick k s.core t
outcome k s (Call q n g) = gate k s.core q (called n k s.core (area s.areas q) q g)
outcome k s (Load q o) = gate k s.core q (load k s.core (area s.areas q) q o)
outcome k s (Store q v o) = gate k s.core q (store k s.core (area s.areas q) q o v)
outcome k s (Fault q e) = gate k s.core q (fault k s.core q e)
outcome k s (Line l) = line k s.core l
outcome k s (SystemFault e) = system_fault k s.core e

-- whose area an event may write; a tick, a line and a system fault write nobody's, and 0 is there a filler that nothing uses
-- (a cold reset of the system zeroes areas by their numbers). Each sort has a line of its own: integrity rests on it
abbrev pub author : Event → ℕ
author (Tick t) = 0
author (Call q n g) = q
author (Load q o) = q
author (Store q v o) = q
author (Fault q e) = q
author (Line l) = 0
author (SystemFault e) = 0

-- a halted system refuses every event
abbrev pub step : Tables → State → Event → Stepped
step k s e = settle s (author e) (guard s.core.halted (refused s.core SystemHalted) (outcome k s e))

-- the first n partitions' areas have the vector's sizes
unfoldable pub fits_below : Tables → List Area → ℕ → Bool
fits_below k ms zero = true
fits_below k ms (suc n) = fits_below k ms n && length (area ms n) == (row k n).size

abbrev pub fits : Tables → List Area → Bool
fits k ms = fits_below k ms k.partitions.count

-- newly booted, on these areas; on a board that does not fit the system is halted
abbrev pub boot : Tables → List Area → State
boot k ms =
    record {
      core = record { clock = clock_of 0 0 0 0; halted = not (fits k ms); parts = replicate 8 fresh; chans = replicate 8 []; log = [] };
      areas = ms;
    }
