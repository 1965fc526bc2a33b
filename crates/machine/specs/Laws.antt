-- Laws of the machine, in every state and over all runs.
use Rattle.std.specs.Prelude.{◌≡◌, ℕ, zero, suc, ◌+◌, ◌-◌, ◌<◌, ◌≤◌, Bool, true, false, ◌&&◌, ◌||◌, List, [], ◌∷◌, length, get_or, negsuc, Some, ◌==◌, nat_lt, slice_index_or}
use Rattle.tables.specs.Laws.{channel_at, slot_at, Lawful}
use Rattle.tables.specs.declared.Tables.{Tables}
use Rattle.tables.specs.Tables.{Plans}
use Rattle.tables.specs.declared.channel.ChannelKind.{ChannelKind}
use Rattle.tables.specs.declared.channel.ChannelKind.TheVariants.{Sampling, Queuing}
use Rattle.tables.specs.declared.response.Action.{Action}
use Rattle.tables.specs.declared.response.Action.TheVariants.{WarmReset, ColdReset}
use Rattle.machine.specs.declared.clock.Clock.{Clock}
use Rattle.machine.specs.declared.partition.Status.TheVariants.{Halted, Ready, Idle}
use Rattle.machine.specs.declared.event.Event.{Event}
use Rattle.machine.specs.declared.event.Event.TheVariants.{Tick, Call, SystemFault}
use Rattle.machine.specs.declared.log.Entry.{Entry}
use Rattle.machine.specs.Letters.{Letter}
use Rattle.machine.specs.Partitions.{nobody, fresh, hidden, is_open}
use Rattle.machine.specs.Questions.{exists, is_system, plan, slots_of, holder, port}
use Rattle.machine.specs.Searches.{RunsAt}
use Rattle.machine.specs.State.{Core, State}
use Rattle.machine.specs.Time.{plan_at, rolled, Time}
use Rattle.machine.specs.Faults.{is_systems, system_response}
use Rattle.machine.specs.Management.{arg}
use Rattle.machine.specs.Step.{running, step}

-- A refusal moves nothing: after a negative code all is as it was, the areas too.
abbrev pub Unmoved : Tables → State → Event → Type 0
Unmoved k s e = (n : ℕ) → (step k s e).reply.code ≡ negsuc n → (step k s e).state ≡ s

-- At most one partition is on the processor.
abbrev pub Single : Tables → Core → Type 0
Single k x = (q r : ℕ) → running k x q ≡ true → running k x r ≡ true → q ≡ r

-- slot j of the plan in force runs, and is of partition q
abbrev pub SlotRuns : Tables → Core → ℕ → ℕ → Type 0
SlotRuns k x q j = RunsAt (plan k x.clock.plan) j (x.clock.time - x.clock.start) × ((slot_at j (plan k x.clock.plan)).partition ≡ q)

-- Who is on the processor exists, is READY, and its slot runs.
pub record Scheduled (k : Tables) (x : Core) (q : ℕ) : Type 0 where
  pub there : exists k q ≡ true
  pub ready : (get_or x.parts q nobody).status ≡ Ready
  pub slot : holder (slots_of (plan k x.clock.plan)) (x.clock.time - x.clock.start) ≡ Some q
  pub runs : (j : ℕ) × SlotRuns k x q j

-- The partition whose slot runs is on the processor if it is READY.
abbrev pub Served : Tables → Core → Type 0
Served k x = (q j : ℕ) → SlotRuns k x q j → (get_or x.parts q nobody).status ≡ Ready → running k x q ≡ true

-- how many messages a channel holds at most: one, or its depth
abbrev pub room_of : ChannelKind → ℕ → ℕ
room_of Sampling d = 1
room_of Queuing d = d

abbrev pub room : Tables → ℕ → ℕ
room k c = room_of (channel_at c k).kind (channel_at c k).depth

-- each message has 1 to n bytes
abbrev pub Sized : ℕ → List Letter → Type 0
Sized n [] = Unit {0}
Sized n (m ∷ ms) = ((1 ≤ length m.bytes) × (length m.bytes ≤ n)) × Sized n ms

-- the longest message that a channel takes
abbrev pub longest : Tables → ℕ → ℕ
longest k c = (channel_at c k).longest

-- each entry is from the time t or later, and from a time up to t
abbrev pub Since : Time → List Entry → Type 0
Since t [] = Unit {0}
Since t (e ∷ es) = (t ≤ e.time) × Since t es

abbrev pub Until : Time → List Entry → Type 0
Until t [] = Unit {0}
Until t (e ∷ es) = (e.time ≤ t) × Until t es

-- entries in the order of their times
abbrev pub InOrder : List Entry → Type 0
InOrder [] = Unit {0}
InOrder (e ∷ es) = Since e.time es × InOrder es

-- i is a port of q
abbrev pub PortOf : Tables → ℕ → ℕ → Type 0
PortOf k q i = (i < k.ports.count) × ((port k i).partition ≡ q)

-- What every run keeps: for a HALTED partition nothing is pending, for an IDLE one nothing that its mask does not hide, and
-- no partition has a port open that is not its own; the log has at most 32 entries, in the order of their times
-- and none from the future, and no channel holds more messages than it has room for, or a message of another size.
pub record Bounded (k : Tables) (x : Core) : Type 0 where
  pub halted : (q : ℕ) → (get_or x.parts q nobody).status ≡ Halted → (get_or x.parts q nobody).pending ≡ 0
  pub idle : (q : ℕ) → (get_or x.parts q nobody).status ≡ Idle → hidden (get_or x.parts q nobody) ≡ true
  pub own : (q i : ℕ) → is_open i (get_or x.parts q nobody) ≡ true → PortOf k q i
  pub log : length x.log ≤ 32
  pub order : InOrder x.log
  pub past : Until x.clock.time x.log
  pub chans : (c : ℕ) → length (slice_index_or x.chans c []) ≤ room k c
  pub sized : (c : ℕ) → Sized (longest k c) (slice_index_or x.chans c [])

-- the plan in force and the next one are plans of the vector
abbrev pub PlansThere : Tables → Core → Type 0
PlansThere k x = (x.clock.plan < k.plans.count) × (x.clock.next < k.plans.count)

-- the record of a partition that the vector does not have stays as the boot left it
abbrev pub Absent : Tables → Core → Type 0
Absent k x = (q : ℕ) → exists k q ≡ false → q < 8 → get_or x.parts q nobody ≡ fresh

-- all of this; the premises hold of the tables of every vector that is taken
pub record Steady (k : Tables) (x : Core) : Type 0 where
  pub bounded : Bounded k x
  pub plans : 1 ≤ k.plans.count → PlansThere k x
  pub absent : Lawful k → Absent k x

-- An event keeps it.
abbrev pub Lasting : Tables → State → Event → Type 0
Lasting k s e = Steady k s.core → Steady k (step k s e).state.core

-- does the frame end with the next microsecond
abbrev pub frame_ends : Plans → Clock → Bool
frame_ends ps c = c.time + 1 - c.start == (plan_at ps c.plan).frame

-- .. with one of the next n
unfoldable pub ends_within : Plans → ℕ → Clock → Bool
ends_within ps zero c = false
ends_within ps (suc n) c = frame_ends ps c || ends_within ps n (rolled ps c)

-- a system reset: call 23 with a mode
abbrev pub is_reset : ℕ → List ℕ → Bool
is_reset n g = n == 23 && nat_lt (arg g 0) 2

-- does this action of the health monitor reset the system
abbrev pub resets : Action → Bool
resets WarmReset = true
resets ColdReset = true
resets _ = false

-- may the event change the plan: a tick in which a frame ends, a system reset by the system partition on the processor,
-- or a fault of the system whose response is a reset
abbrev pub replans : Tables → State → Event → Bool
replans k s (Tick t) = ends_within k.plans (t - s.core.clock.time) s.core.clock
replans k s (Call q n g) = running k s.core q && (is_system k q && is_reset n g)
replans k s (SystemFault e) = is_systems e && resets (system_response k e).action
replans k s _ = false

-- No other event does: plans switch where a frame ends.
abbrev pub Planned : Tables → State → Event → Type 0
Planned k s e = replans k s e ≡ false → (step k s e).state.core.clock.plan ≡ s.core.clock.plan
