-- The state of the machine, and what an event comes to.
use Rattle.std.specs.Prelude.{ℕ, zero, suc, Bool, true, false, List, pos, slice_index_or, slice_set}
use Rattle.board.specs.Areas.{Area, wiped}
use Rattle.machine.specs.declared.partition.Partition.{Partition}
use Rattle.machine.specs.declared.clock.Clock.{Clock}
use Rattle.machine.specs.declared.log.Entry.{Entry}
use Rattle.machine.specs.declared.answer.Refusal.{Refusal}
use Rattle.machine.specs.declared.answer.Reply.{Reply}
use Rattle.machine.specs.Answers.{reply, refusal_code}
use Rattle.machine.specs.Partitions.{nobody}
use Rattle.machine.specs.Letters.{Letter}

-- all but the areas: the plan position, whether the system is halted, the partitions,
-- the messages of each channel and the log, the oldest first
pub record Core : Type 0 where
  pub clock : Clock
  pub halted : Bool
  pub parts : List Partition
  pub chans : List (List Letter)
  pub log : List Entry

pub record State : Type 0 where
  pub core : Core
  pub areas : List Area

-- what an event does to the areas: nothing, a new content for the area of the partition whose event it is,
-- or zeros in one partition's area, or in those of the first n partitions
pub data Effect : Type 0 where
  keeps : Effect
  writes : Area → Effect
  clears : ℕ → Effect
  clears_all : ℕ → Effect

-- what an event comes to
pub record Out : Type 0 where
  pub core : Core
  pub effect : Effect
  pub reply : Reply

pub record Stepped : Type 0 where
  pub state : State
  pub reply : Reply

-- an answer whose code is a number
abbrev pub told : Core → ℕ → ℕ → ℕ → Out
told x z m n = record { core = x; effect = keeps; reply = reply (pos z) m n }

abbrev pub answered : Core → ℕ → ℕ → Out
answered x m n = told x 0 m n

abbrev pub done : Core → Out
done x = answered x 0 0

-- a refusal moves nothing
abbrev pub refused : Core → Refusal → Out
refused x r = record { core = x; effect = keeps; reply = reply (refusal_code r) 0 0 }

-- the same outcome under another answer
abbrev pub replied : Reply → Out → Out
replied r o = record o { reply = r }

abbrev pub guard : Bool → Out → Out → Out
guard true u v = u
guard false u v = v

abbrev pub with_clock : Core → Clock → Core
with_clock x c = record x { clock = c }

abbrev pub with_parts : Core → List Partition → Core
with_parts x ps = record x { parts = ps }

abbrev pub with_chans : Core → List (List Letter) → Core
with_chans x cs = record x { chans = cs }

-- one channel with other messages
abbrev pub with_chan : Core → ℕ → List Letter → Core
with_chan x c ms = with_chans x (slice_set x.chans c ms)

abbrev pub with_log : Core → List Entry → Core
with_log x es = record x { log = es }

abbrev pub with_halted : Core → Bool → Core
with_halted x b = record x { halted = b }

-- one partition, changed by a function
abbrev pub modify : List Partition → ℕ → (Partition → Partition) → List Partition
modify ps q f = slice_set ps q (f (slice_index_or ps q nobody))

-- the first n areas filled with zeros
unfoldable pub wiped_all : ℕ → List Area → List Area
wiped_all zero ms = ms
wiped_all (suc n) ms = wiped (wiped_all n ms) n

abbrev pub applied : Effect → ℕ → List Area → List Area
applied keeps q ms = ms
applied (writes a) q ms = slice_set ms q a
applied (clears t) q ms = wiped ms t
applied (clears_all n) q ms = wiped_all n ms

-- the one place where areas are written: the outcome of an event of partition q
abbrev pub settle : State → ℕ → Out → Stepped
settle s q o = record { state = record s { core = o.core; areas = applied o.effect q s.areas }; reply = o.reply }
