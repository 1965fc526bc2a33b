-- What an event, and each part of one, makes of a system whose board's areas are `m` of it.
use Rattle.std.specs.Prelude.{◌≡◌, ℕ, ◌-◌, ◌++◌, List, [], ◌∷◌, Result}
use Rattle.tables.specs.declared.response.Scope.{Scope}
use Rattle.tables.specs.declared.response.Action.{Action}
use Rattle.tables.specs.declared.response.Response.{Response}
use Rattle.machine.specs.declared.answer.Answer.{Answer}
use Rattle.machine.specs.declared.answer.Refusal.{Refusal}
use Rattle.machine.specs.declared.answer.Reply.{Reply}
use Rattle.machine.specs.declared.answer.Answer.TheVariants.{Outside, Responded}
use Rattle.machine.specs.Answers.{answer_reply, reply_of}
use Rattle.machine.specs.Faults.{carried, logged, strayed, system_carried}
use Rattle.machine.specs.Interrupts.{line}
use Rattle.machine.specs.Management.{Call}
use Rattle.board.specs.Areas.{part, Area, area}
use Rattle.machine.specs.Ports.{posted}
use Rattle.machine.specs.State.{Out}
use Rattle.machine.specs.State.{Core as Machine}
use Rattle.machine.specs.Step.{fault, later, load, store, system_fault, tick}
use Rattle.machine.specs.Time.{Time}
use Rattle.kernel.specs.Channels.{chan_of}
use Rattle.kernel.specs.World.{core_of, gives, performed, settled, with_core, world_of}
use Rattle.kernel.specs.declared.system.System.{System}

module _ {B : Type 0} where
  -- only the core changes, and it becomes x
  abbrev pub Becomes : (B → List Area) → Machine → System B → System B → Type 0
  Becomes m x old new = world_of m new ≡ with_core x (world_of m old)

  -- the system and the answer are what the outcome of an event of partition q says
  abbrev pub Settles : (B → List Area) → ℕ → Out → System B → Reply → System B → Type 0
  Settles m q o old r new = gives (world_of m new) r ≡ settled q o (world_of m old)

  -- a call of q with these arguments does what the rule of the call says
  abbrev pub Does : (B → List Area) → Call → ℕ → List ℕ → System B → Result Answer Refusal → System B → Type 0
  Does m f q g old r new = gives (world_of m new) (reply_of r) ≡ performed f q g (world_of m old)

  -- a load of q at the offset o, a store of the byte v there
  abbrev pub Loads : (B → List Area) → ℕ → ℕ → System B → Result Answer Refusal → System B → Type 0
  Loads m q o old r new =
      Settles m q (load old.core.config.tables (core_of old.core) (area (m old.board) q) q o) old (reply_of r) new

  abbrev pub Stores : (B → List Area) → ℕ → ℕ → ℕ → System B → Result Answer Refusal → System B → Type 0
  Stores m q o v old r new =
      Settles m q (store old.core.config.tables (core_of old.core) (area (m old.board) q) q o v) old (reply_of r) new

  -- one of them outside the area
  abbrev pub Strays : (B → List Area) → ℕ → System B → System B → Type 0
  Strays m q old new =
      Settles m q (strayed old.core.config.tables (core_of old.core) q) old (answer_reply Outside) new

  -- a tick to the time t
  abbrev pub Ticks : (B → List Area) → Time → System B → Result Answer Refusal → System B → Type 0
  Ticks m t old r new = Settles m 0 (tick old.core.config.tables (core_of old.core) t) old (reply_of r) new

  -- the microseconds up to the time t pass
  abbrev pub Passes : (B → List Area) → Time → System B → System B → Type 0
  Passes m t old new =
      Becomes m (later old.core.config.tables (t - old.core.clock.time) (core_of old.core)) old new

  -- a line's signal
  abbrev pub Signals : (B → List Area) → ℕ → System B → Result Answer Refusal → System B → Type 0
  Signals m l old r new = Settles m 0 (line old.core.config.tables (core_of old.core) l) old (reply_of r) new

  -- the fault event e of q, and of the system
  abbrev pub Faults : (B → List Area) → ℕ → ℕ → System B → Result Answer Refusal → System B → Type 0
  Faults m q e old r new = Settles m q (fault old.core.config.tables (core_of old.core) q e) old (reply_of r) new

  abbrev pub SystemFaults : (B → List Area) → ℕ → System B → Result Answer Refusal → System B → Type 0
  SystemFaults m e old r new =
      Settles m 0 (system_fault old.core.config.tables (core_of old.core) e) old (reply_of r) new

  -- the entry of a fault event, where the response asks for one
  abbrev pub Notes : (B → List Area) → Scope → ℕ → Response → System B → System B → Type 0
  Notes m c e r old new = Becomes m (logged c e r (core_of old.core)) old new

  -- an action on partition q, and on the system
  abbrev pub Acts : (B → List Area) → Action → ℕ → System B → System B → Type 0
  Acts m a q old new = Settles m q (carried a q (core_of old.core)) old (answer_reply (Responded a)) new

  abbrev pub ActsOnSystem : (B → List Area) → Action → System B → System B → Type 0
  ActsOnSystem m a old new =
      Settles m 0 (system_carried old.core.config.tables a (core_of old.core)) old (answer_reply (Responded a)) new

  -- n bytes of q's area, from the address o on, are appended to the messages of channel c, and its readers are told
  abbrev pub Posts : (B → List Area) → ℕ → ℕ → ℕ → ℕ → System B → System B → Type 0
  Posts m q c o n old new =
      Becomes m
      (posted old.core.config.tables (core_of old.core) c
      (chan_of old.core.channels c ++ (record { bytes = part (area (m old.board) q) o n; time = old.core.clock.time } ∷ [])))
      old new
