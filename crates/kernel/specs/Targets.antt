-- Who may do what: the tests that events and calls begin with.
use Rattle.std.specs.Prelude.{◌≡◌, ℕ, ◌+◌, ◌≤◌, true, false, cond, ◌&&◌, List, Option, Result, Ok, Err, IfOk, MatchResult, length, slice_index}
use Rattle.tables.specs.Names.{padded}
use Rattle.tables.specs.declared.channel.ChannelKind.{ChannelKind}
use Rattle.tables.specs.declared.Tables.{Tables}
use Rattle.machine.specs.declared.answer.Refusal.{Refusal}
use Rattle.machine.specs.declared.answer.Refusal.TheVariants.{InvalidMode, InvalidParam, NotOnProcessor, PermError}
use Rattle.board.specs.Areas.{area, Area, part, ranged}
use Rattle.machine.specs.State.{Core}
use Rattle.machine.specs.Step.{running}
use Rattle.machine.specs.Questions.{channel_of, exists, is_source, is_system, manages, named, port}
use Rattle.machine.specs.Management.{arg}
use Rattle.machine.specs.Ports.{sendable, usable}
use Rattle.kernel.specs.World.{core_of}
use Rattle.kernel.specs.declared.system.System.{System}

-- a target t that exists, and that q manages
abbrev pub target_of : Tables → ℕ → ℕ → Result ℕ Refusal
target_of k q t = cond (exists k t) (cond (manages k q t) (Ok t) (Err PermError)) (Err InvalidParam)

-- q is a system partition
abbrev pub system_only : Tables → ℕ → Result (Unit {0}) Refusal
system_only k q = cond (is_system k q) (Ok tt) (Err PermError)

-- q is on the processor
abbrev pub on_processor : Tables → Core → ℕ → Result ℕ Refusal
on_processor k x q = cond (running k x q) (Ok q) (Err NotOnProcessor)

-- the answer says whether it is
abbrev pub Runs : Tables → Core → ℕ → Result ℕ Refusal → Type 0
Runs k x q r =
    MatchResult r
    (λ g. (g ≡ q) × (running k x q ≡ true))
    (λ e. (e ≡ NotOnProcessor) × (running k x q ≡ false))

-- the channel that q may send a message on, by port, address and length
abbrev pub source_of : ChannelKind → Tables → Core → Area → ℕ → List ℕ → Result ℕ Refusal
source_of t k x a q g =
    cond (usable k x q t (arg g 0) && sendable k a g)
    (cond (is_source (port k (arg g 0)).direction) (Ok (channel_of k (arg g 0))) (Err InvalidMode))
    (Err InvalidParam)

-- the channel that q may receive a message from, by port, address and length
abbrev pub destination_of : ChannelKind → Tables → Core → Area → ℕ → List ℕ → Result ℕ Refusal
destination_of t k x a q g =
    cond (usable k x q t (arg g 0) && ranged a (arg g 1) (arg g 2))
    (cond (is_source (port k (arg g 0)).direction) (Err InvalidMode) (Ok (channel_of k (arg g 0))))
    (Err InvalidParam)

-- the same of a system whose board's areas are `m` of it
module _ {B : Type 0} where
  abbrev pub source_in : (B → List Area) → ChannelKind → System B → ℕ → List ℕ → Result ℕ Refusal
  source_in m t s q g = source_of t s.core.config.tables (core_of s.core) (area (m s.board) q) q g

  abbrev pub destination_in : (B → List Area) → ChannelKind → System B → ℕ → List ℕ → Result ℕ Refusal
  destination_in m t s q g = destination_of t s.core.config.tables (core_of s.core) (area (m s.board) q) q g

  -- where there is a channel, the address and the length are a range of q's area
  abbrev pub InArea : (B → List Area) → System B → ℕ → List ℕ → Result ℕ Refusal → Type 0
  InArea m s q g r = IfOk r (λ _. slice_index g 1 + slice_index g 2 ≤ length (area (m s.board) q))

  -- the port of q that has this type, and the name of n bytes in its area from the address o on
  abbrev pub named_in : (B → List Area) → ChannelKind → System B → ℕ → ℕ → ℕ → Option ℕ
  named_in m t s q o n = named s.core.config.tables q t (padded (part (area (m s.board) q) o n)) s.core.config.tables.ports.count
