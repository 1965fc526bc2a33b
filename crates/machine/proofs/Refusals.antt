-- A refusal moves nothing.
use Rattle.std.proofs.Common.{ap₂}
use Rattle.tables.specs.declared.Tables.{Tables}
use Rattle.machine.specs.declared.event.Event.{Event}
use Rattle.machine.specs.State.{State, applied}
use Rattle.machine.specs.Step.{author}
use Rattle.machine.specs.Laws.{Unmoved}
use Rattle.machine.proofs.Outcomes.{tamed}

pub unmoved : (k : Tables) (s : State) (e : Event) → Unmoved k s e
unmoved k s e n c =
    let h = tamed k s e in
    ap₂ (λ x f. record { core = x; areas = applied f (author e) s.areas }) (h.core n c) (h.effect n c)
