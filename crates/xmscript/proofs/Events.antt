-- A run keeps the events of its history: they stand in the lines.
use Rattle.std.proofs.Common.{◌≡◌, List, [], ◌∷◌, map, sym, refl, ap, ◌∙◌}
use Rattle.tables.specs.declared.Tables.{Tables}
use Rattle.machine.specs.declared.event.Event.{Event}
use Rattle.machine.specs.declared.event.Exchange.{Exchange}
use Rattle.machine.specs.Runs.{Line, lines_of, events_of, lines}
use Rattle.machine.specs.State.{State}
use Rattle.machine.specs.Step.{step}

said : List Line → List Event
said ls = map (λ (l : Line). l.event) ls

said-lines : (k : Tables) (s : State) (es : List Event) → said (lines k s es) ≡ es
unfolding said lines
said-lines k s [] = refl
said-lines k s (e ∷ es) = ap (λ (h : List Event). e ∷ h) (said-lines k (step k s e).state es)

said-history : (xs : List Exchange) → said (lines_of xs) ≡ events_of xs
unfolding said
said-history [] = refl
said-history (x ∷ xs) = ap (λ (h : List Event). x.event ∷ h) (said-history xs)

pub events-kept : (k : Tables) (s : State) (es : List Event) (xs : List Exchange) → lines_of xs ≡ lines k s es → events_of xs ≡ es
events-kept k s es xs e = sym (said-history xs) ∙ (ap said e ∙ said-lines k s es)
