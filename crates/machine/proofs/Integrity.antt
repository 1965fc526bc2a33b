-- Nobody writes into another's area.
use Rattle.std.proofs.Common.{◌≡◌, ℕ, true, false, List, [], ◌∷◌, Some, None, Option, sym, refl, ap, ◌∙◌}
use Rattle.std.proofs.lemmas.List.{get_or-set_other}
use Rattle.std.proofs.lemmas.Bool.{both_ways, or_from, or_parts, eqb-true, eqb-false, ne_eqb}
use Rattle.board.specs.Areas.{Area, area}
use Rattle.tables.specs.Names.{any}
use Rattle.tables.specs.declared.Tables.{Tables}
use Rattle.machine.specs.declared.event.Event.{Event}
use Rattle.machine.specs.declared.event.Event.TheVariants.{Tick, Call, Load, Store, Fault, Line, SystemFault}
use Rattle.machine.specs.Questions.{names}
use Rattle.machine.specs.State.{State, Effect, keeps, writes, clears, clears_all, applied}
use Rattle.machine.specs.Step.{author, step}
use Rattle.machine.specs.Runs.{after}
use Rattle.machine.specs.Isolation.{whose, is_of}
use Rattle.machine.specs.Integrity.{is_cold_reset, Integral, is_cold_fault, reaches, Preserved}
use Rattle.machine.proofs.Outcomes.{Mine, tamed}

not_named : (o : Option ℕ) (t r : ℕ) → o ≡ Some t → names o r ≡ false → r ≡ t → ⊥
not_named o t r e d i = eqb-false t r (ap (λ p. names p r) (sym e) ∙ d) (sym i)

-- an effect on o's area leaves the others
applied-other : (f : Effect) (p : ℕ) (o : Option ℕ) (r : ℕ) (ms : List Area) → Mine p o f → names o r ≡ false →
    area (applied f p ms) r ≡ area ms r
applied-other keeps p o r ms h d = refl
applied-other (writes a) p o r ms h d = get_or-set_other ms p r a [] (not_named o p r h d)
applied-other (clears t) p o r ms h d = get_or-set_other ms t r _ [] (not_named o t r h d)
applied-other (clears_all m) p o r ms h d = absurd h

unreached : (k : Tables) (s : State) (r : ℕ) (e : Event) → is_of k r e ≡ false → is_cold_reset k e ≡ false → is_cold_fault k e ≡ false →
    area (step k s e).state.areas r ≡ area s.areas r
unreached k s r e i c f = applied-other _ (author e) (whose k e) r s.areas ((tamed k s e).own (or_from _ _ f c)) i

-- who has an event is one partition, and no fault of the system is anybody's
other : (o : Option ℕ) (q r : ℕ) → names o q ≡ true → (r ≡ q → ⊥) → names o r ≡ false
other None q r h n = absurd (both_ways false refl h)
other (Some p) q r h n = ne_eqb p r (λ e. n (sym e ∙ eqb-true p q h))

no_fault : (k : Tables) (q : ℕ) (e : Event) → is_of k q e ≡ true → is_cold_fault k e ≡ false
no_fault k q (Tick t) h = refl
no_fault k q (Call p n g) h = refl
no_fault k q (Load p o) h = refl
no_fault k q (Store p v o) h = refl
no_fault k q (Fault p e) h = refl
no_fault k q (Line l) h = refl
no_fault k q (SystemFault e) h = absurd (both_ways false refl h)

pub integral : (k : Tables) (s : State) (e : Event) → Integral k s e
integral k s e q r h c n = unreached k s r e (other (whose k e) q r h n) c (no_fault k q e h)

pub preserved : (k : Tables) (s : State) (h : List Event) → Preserved k s h
unfolding after
preserved k s [] r n = refl
preserved k s (e ∷ es) r n =
    let u = or_parts (reaches k r e) (any (reaches k r) es) n in
    let v = or_parts (is_of k r e) _ u.0 in
    let w = or_parts (is_cold_reset k e) _ v.1 in
    preserved k (step k s e).state es r u.1 ∙ unreached k s r e v.0 w.0 w.1
