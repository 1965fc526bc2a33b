-- Whole histories: isolation.
use Rattle.std.proofs.Common.{◌≡◌, ℕ, Bool, true, false, cond, not, List, [], ◌∷◌, length, replicate, Some, None, Option, sym, refl, ap, ◌∙◌, ap₂}
use Rattle.std.proofs.lemmas.Bool.{both_ways, ne_eqb}
use Rattle.board.specs.Areas.{Area, area}
use Rattle.tables.specs.declared.Tables.{Tables}
use Rattle.machine.specs.declared.event.Event.{Event}
use Rattle.machine.specs.declared.answer.Reply.{Reply}
use Rattle.machine.specs.Partitions.{nobody, fresh}
use Rattle.machine.specs.Questions.{is_system, names}
use Rattle.machine.specs.State.{State}
use Rattle.machine.specs.Step.{step, boot, fits}
use Rattle.tables.specs.Fair.{OneSource, OneDestination}
use Rattle.machine.specs.Isolation.{whose, is_of, stays, kept, strike, Sight, sight, answers_to, sights, sheet, Isolated}
use Rattle.machine.proofs.Agree.{agree_refl}
use Rattle.machine.proofs.Sealed.{Sealed, seen, sealed}
use Rattle.machine.proofs.Steps.{Like, like_refl, like_sym, like_trans, step_steady, step_quiet}

-- one more answer, if it is asked for
heard : (b : Bool) {x y : Reply} {xs ys : List Reply} → (b ≡ true → x ≡ y) → xs ≡ ys → cond b (x ∷ xs) xs ≡ cond b (y ∷ ys) ys
heard true f e = let d = f refl in cc
heard false f e = e

module _ (k : Tables) (M C : ℕ → Bool) (w : Sealed k M C) (p : ℕ) (m : M p ≡ true) (n : is_system k p ≡ false) where
  -- an event of p stays
  mine : (o : Option ℕ) → stays M o ≡ false → names o p ≡ false
  mine None h = refl
  mine (Some q) h = ne_eqb q p (λ e. both_ways (M p) (ap M (sym e) ∙ h) m)

  sight-same : (s t : State) → Like M C s t → sight p s ≡ sight p t
  sight-same s t r = let b = r.areas.at p m in let v = r.core.parts.at p m in cc (b, v, r.core.clock, r.core.halted)

  record Walked (s t : State) (h i : List Event) : Type 0 where
    told : answers_to p k s h ≡ answers_to p k t i
    seen : sights p M k s h ≡ sights p M k t i

  stride : (e : Event) (es fs : List Event) → ((s t : State) → Like M C s t → Walked s t es fs) →
      (s t : State) → Like M C s t → (b : Bool) → kept k M e ≡ b → Walked s t (e ∷ es) (cond b (e ∷ fs) fs)
  stride e es fs ih s t r true h =
      let v = step_steady k M C w e s t h r in
      let u = ih (step k s e).state (step k t e).state v.state in
      record {
        told = heard (is_of k p e) (v.reply p n) u.told;
        seen = rw h (ap₂ {C = List Sight} (λ a b. a ∷ b) (sight-same _ _ v.state) u.seen);
      }
  stride e es fs ih s t r false h =
      let u = ih (step k s e).state t (like_trans M C (like_sym M C (step_quiet k M C w e s h)) r) in
      record { told = rw (mine (whose k e) h) u.told; seen = rw h u.seen }

  -- a history, and the same without the outsiders' events
  walk : (h : List Event) (s t : State) → Like M C s t → Walked s t h (strike k M h)
  walk [] s t r = record { told = refl; seen = ap {B = List Sight} (λ v. v ∷ []) (sight-same s t r) }
  walk (e ∷ es) s t r = stride e es (strike k M es) (walk es) s t r (kept k M e) refl

  pub meet : (s t : State) → Like M C s t → (h i : List Event) → strike k M h ≡ strike k M i → sheet p M k s h ≡ sheet p M k t i
  meet s t r h i e =
      let u = walk h s s (like_refl M C s) in
      let v = walk i t s (like_sym M C r) in
      ap₂ (λ a b. record { told = a; seen = b })
      (u.told ∙ (ap (answers_to p k s) e ∙ sym v.told))
      (ap₂ {C = List Sight} (λ a b. a ∷ b) (sight-same s t r) (u.seen ∙ (ap (sights p M k s) e ∙ sym v.seen)))

booted : (k : Tables) (M C : ℕ → Bool) (ms ns : List Area) → length ms ≡ length ns → fits k ms ≡ true → fits k ns ≡ true →
    ((q : ℕ) → M q ≡ true → area ms q ≡ area ns q) → Like M C (boot k ms) (boot k ns)
booted k M C ms ns l f g a =
    record {
      core = record {
        clock = refl;
        halted = ap not (f ∙ sym g);
        parts = agree_refl M nobody (replicate 8 fresh);
        chans = agree_refl C [] (replicate 8 []);
      };
      areas = record { long = l; at = a };
    }

pub isolated : (k : Tables) → OneSource k → OneDestination k → (ms : List Area) (h : List Event) → Isolated k ms h
isolated k s d ms h p e n M c ns l f g a i j =
    let C = seen k M in
    meet k M C (sealed k M c.closed s d) p c.itself n (boot k ms) (boot k ns) (booted k M C ms ns l f g a) h i j
