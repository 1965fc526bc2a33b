-- What the machine keeps, the run keeps.
use Rattle.std.proofs.Common.{◌≡◌, ℕ, Bool, true, false, cond, List, [], ◌∷◌, sym, refl, ap, ◌∙◌, subst, ap₂}
use Rattle.board.specs.Areas.{area, Area}
use Rattle.tables.specs.declared.Tables.{Tables}
use Rattle.tables.specs.Fair.{Fair}
use Rattle.tables.specs.Laws as vector
use Rattle.tables.specs.Sound.{Sound}
use Rattle.machine.specs.declared.event.Event.{Event}
use Rattle.machine.specs.declared.answer.Reply.{Reply}
use Rattle.machine.specs.State.{Core, State}
use Rattle.machine.specs.Step.{step, boot}
use Rattle.machine.specs.Runs.{Line, after, lines}
use Rattle.machine.specs.Isolation.{kept, is_of, Sight, sight, sights, Sheet, answers_to}
use Rattle.machine.proofs.Theorem.{isolated}
use Rattle.machine.specs.Laws.{Steady}
use Rattle.machine.proofs.Integrity.{integral, preserved}
use Rattle.machine.proofs.Refusals.{unmoved}
use Rattle.machine.proofs.Schedules.{single, scheduled, served}
use Rattle.machine.proofs.Outcomes.{planned}
use Rattle.machine.proofs.Bounds.{steady, lasting}
use Rattle.kernel.specs.World.{World, Moved, gives, stepped, ended}
use Rattle.kernel.specs.Promises.{picked, Isolating, Apart, Unmoved, Planned, Lasting, Lawful, Preserving}

picked_all : (p : ℕ) (k : Tables) (h : List Event) (s : State) → picked k p (lines k s h) ≡ answers_to p k s h
unfolding lines
picked_all p k [] s = refl
picked_all p k (e ∷ es) s = one (is_of k p e) _ (picked_all p k es (step k s e).state)
  where
    one : (b : Bool) (r : Reply) {xs ys : List Reply} → xs ≡ ys → cond b (r ∷ xs) xs ≡ cond b (r ∷ ys) ys
    one true r e = ap (λ l. r ∷ l) e
    one false r e = e

-- the last thing seen is the end
abbrev last_of : Sight → List Sight → Sight
last_of d [] = d
last_of d (x ∷ xs) = last_of x xs

last-sight : (p : ℕ) (M : ℕ → Bool) (k : Tables) (h : List Event) (s : State) (d : Sight) → last_of d (sights p M k s h) ≡ sight p (after k s h)
unfolding after
last-sight p M k [] s d = refl
last-sight p M k (e ∷ es) s d = one (kept k M e) _ _ _ (last-sight p M k es (step k s e).state)
  where
    one : (b : Bool) (x : Sight) (xs : List Sight) (y : Sight) → ((d : Sight) → last_of d xs ≡ y) → last_of d (cond b (x ∷ xs) xs) ≡ y
    one true x xs y f = f x
    one false x xs y f = f d

pub isolating : (k : Tables) (ms : List Area) (h : List Event) (ls : List Line) (w : World) → Fair k → w ≡ ended k ms h → ls ≡ lines k (boot k ms) h → Isolating k ms h ls w.state
isolating k ms h ls w n e f p x y M c ns l a b z i q =
    let v = isolated k n.source n.destination ms h p x y M c ns l a b z i q in (
      ap (picked k p) f ∙ (picked_all p k h (boot k ms) ∙ ap (λ (v : Sheet). v.told) v),
      ap (λ (u : World). sight p u.state) e
          ∙ (sym (last-sight p M k h (boot k ms) (sight p (boot k ms)))
          ∙ (ap (λ (v : Sheet). last_of (sight p (boot k ms)) v.seen) v ∙ last-sight p M k i (boot k ns) (sight p (boot k ns)))),
      v,
    )

pub preserving : (k : Tables) (ms : List Area) (h : List Event) (w : World) → w ≡ ended k ms h → Preserving k h ms w.state.areas
preserving k ms h w e r n = ap (λ (u : World). area u.state.areas r) e ∙ preserved k (boot k ms) h r n

pub apart : (w v : World) (e : Event) (r : Reply) → gives v r ≡ stepped e w → Apart w.tables e w.state.areas v.state.areas
apart w v e r m q t o c n = ap (λ (u : Moved). area u.result.state.areas t) m ∙ integral w.tables w.state e q t o c n

pub unmoved-by : (w v : World) (e : Event) (r : Reply) → gives v r ≡ stepped e w → Unmoved r w v
unmoved-by w v e r m n c =
    let a = ap (λ (u : Moved). u.result.reply.code) m in
    let s = ap (λ (u : Moved). u.result.state) m ∙ unmoved w.tables w.state e n (sym a ∙ c) in
    ap₂ (λ (k : Tables) (x : State). record { tables = k; state = x }) (ap (λ (u : Moved). u.tables) m) s

pub planned-by : (w v : World) (e : Event) (r : Reply) → gives v r ≡ stepped e w → Planned e w v
planned-by w v e r m h = ap (λ (u : Moved). u.result.state.core.clock.plan) m ∙ planned w.tables w.state e h

pub lasting-by : (w v : World) (e : Event) (r : Reply) → gives v r ≡ stepped e w → Lasting w v
lasting-by w v e r m s = subst (λ (u : Moved). Steady u.tables u.result.state.core) (sym m) (lasting w.tables w.state e s)

module _ (k : Tables) (f : Sound k) (l : vector.Lawful k) where
  lawful-steady : (x : Core) → Steady k x → Lawful k x
  lawful-steady x r =
      let p = r.plans f.plans.some in
      record {
        bounded = r.bounded;
        plans = p;
        absent = r.absent l;
        single = single k x;
        scheduled = scheduled k x;
        served = served k x l p;
      }

  pub lawful : (ms : List Area) (h : List Event) (w : World) → w ≡ ended k ms h → Lawful k w.state.core
  lawful ms h w e = subst (λ (u : World). Lawful k u.state.core) (sym e) (lawful-steady _ (steady k ms h))
