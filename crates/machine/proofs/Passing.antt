-- What the passing of time leaves: calm partitions stay calm, the time does not go back, and a plan stays until its frame ends.
use Rattle.std.proofs.Common.{◌≡◌, ℕ, zero, suc, ◌<◌, ◌≤◌, false, refl, ap, ◌∙◌, arith}
use Rattle.std.proofs.lemmas.Bool.{or_parts, cond-false, cond_both}
use Rattle.tables.specs.declared.Tables.{Tables}
use Rattle.tables.specs.Tables.{Plans}
use Rattle.machine.specs.declared.clock.Clock.{Clock}
use Rattle.machine.specs.Time.{Timed, rolled, wake_at, micro, micros}
use Rattle.machine.specs.Laws.{frame_ends, ends_within}
use Rattle.machine.proofs.Calm.{AllCalm, calm-each, soothes_started}

module _ (k : Tables) (ps : Plans) where
  micro-calm : (x : Timed) → AllCalm k x.parts → AllCalm k (micro ps x).parts
  unfolding micro wake_at
  micro-calm x r = calm-each k _ (λ j i. soothes_started k j _) r

  pub micros-calm : (n : ℕ) (x : Timed) → AllCalm k x.parts → AllCalm k (micros ps n x).parts
  unfolding micros
  micros-calm zero x r = r
  micros-calm (suc n) x r = micros-calm n (micro ps x) (micro-calm x r)

rolled-later : (ps : Plans) (c : Clock) → c.time ≤ (rolled ps c).time
unfolding rolled
rolled-later ps c = cond_both (frame_ends ps c) _ _ (λ (d : Clock). c.time ≤ d.time) (λ _. omega arith) (λ _. omega arith)

pub micros-later : (ps : Plans) (n : ℕ) (x : Timed) → x.clock.time ≤ (micros ps n x).clock.time
unfolding micros micro
micros-later ps zero x = omega arith
micros-later ps (suc n) x =
    let h = rolled-later ps x.clock in
    let l = micros-later ps n (micro ps x) in
    omega arith

rolled-plan : (ps : Plans) (c : Clock) → frame_ends ps c ≡ false → (rolled ps c).plan ≡ c.plan
unfolding rolled
rolled-plan ps c e = ap (λ (d : Clock). d.plan) (cond-false (frame_ends ps c) _ _ e)

pub micros-plan : (ps : Plans) (n : ℕ) (x : Timed) → ends_within ps n x.clock ≡ false → (micros ps n x).clock.plan ≡ x.clock.plan
unfolding micros micro ends_within
micros-plan ps zero x e = refl
micros-plan ps (suc n) x e =
    let u = or_parts (frame_ends ps x.clock) _ e in
    micros-plan ps n (micro ps x) u.1 ∙ rolled-plan ps x.clock u.0

-- the plan in force and the next one are there
abbrev There : Plans → Clock → Type 0
There ps c = (c.plan < ps.count) × (c.next < ps.count)

rolled-there : (ps : Plans) (c : Clock) → There ps c → There ps (rolled ps c)
unfolding rolled
rolled-there ps c h = cond_both (frame_ends ps c) _ _ (There ps) (λ _. (h.1, h.1)) (λ _. h)

pub micros-there : (ps : Plans) (n : ℕ) (x : Timed) → There ps x.clock → There ps (micros ps n x).clock
unfolding micros micro
micros-there ps zero x h = h
micros-there ps (suc n) x h = micros-there ps n (micro ps x) (rolled-there ps x.clock h)
