-- What many microseconds come to, without going through them.
use Rattle.std.proofs.Common.{◌≡◌, ℕ, zero, suc, ◌+◌, ◌-◌, ◌*◌, ◌/◌, ◌%◌, ◌<◌, ◌≤◌, List, sym, ap, ◌∙◌, mod-lt, suc-mul, suc-add, div-add-mod', zero-add, zero-mul, arith}
use Rattle.std.proofs.lemmas.Bool.{cond-true, cond-false, eq-eqb, ne_eqb, lt-ltb, le-ltb}
use Rattle.tables.specs.Tables.{Plans}
use Rattle.machine.specs.declared.clock.Clock.{Clock}
use Rattle.machine.specs.declared.partition.Partition.{Partition}
use Rattle.machine.specs.Questions.{slots_of}
use Rattle.machine.specs.Time.{Timed, plan_at, clock_of, timed, rolled, wake_at, micro, micros}
use Rattle.clock.specs.Ranges.{wake, upto}
use Rattle.clock.proofs.Waking.{wake_join, wake-within, wake-none, wake-one}

-- after m whole frames of length w and l microseconds more the offsets below this one have come
abbrev reach : ℕ → ℕ → ℕ → ℕ
reach zero l w = l + 1
reach (suc m) l w = w

reach-below : (m l w : ℕ) → l < w → reach m l w ≤ w
reach-below zero l w h = omega arith
reach-below (suc m) l w h = omega arith

reach-upto : (m l w r : ℕ) → m * w + l ≡ r → l < w → reach m l w ≡ upto r w
reach-upto zero l w r e h = sym (cond-true _ _ _ (lt-ltb r w (omega (arith, zero-mul w))) ∙ ap (λ x. x + 1) (omega (arith, zero-mul w)))
reach-upto (suc m) l w r e h = sym (cond-false _ _ _ (le-ltb r w (omega (arith, suc-mul m w))))

module _ (plans : Plans) where
  abbrev frame : ℕ → ℕ
  frame p = (plan_at plans p).frame

  abbrev woke : ℕ → ℕ → ℕ → List Partition → List Partition
  woke p lo hi qs = wake (slots_of (plan_at plans p)) lo hi qs

  -- at the offset o of the frame of plan p that began at f, while n is the next plan
  abbrev at : ℕ → ℕ → ℕ → ℕ → List Partition → Timed
  at f o p n qs = timed (clock_of (f + o) p n f) qs

  -- who wakes once the clock has gone on
  abbrev rouse : List Partition → Clock → Timed
  rouse qs c = timed c (wake_at (slots_of (plan_at plans c.plan)) (c.time - c.start) qs)

  micros_add : (k l : ℕ) (x : Timed) → micros plans (k + l) x ≡ micros plans l (micros plans k x)
  unfolding micros
  micros_add zero l x = ap (λ n. micros plans n x) (zero-add l)
  micros_add (suc k) l x = ap (λ n. micros plans n x) (suc-add k l) ∙ micros_add k l (micro plans x)

  -- a microsecond within the frame
  micro_in : (f o p n : ℕ) (qs : List Partition) → o + 1 < frame p → micro plans (at f o p n qs) ≡ at f (o + 1) p n (woke p (o + 1) (o + 1 + 1) qs)
  unfolding micro rolled
  micro_in f o p n qs h =
      let a : f + o + 1 ≡ f + (o + 1) = omega arith in
      let b : f + (o + 1) - f ≡ o + 1 = omega arith in
      ap (rouse qs) (cond-false _ _ _ (ne_eqb (f + o + 1 - f) (frame p) (λ e. omega arith)) ∙ ap (λ t. clock_of t p n f) a)
      ∙ ap (λ x. timed (clock_of (f + (o + 1)) p n f) (wake_at (slots_of (plan_at plans p)) x qs)) b
      ∙ ap (timed (clock_of (f + (o + 1)) p n f)) (wake-one (slots_of (plan_at plans p)) (o + 1) qs)

  -- the microsecond that ends it
  micro_end : (f o p n : ℕ) (qs : List Partition) → o + 1 ≡ frame p → micro plans (at f o p n qs) ≡ at (f + frame p) 0 n n (woke n 0 1 qs)
  unfolding micro rolled
  micro_end f o p n qs h =
      let g = f + frame p in
      let a : f + o + 1 ≡ g = omega arith in
      let b : g - g ≡ 0 = omega arith in
      let d : g ≡ g + 0 = omega arith in
      ap (rouse qs) (cond-true _ _ _ (eq-eqb (f + o + 1 - f) (frame p) (omega arith)) ∙ ap (λ t. clock_of t n n t) a)
      ∙ ap (λ x. timed (clock_of g n n g) (wake_at (slots_of (plan_at plans n)) x qs)) b
      ∙ ap (timed (clock_of g n n g)) (wake-one (slots_of (plan_at plans n)) 0 qs)
      ∙ ap (λ t. timed (clock_of t n n g) (woke n 0 1 qs)) d

  -- a stretch within the frame
  stretch : (k f o p n : ℕ) (qs : List Partition) → o + k < frame p → micros plans k (at f o p n qs) ≡ at f (o + k) p n (woke p (o + 1) (o + k + 1) qs)
  unfolding micros
  stretch zero f o p n qs h =
      let a : o + zero ≡ o = omega arith in
      sym (ap (λ x. at f x p n (woke p (o + 1) (x + 1) qs)) a ∙ ap (at f o p n) (wake-none (slots_of (plan_at plans p)) (o + 1) (o + 1) qs (omega arith)))
  stretch (suc k) f o p n qs h =
      let a : o + 1 + k ≡ o + suc k = omega arith in
      ap (micros plans k) (micro_in f o p n qs (omega arith))
      ∙ stretch k f (o + 1) p n (woke p (o + 1) (o + 1 + 1) qs) (omega arith)
      ∙ ap (at f (o + 1 + k) p n) (wake_join (slots_of (plan_at plans p)) (o + 1) (o + 1 + 1) (o + 1 + k + 1) qs (omega arith) (omega arith))
      ∙ ap (λ x. at f x p n (woke p (o + 1) (x + 1) qs)) a

  -- on to the start of the next frame
  to_end : (k f o p n : ℕ) (qs : List Partition) → o + k + 1 ≡ frame p →
      micros plans (k + 1) (at f o p n qs) ≡ at (f + frame p) 0 n n (woke n 0 1 (woke p (o + 1) (frame p) qs))
  unfolding micros
  to_end k f o p n qs h =
      micros_add k 1 (at f o p n qs)
      ∙ ap (micro plans) (stretch k f o p n qs (omega arith))
      ∙ micro_end f (o + k) p n (woke p (o + 1) (o + k + 1) qs) h
      ∙ ap (λ x. at (f + frame p) 0 n n (woke n 0 1 (woke p (o + 1) x qs))) h

  -- from the start of a frame of a plan that stays: m whole frames, and l microseconds more
  frames : (m l f p : ℕ) (qs : List Partition) → l < frame p →
      micros plans (m * frame p + l) (at f 0 p p (woke p 0 1 qs)) ≡ at (f + m * frame p) l p p (woke p 0 (reach m l (frame p)) qs)
  frames zero l f p qs h =
      let a : zero * frame p + l ≡ l = omega (arith, zero-mul (frame p)) in
      let b : f ≡ f + zero * frame p = omega (arith, zero-mul (frame p)) in
      ap (λ x. micros plans x (at f 0 p p (woke p 0 1 qs))) a
      ∙ stretch l f 0 p p (woke p 0 1 qs) (omega arith)
      ∙ ap (λ x. at f x p p (woke p 1 (x + 1) (woke p 0 1 qs))) (zero-add l)
      ∙ ap (at f l p p) (wake_join (slots_of (plan_at plans p)) 0 1 (l + 1) qs (omega arith) (omega arith))
      ∙ ap (λ x. at x l p p (woke p 0 (l + 1) qs)) b
  frames (suc m) l f p qs h =
      let w = frame p in
      let k = w - 1 in
      let a : suc m * w + l ≡ k + 1 + (m * w + l) = omega (arith, suc-mul m w) in
      let b : f + w + m * w ≡ f + suc m * w = omega (arith, suc-mul m w) in
      ap (λ x. micros plans x (at f 0 p p (woke p 0 1 qs))) a
      ∙ micros_add (k + 1) (m * w + l) (at f 0 p p (woke p 0 1 qs))
      ∙ ap (micros plans (m * w + l)) (to_end k f 0 p p (woke p 0 1 qs) (omega arith))
      ∙ ap (λ x. micros plans (m * w + l) (at (f + w) 0 p p (woke p 0 1 x))) (wake_join (slots_of (plan_at plans p)) 0 1 w qs (omega arith) (omega arith))
      ∙ frames m l (f + w) p (woke p 0 w qs) h
      ∙ ap (at (f + w + m * w) l p p) (wake-within (slots_of (plan_at plans p)) 0 (reach m l w) w qs (reach-below m l w h))
      ∙ ap (λ x. at x l p p (woke p 0 w qs)) b

  -- from t to e within the frame
  pub pass_in : (e t p n f : ℕ) (qs : List Partition) → f ≤ t → t ≤ e → e - f < frame p →
      micros plans (e - t) (timed (clock_of t p n f) qs) ≡ timed (clock_of e p n f) (woke p (t - f + 1) (e - f + 1) qs)
  pass_in e t p n f qs l m h =
      let a : t ≡ f + (t - f) = omega arith in
      let b : t - f + (e - t) ≡ e - f = omega arith in
      let d : f + (e - f) ≡ e = omega arith in
      ap (λ x. micros plans (e - t) (timed (clock_of x p n f) qs)) a
      ∙ stretch (e - t) f (t - f) p n qs (omega arith)
      ∙ ap (λ x. at f x p n (woke p (t - f + 1) (x + 1) qs)) b
      ∙ ap (λ x. timed (clock_of x p n f) (woke p (t - f + 1) (e - f + 1) qs)) d

  -- from t to e beyond its end
  pub pass-over : (e t p n f : ℕ) (qs : List Partition) → f ≤ t → t < f + frame p → 0 < frame n → frame p ≤ e - f →
      micros plans (e - t) (timed (clock_of t p n f) qs)
      ≡ timed (clock_of e n n (e - (e - f - frame p) % frame n)) (woke n 0 (upto (e - f - frame p) (frame n)) (woke p (t - f + 1) (frame p) qs))
  pass-over e t p n f qs l m z h =
      let o = t - f in
      let w = frame p in
      let v = frame n in
      let k = w - o - 1 in
      let r = e - f - w in
      let ps = woke p (o + 1) w qs in
      let a : t ≡ f + o = omega arith in
      let b : e - t ≡ k + 1 + r = omega arith in
      let d : r / v * v + r % v ≡ r = div-add-mod' r v in
      let i : f + w + r / v * v + r % v ≡ e = omega arith in
      let j : f + w + r / v * v ≡ e - r % v = omega arith in
      ap (λ x. micros plans (e - t) (timed (clock_of x p n f) qs)) a
      ∙ ap (λ x. micros plans x (at f o p n qs)) b
      ∙ micros_add (k + 1) r (at f o p n qs)
      ∙ ap (micros plans r) (to_end k f o p n qs (omega arith))
      ∙ ap (λ x. micros plans x (at (f + w) 0 n n (woke n 0 1 ps))) (sym d)
      ∙ frames (r / v) (r % v) (f + w) n ps (mod-lt r z)
      ∙ ap (λ x. at (f + w + r / v * v) (r % v) n n (woke n 0 x ps)) (reach-upto (r / v) (r % v) v r d (mod-lt r z))
      ∙ ap (λ x. timed (clock_of x n n (f + w + r / v * v)) (woke n 0 (upto r v) ps)) i
      ∙ ap (λ x. timed (clock_of e n n x) (woke n 0 (upto r v) ps)) j
