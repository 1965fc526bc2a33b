-- One event: a kept one takes like states to like states, and an outsider's leaves a state like itself.
use Rattle.std.proofs.Common.{◌≡◌, ℕ, zero, suc, ◌-◌, Bool, true, false, cond, ◌&&◌, ltb, List, [], length, replicate, Some, None, Option, sym, refl, ap, ◌∙◌, subst, ap₂, inl, inr}
use Rattle.std.proofs.lemmas.Bool.{both_ways, and_parts, and_left, eqb-true, cases_Bool}
use Rattle.board.specs.Areas.{Area, area, wiped}
use Rattle.tables.specs.declared.Tables.{Tables}
use Rattle.machine.specs.declared.clock.Clock.{Clock}
use Rattle.machine.specs.declared.partition.Partition.{Partition}
use Rattle.machine.specs.declared.event.Event.{Event}
use Rattle.machine.specs.declared.event.Event.TheVariants.{Tick, Call, Load, Store, Fault, Line, SystemFault}
use Rattle.machine.specs.declared.answer.Reply.{Reply}
use Rattle.machine.specs.declared.answer.Refusal.TheVariants.{InvalidParam, SystemHalted}
use Rattle.machine.specs.Partitions.{is_ready}
use Rattle.machine.specs.Questions.{exists, is_system, names, owner, holder, slots_of, plan}
use Rattle.machine.specs.State.{Core, State, Effect, keeps, writes, clears, clears_all, Out, refused, guard, wiped_all, applied, settle}
use Rattle.machine.specs.Calls.{called}
use Rattle.machine.specs.Interrupts.{line_of}
use Rattle.machine.specs.Faults.{strayed}
use Rattle.machine.specs.Step.{running, gate, load, store, fault, step}
use Rattle.machine.specs.Isolation.{existing, is_of, stays, kept}
use Rattle.machine.proofs.Agree.{Agree, agree_refl, agree_sym, agree_trans, agree_set, agree_out}
use Rattle.machine.proofs.Alike.{Alike, Matched, Far, Quiet, alike_refl, alike_sym, alike_trans, matched_guard, matched_same, quiet_guard, quiet_core}
use Rattle.machine.proofs.Sealed.{Sealed}
use Rattle.machine.proofs.Calls.{called_respects}
use Rattle.machine.proofs.Signals.{line_matched, line_quiet}
use Rattle.machine.proofs.Responses.{faulted_matched, faulted_quiet, strayed_matched, strayed_quiet, system_fault_matched}
use Rattle.machine.proofs.Ticks.{tick_matched}

pub record Like (M C : ℕ → Bool) (s t : State) : Type 0 where
  pub core : Alike M C s.core t.core
  pub areas : Agree M [] s.areas t.areas

module _ (M C : ℕ → Bool) where
  pub like_refl : (s : State) → Like M C s s
  like_refl s = record { core = alike_refl M C s.core; areas = agree_refl M [] s.areas }

  pub like_sym : {s t : State} → Like M C s t → Like M C t s
  like_sym r = record { core = alike_sym M C r.core; areas = agree_sym M [] r.areas }

  pub like_trans : {s t u : State} → Like M C s t → Like M C t u → Like M C s u
  like_trans r v = record { core = alike_trans M C r.core v.core; areas = agree_trans M [] r.areas v.areas }

-- the areas
module _ (M : ℕ → Bool) where
  agree_wiped : (t : ℕ) {xs ys : List Area} → Agree M [] xs ys → Agree M [] (wiped xs t) (wiped ys t)
  agree_wiped t r = agree_set M [] r t _ _ (λ m. ap (λ (a : Area). replicate (length a) 0) (r.at t m))

  agree_wiped_all : (n : ℕ) {xs ys : List Area} → Agree M [] xs ys → Agree M [] (wiped_all n xs) (wiped_all n ys)
  unfolding wiped_all
  agree_wiped_all zero r = r
  agree_wiped_all (suc n) r = agree_wiped n (agree_wiped_all n r)

  agree_applied : (f : Effect) (q : ℕ) {xs ys : List Area} → Agree M [] xs ys → Agree M [] (applied f q xs) (applied f q ys)
  agree_applied keeps q r = r
  agree_applied (writes a) q r = agree_set M [] r q a a (λ _. refl)
  agree_applied (clears t) q r = agree_wiped t r
  agree_applied (clears_all n) q r = agree_wiped_all n r

  applied-out : (f : Effect) (q : ℕ) (xs : List Area) → M q ≡ false → Far M f → Agree M [] xs (applied f q xs)
  applied-out keeps q xs o h = agree_refl M [] xs
  applied-out (writes a) q xs o h = agree_out M [] xs q a o
  applied-out (clears t) q xs o h = agree_out M [] xs t _ h
  applied-out (clears_all n) q xs o h = absurd h

-- the events that a partition may send
module _ (k : Tables) (M C : ℕ → Bool) where
  -- a load and a store, by what they do within the area
  abbrev access : Effect → Reply → ℕ → ℕ → Core → Area → Out
  access f p q o x a = guard (ltb o (length a)) (record { core = x; effect = f; reply = p }) (strayed k x q)

  access_matched : (f : Effect) (p : Reply) (q o : ℕ) (x y : Core) (a : List ℕ) → Alike M C x y →
      Matched k M C q (access f p q o x a) (access f p q o y a)
  access_matched f p q o x y a r =
      matched_guard k M C q (ltb o (length a)) _ refl (λ _. matched_same k M C q f p r) (λ _. strayed_matched k M C q x y r)

  access_quiet : (f : Effect) (p : Reply) (q o : ℕ) (x : Core) (a : List ℕ) → M q ≡ false → Far M f → Quiet M C x (access f p q o x a)
  access_quiet f p q o x a h n =
      quiet_guard M C x (ltb o (length a)) (λ _. record { core = alike_refl M C x; effect = n }) (λ _. strayed_quiet M C k q x h)

  fault_matched : (q e : ℕ) (x y : Core) → Alike M C x y → Matched k M C q (fault k x q e) (fault k y q e)
  fault_matched q e x y r =
      matched_guard k M C q (ltb e 7) _ refl (λ _. faulted_matched k M C q e x y r) (λ _. matched_same k M C q keeps _ r)

  fault_quiet : (q e : ℕ) (x : Core) → M q ≡ false → Quiet M C x (fault k x q e)
  fault_quiet q e x h =
      quiet_guard M C x (ltb e 7) (λ _. faulted_quiet M C k q e x h) (λ _. quiet_core M C x _ (alike_refl M C x))

  -- nobody's event under a partition's number is refused on both sides
  running_alike : (q : ℕ) → (exists k q ≡ true → M q ≡ true) → (x y : Core) → Alike M C x y → running k x q ≡ running k y q
  running_alike q m x y r =
      elim (cases_Bool (exists k q)) [
        | inl e ↦
            ap₂ (λ (c : Clock) (p : Partition).
            exists k q && (names (holder (slots_of (plan k c.plan)) (c.time - c.start)) q && is_ready p.status))
            r.clock (r.parts.at q (m e))
        | inr e ↦ and_left (exists k q) _ e ∙ sym (and_left (exists k q) _ e)
      ]

  gate_matched : (q : ℕ) → (exists k q ≡ true → M q ≡ true) → (x y : Core) (u v : Out) → Alike M C x y →
      (M q ≡ true → Matched k M C q u v) → Matched k M C q (gate k x q u) (gate k y q v)
  gate_matched q m x y u v r h =
      matched_guard k M C q (running k x q) _ (running_alike q m x y r)
      (λ e. h (m (and_parts (exists k q) _ e).0))
      (λ _. matched_same k M C q keeps _ r)

  gate_quiet : (q : ℕ) (x : Core) (u : Out) → Quiet M C x u → Quiet M C x (gate k x q u)
  gate_quiet q x u h = quiet_guard M C x (running k x q) (λ _. h) (λ _. quiet_core M C x _ (alike_refl M C x))

-- whose event it is
module _ (k : Tables) (M : ℕ → Bool) (q : ℕ) where
  member : stays M (existing k q) ≡ true → exists k q ≡ true → M q ≡ true
  member h e = go (exists k q) h e
    where
      go : (b : Bool) → stays M (cond b (Some q) None) ≡ true → b ≡ true → M q ≡ true
      go true h e = h
      go false h e = absurd (both_ways false refl e)

  record Outsider : Type 0 where
    there : exists k q ≡ true
    out : M q ≡ false

  outsider : stays M (existing k q) ≡ false → Outsider
  outsider h = go (exists k q) refl h
    where
      go : (b : Bool) → exists k q ≡ b → stays M (cond b (Some q) None) ≡ false → Outsider
      go true e h = record { there = e; out = h }
      go false e h = absurd (both_ways true h refl)

  its : (p : ℕ) → names (existing k q) p ≡ true → q ≡ p
  its p h = go (exists k q) h
    where
      go : (b : Bool) → names (cond b (Some q) None) p ≡ true → q ≡ p
      go true h = eqb-true q p h
      go false h = absurd (both_ways false refl h)

module _ (k : Tables) (M C : ℕ → Bool) (w : Sealed k M C) where
  -- what a step does to a kept event: states stay alike, and each standard partition's own event is answered alike
  pub record Steady (e : Event) (s t : State) : Type 0 where
    pub state : Like M C (step k s e).state (step k t e).state
    pub reply : (p : ℕ) → is_system k p ≡ false → is_of k p e ≡ true → (step k s e).reply ≡ (step k t e).reply

  -- a halted system refuses on both sides
  abbrev halting : State → Out → Out
  halting s u = guard s.core.halted (refused s.core SystemHalted) u

  halting_matched : (q : ℕ) (s t : State) (u v : Out) → Like M C s t → Matched k M C q u v → Matched k M C q (halting s u) (halting t v)
  halting_matched q s t u v r h =
      matched_guard k M C q s.core.halted _ r.core.halted (λ _. matched_same k M C q keeps _ r.core) (λ _. h)

  halting_quiet : (s : State) (u : Out) → Quiet M C s.core u → Quiet M C s.core (halting s u)
  halting_quiet s u h =
      quiet_guard M C s.core s.core.halted (λ _. quiet_core M C s.core _ (alike_refl M C s.core)) (λ _. h)

  settled : (a q : ℕ) (s t : State) (u v : Out) → Like M C s t → Matched k M C q u v → Like M C (settle s a u).state (settle t a v).state
  settled a q s t u v r h =
      record {
        core = h.core;
        areas = subst (λ f. Agree M [] (applied u.effect a s.areas) (applied f a t.areas)) h.effect
            (agree_applied M u.effect a r.areas);
      }

  settled_quiet : (q : ℕ) (s : State) (u : Out) → M q ≡ false → Quiet M C s.core u → Like M C s (settle s q u).state
  settled_quiet q s u o h = record { core = h.core; areas = applied-out M u.effect q s.areas o h.effect }

  -- the one place where a member's two areas are made one
  acts : (f : Core → List ℕ → Out) (q : ℕ) → (exists k q ≡ true → M q ≡ true) → (s t : State) → Like M C s t →
      (M q ≡ true → (a : List ℕ) → Matched k M C q (f s.core a) (f t.core a)) →
      Matched k M C q
      (halting s (gate k s.core q (f s.core (area s.areas q))))
      (halting t (gate k t.core q (f t.core (area t.areas q))))
  acts f q m s t r h =
      halting_matched q s t _ _ r
      (gate_matched k M C q m s.core t.core _ _ r.core
      (λ e. subst (λ b. Matched k M C q (f s.core (area s.areas q)) (f t.core b)) (r.areas.at q e) (h e (area s.areas q))))

  said : (p q : ℕ) {u v : Out} → Matched k M C q u v → is_system k p ≡ false → names (existing k q) p ≡ true → u.reply ≡ v.reply
  said p q h n e = h.reply (ap (is_system k) (its k M q p e) ∙ n)

  pub step_steady : (e : Event) (s t : State) → kept k M e ≡ true → Like M C s t → Steady e s t
  step_steady (Tick i) s t m r =
      let h = halting_matched 0 s t _ _ r (tick_matched k M C 0 i s.core t.core r.core) in
      record { state = settled 0 0 s t _ _ r h; reply = λ p n e. absurd (both_ways false refl e) }
  step_steady (Call q n g) s t m r =
      let h = acts (λ x a. called n k x a q g) q (member k M q m) s t r
      (λ e a. (called_respects k M C w n).inside q e s.core t.core a g r.core) in
      record { state = settled q q s t _ _ r h; reply = λ p n e. said p q h n e }
  step_steady (Load q o) s t m r =
      let h = acts (λ x a. load k x a q o) q (member k M q m) s t r (λ e a. access_matched k M C _ _ q o s.core t.core a r.core) in
      record { state = settled q q s t _ _ r h; reply = λ p n e. said p q h n e }
  step_steady (Store q v o) s t m r =
      let h = acts (λ x a. store k x a q o v) q (member k M q m) s t r (λ e a. access_matched k M C _ _ q o s.core t.core a r.core) in
      record { state = settled q q s t _ _ r h; reply = λ p n e. said p q h n e }
  step_steady (Fault q f) s t m r =
      let h = acts (λ x a. fault k x q f) q (member k M q m) s t r (λ e a. fault_matched k M C q f s.core t.core r.core) in
      record { state = settled q q s t _ _ r h; reply = λ p n e. said p q h n e }
  step_steady (Line l) s t m r =
      let h = λ (p : ℕ). halting_matched p s t _ _ r (line_matched k M C w p l s.core t.core r.core) in
      record { state = settled 0 0 s t _ _ r (h 0); reply = λ p n e. (h p).reply n }
  step_steady (SystemFault f) s t m r =
      let h = halting_matched 0 s t _ _ r (system_fault_matched k M C 0 f s.core t.core r.core) in
      record { state = settled 0 0 s t _ _ r h; reply = λ p n e. absurd (both_ways false refl e) }

  -- a line leaves the areas alone
  line-areas : (x : Core) (ms : List Area) (l : ℕ) (b c : Bool) (o : Option ℕ) →
      Agree M [] ms (applied (guard b (refused x SystemHalted) (guard c (line_of o x l) (refused x InvalidParam))).effect 0 ms)
  line-areas x ms l true c o = agree_refl M [] ms
  line-areas x ms l false false o = agree_refl M [] ms
  line-areas x ms l false true None = agree_refl M [] ms
  line-areas x ms l false true (Some q) = agree_refl M [] ms

  outside-line : (l : ℕ) (o : Option ℕ) (b : Bool) → stays M (cond b o None) ≡ false → b ≡ true → stays M o ≡ false
  outside-line l o true h e = h
  outside-line l o false h e = absurd (both_ways true h refl)

  pub step_quiet : (e : Event) (s : State) → kept k M e ≡ false → Like M C s (step k s e).state
  step_quiet (Tick i) s h = absurd (both_ways true h refl)
  step_quiet (Call q n g) s h =
      let o = outsider k M q h in
      settled_quiet q s _ o.out
      (halting_quiet s _ (gate_quiet k M C q s.core _ ((called_respects k M C w n).outside q o.out o.there s.core (area s.areas q) g)))
  step_quiet (Load q i) s h =
      let o = outsider k M q h in
      settled_quiet q s _ o.out (halting_quiet s _ (gate_quiet k M C q s.core _ (access_quiet k M C _ _ q i s.core (area s.areas q) o.out tt)))
  step_quiet (Store q v i) s h =
      let o = outsider k M q h in
      settled_quiet q s _ o.out (halting_quiet s _ (gate_quiet k M C q s.core _ (access_quiet k M C _ _ q i s.core (area s.areas q) o.out tt)))
  step_quiet (Fault q f) s h =
      let o = outsider k M q h in
      settled_quiet q s _ o.out (halting_quiet s _ (gate_quiet k M C q s.core _ (fault_quiet k M C q f s.core o.out)))
  step_quiet (Line l) s h =
      record {
        core = (halting_quiet s _ (line_quiet k M C w l s.core (outside-line l (owner k l) (ltb l 16) h))).core;
        areas = line-areas s.core s.areas l s.core.halted (ltb l 16) (owner k l);
      }
  step_quiet (SystemFault f) s h = absurd (both_ways true h refl)
