-- What is true of the outcome of every event: one walk over the calls, the faults and the rest.
use Rattle.std.proofs.Common.{◌≡◌, ℕ, ◌-◌, Bool, true, false, ◌&&◌, ◌||◌, eqb, ltb, List, get_or, pos, negsuc, Some, None, Option, Ok, Err, sym, refl, subst, inl, inr, arith}
use Rattle.std.proofs.lemmas.Bool.{both_ways, and_right, or_cases, or_left, eqb-true, cond-true, cond_both}
use Rattle.board.specs.Areas.{area}
use Rattle.tables.specs.declared.Tables.{Tables}
use Rattle.tables.specs.declared.response.Response.{Response}
use Rattle.tables.specs.declared.response.Scope.{Scope}
use Rattle.tables.specs.declared.response.Scope.TheVariants.{Partition, System}
use Rattle.tables.specs.declared.response.Action.{Action}
use Rattle.tables.specs.declared.response.Action.TheVariants.{Ignore, Signal, Suspend, Halt, WarmReset, ColdReset}
use Rattle.tables.specs.declared.channel.ChannelKind.{ChannelKind}
use Rattle.tables.specs.declared.channel.ChannelKind.TheVariants.{Sampling, Queuing}
use Rattle.machine.specs.declared.log.Entry.{Entry}
use Rattle.machine.specs.declared.partition.Status.TheVariants.{Ready}
use Rattle.machine.specs.declared.answer.Refusal.{Refusal}
use Rattle.machine.specs.declared.answer.Refusal.TheVariants.{UnknownHypercall, SystemHalted}
use Rattle.machine.specs.declared.event.Event.{Event}
use Rattle.machine.specs.declared.event.Event.TheVariants.{Tick, Call, Load, Store, Fault, Line, SystemFault}
use Rattle.machine.specs.declared.event.Hypercall.{Hypercall}
use Rattle.machine.specs.declared.event.Hypercall.TheVariants.{GetTime}
use Rattle.machine.specs.Answers.{reply}
use Rattle.machine.specs.Letters.{Letter}
use Rattle.machine.specs.Questions.{exists, is_system, manages, response, owner}
use Rattle.machine.specs.State.{Core, State, Effect, keeps, writes, clears, clears_all, Out, refused, guard}
use Rattle.machine.specs.Time.{timed}
use Rattle.machine.specs.Faults.{logged, carried, faulted, is_systems, system_response, system_carried, system_faulted}
use Rattle.machine.specs.Management.{arg}
use Rattle.machine.specs.Partitions.{nobody, masked, unmasked, acknowledged}
use Rattle.machine.specs.Ports.{nameable, sought, create_at, sampled, taken}
use Rattle.machine.specs.Interrupts.{line_of}
use Rattle.machine.specs.Monitor.{read}
use Rattle.machine.specs.Calls.{perform, calls, attempted, called, call_count}
use Rattle.machine.specs.Step.{running, gate, author, outcome}
use Rattle.machine.specs.Laws.{PortOf, is_reset, resets, replans, Planned}
use Rattle.machine.specs.Isolation.{existing, whose}
use Rattle.machine.specs.Integrity.{is_cold, is_cold_reset, is_cold_action, is_cold_fault}
use Rattle.machine.proofs.Numbered.{From, none, ◌also◌, numbered}
use Rattle.machine.proofs.Passing.{micros-plan}
use Rattle.machine.proofs.Calm.{There, owned}
use Rattle.machine.proofs.Names.{named-own, none-not}
use Rattle.machine.proofs.Schedules.{scheduled}
use Rattle.machine.proofs.Sane.{Sane, sane_ready, later_sane, logged_sane, sane}

-- an effect on the area of o alone, where p's area is the one that is written
abbrev pub Mine : ℕ → Option ℕ → Effect → Type 0
Mine p o keeps = Unit {0}
Mine p o (writes a) = o ≡ Some p
Mine p o (clears t) = o ≡ Some t
Mine p o (clears_all n) = ⊥

-- An outcome u of o's event, written by p, in a machine x. A negative code moves nothing; the plan stays, unless the event replans;
-- no area but o's is touched, unless the event reaches others; and a sane machine stays sane.
pub record Tame (k : Tables) (p : ℕ) (o : Option ℕ) (replan reach : Bool) (x : Core) (u : Out) : Type 0 where
  pub core : (n : ℕ) → u.reply.code ≡ negsuc n → u.core ≡ x
  pub effect : (n : ℕ) → u.reply.code ≡ negsuc n → u.effect ≡ keeps
  pub plan : replan ≡ false → u.core.clock.plan ≡ x.clock.plan
  pub own : reach ≡ false → Mine p o u.effect
  pub sane : Sane k x → Sane k u.core

not_negative : (z n : ℕ) → pos z ≡ negsuc n → ⊥
not_negative z n e = let w : ◌≡◌ {A = ℕ} 0 1 = cc in omega arith

module _ (k : Tables) (p : ℕ) (o : Option ℕ) (replan reach : Bool) (x : Core) where
  tame_guard : (b : Bool) {u v : Out} → (b ≡ true → Tame k p o replan reach x u) → (b ≡ false → Tame k p o replan reach x v) →
      Tame k p o replan reach x (guard b u v)
  tame_guard true f g = f refl
  tame_guard false f g = g refl

  tame_refused : (r : Refusal) → Tame k p o replan reach x (refused x r)
  tame_refused r = record { core = λ n e. refl; effect = λ n e. refl; plan = λ _. refl; own = λ _. tt; sane = λ h. h }

  -- every other code is not negative
  tame_told : {y : Core} {f : Effect} (z m n : ℕ) → (replan ≡ false → y.clock.plan ≡ x.clock.plan) → (reach ≡ false → Mine p o f) →
      (Sane k x → Sane k y) → Tame k p o replan reach x (record { core = y; effect = f; reply = reply (pos z) m n })
  tame_told z m n e f h =
      record { core = λ i e. absurd (not_negative z i e); effect = λ i e. absurd (not_negative z i e); plan = e; own = f; sane = h }

ruleset tame = (tame_guard, tame_refused, tame_told, sane)

logged-plan : (c : Scope) (e : ℕ) (r : Response) (x : Core) → (logged c e r x).clock.plan ≡ x.clock.plan
logged-plan c e r x = cond_both r.log _ _ (λ (y : Core). y.clock.plan ≡ x.clock.plan) (λ _. refl) (λ _. refl)

module _ (k : Tables) (b c : Bool) (x : Core) where
  carried_tame : (a : Action) (q : ℕ) (y : Core) → exists k q ≡ true → y.clock.plan ≡ x.clock.plan → (Sane k x → Sane k y) →
      Tame k q (Some q) b c x (carried a q y)
  carried_tame Ignore q y t e h = search tame depth 8
  carried_tame Signal q y t e h = search tame depth 8
  carried_tame Suspend q y t e h = search tame depth 8
  carried_tame Halt q y t e h = search tame depth 8
  carried_tame WarmReset q y t e h = search tame depth 8
  carried_tame ColdReset q y t e h = search tame depth 8

  faulted_tame : (q e : ℕ) → exists k q ≡ true → Tame k q (Some q) b c x (faulted k x q e)
  faulted_tame q e t =
      carried_tame (response k q e).action q _ t (logged-plan (Partition q) e (response k q e) x) (logged_sane k x (Partition q) e (response k q e))

  create_at_tame : (o : Option ℕ) (t : ChannelKind) (q : ℕ) (g : List ℕ) → exists k q ≡ true → ((i : ℕ) → o ≡ Some i → PortOf k q i) →
      Tame k q (Some q) b c x (create_at o t k x q g)
  create_at_tame None t q g z p = search tame
  create_at_tame (Some i) t q g z p = let w = p i refl in search tame depth 8

  sampled_tame : (o : Option Letter) (a : List ℕ) (q : ℕ) (g : List ℕ) → Tame k q (Some q) b c x (sampled x a g o)
  sampled_tame None a q g = search tame
  sampled_tame (Some m) a q g = search tame

  taken_tame : (o : Option Letter) (a : List ℕ) (q : ℕ) (g : List ℕ) → Tame k q (Some q) b c x (taken k x a g o)
  taken_tame None a q g = search tame
  taken_tame (Some m) a q g = search tame

  read_tame : (o : Option Entry) (q : ℕ) → Tame k q (Some q) b c x (read x o)
  read_tame None q = search tame
  read_tame (Some e) q = search tame

  line_of_tame : (o : Option ℕ) (p : ℕ) (w : Option ℕ) (l : ℕ) → ((q : ℕ) → o ≡ Some q → There k q) → Tame k p w b c x (line_of o x l)
  line_of_tame None p w l t = search tame
  line_of_tame (Some q) p w l t = let z = t q refl in search tame depth 8

never : {A : Type 0} → true ≡ false → A
never e = absurd (both_ways true e refl)

-- a fault of the system replans by a reset alone, and reaches areas by a cold one alone
system_carried_tame : (k : Tables) (p : ℕ) (o : Option ℕ) (a : Action) (x y : Core) → y.clock.plan ≡ x.clock.plan → (Sane k x → Sane k y) →
    Tame k p o (resets a) (is_cold_action a || false) x (system_carried k a y)
system_carried_tame k p o Ignore x y e h = search tame depth 8
system_carried_tame k p o Signal x y e h = search tame depth 8
system_carried_tame k p o Suspend x y e h = search tame depth 8
system_carried_tame k p o Halt x y e h = search tame depth 8
system_carried_tame k p o WarmReset x y e h = let z = never {A = 0 ≡ x.clock.plan} in search tame depth 8
system_carried_tame k p o ColdReset x y e h = let z = never {A = 0 ≡ x.clock.plan} in let w = never {A = ⊥} in search tame depth 8

ruleset parts = (faulted_tame, sampled_tame, taken_tame, read_tame)

-- the port that is sought is the caller's own
sought-own : (k : Tables) (a : List ℕ) (q : ℕ) (t : ChannelKind) (g : List ℕ) (i : ℕ) → sought k a q t g ≡ Some i → PortOf k q i
sought-own k a q t g i =
    cond_both (nameable a g) _ _ (λ o. o ≡ Some i → PortOf k q i)
    (λ _. named-own k q t _ i)
    (λ _ (e : ◌≡◌ {A = Option ℕ} None (Some i)). absurd (none-not i e))

-- a call of this number: a system partition's system reset replans, and its cold reset reaches others
abbrev Called : ℕ → Hypercall → Type 0
Called n h = (k : Tables) (x : Core) (a : List ℕ) (q : ℕ) (g : List ℕ) → exists k q ≡ true → (get_or x.parts q nobody).status ≡ Ready →
    Tame k q (Some q) (is_system k q && is_reset n g) (is_system k q && is_cold n g) x (perform h k x a q g)

-- where a system partition is free to do what others may not
free : {A : Type 0} (a b : Bool) → a ≡ true → b ≡ true → (a && b) ≡ false → A
free true b s e n = absurd (both_ways b n e)
free false b s e n = absurd (both_ways false refl s)

-- a cold reset of a partition (5), unless by a system partition, clears the caller's own area
cold_own : (k : Tables) (q : ℕ) (g : List ℕ) → manages k q (arg g 0) ≡ true → eqb (arg g 1) 1 ≡ true → (is_system k q && is_cold 5 g) ≡ false →
    ◌≡◌ {A = Option ℕ} (Some q) (Some (arg g 0))
cold_own k q g m e c =
    elim (or_cases (is_system k q) (eqb (arg g 0) q) m) [
      | inl s ↦ free (is_system k q) (is_cold 5 g) s (or_left (eqb (arg g 1) 1) _ e) c
      | inr s ↦ let i = eqb-true (arg g 0) q s in cc
    ]

all_tame : From Called 0 calls
all_tame =
    -- 0 to 8: time, partitions, plans
    (λ k x a q g t r. search tame)
    also (λ k x a q g t r. search tame)
    also (λ k x a q g t r. search tame depth 10)
    also (λ k x a q g t r. search tame depth 10)
    also (λ k x a q g t r. search tame depth 10)
    also (λ k x a q g t r. let h = cold_own k q g in search tame depth 12)
    also (λ k x a q g t r. search tame depth 8)
    also (λ k x a q g t r. search tame depth 8)
    also (λ k x a q g t r. search tame)
    -- 9 to 15: ports
    also (λ k x a q g t r. create_at_tame k _ _ x (sought k a q Sampling g) Sampling q g t (sought-own k a q Sampling g))
    also (λ k x a q g t r. search tame depth 8)
    also (λ k x a q g t r. search (tame, parts))
    also (λ k x a q g t r. create_at_tame k _ _ x (sought k a q Queuing g) Queuing q g t (sought-own k a q Queuing g))
    also (λ k x a q g t r. search tame depth 8)
    also (λ k x a q g t r. search (tame, parts))
    also (λ k x a q g t r. search tame)
    -- 16 to 20: interrupts
    also (λ k x a q g t r. search tame depth 8)
    also (λ k x a q g t r. search tame)
    also (λ k x a q g t r. let h = sane_ready k x q (masked (arg g 0)) t r refl in search tame depth 8)
    also (λ k x a q g t r. let h = sane_ready k x q (unmasked (arg g 0)) t r refl in search tame depth 8)
    also (λ k x a q g t r. let h = sane_ready k x q (acknowledged (arg g 0)) t r refl in search tame depth 8)
    -- 21 to 24: the health monitor, the log, the system
    also (λ k x a q g t r. search (tame, parts))
    also (λ k x a q g t r. search (tame, parts))
    also (λ k x a q g t r.
    let plan = free {A = 0 ≡ x.clock.plan} (is_system k q) (is_reset 23 g) in
    let areas = free {A = ⊥} (is_system k q) (is_cold 23 g) in
    search tame depth 10)
    also (λ k x a q g t r. search tame depth 8)
    also none

called_tame : (k : Tables) (x : Core) (n : ℕ) (a : List ℕ) (q : ℕ) (g : List ℕ) → exists k q ≡ true → (get_or x.parts q nobody).status ≡ Ready →
    Tame k q (Some q) (is_system k q && is_reset n g) (is_system k q && is_cold n g) x (called n k x a q g)
called_tame k x n a q g t r =
    cond_both (ltb n call_count) (Ok (get_or calls n GetTime)) (Err UnknownHypercall)
    (λ c. Tame k q (Some q) (is_system k q && is_reset n g) (is_system k q && is_cold n g) x (attempted c k x a q g))
    (λ _. numbered Called (λ n k x a q g t r. search tame) all_tame n k x a q g t r)
    (λ _. tame_refused k q (Some q) _ _ x UnknownHypercall)

-- who is on the processor exists and is READY, and nobody else replans
gate_tame : (k : Tables) (b c : Bool) (x : Core) (q : ℕ) {u : Out} →
    (exists k q ≡ true → (get_or x.parts q nobody).status ≡ Ready → Tame k q (Some q) b c x u) →
    Tame k q (existing k q) (running k x q && b) c x (gate k x q u)
gate_tame k b c x q {u} h =
    tame_guard k q (existing k q) (running k x q && b) c x (running k x q)
    (λ e.
    let w = scheduled k x q e in
    subst (λ r. Tame k q (existing k q) (r && b) c x u) (sym e)
    (subst (λ o. Tame k q o b c x u) (sym (cond-true (exists k q) (Some q) None w.there)) (h w.there w.ready)))
    (λ _. search tame)

-- .. and where the event itself does not replan
still_tame : (k : Tables) (c : Bool) (x : Core) (q : ℕ) {u : Out} →
    (exists k q ≡ true → (get_or x.parts q nobody).status ≡ Ready → Tame k q (Some q) false c x u) →
    Tame k q (existing k q) false c x (gate k x q u)
still_tame k c x q {u} h =
    subst (λ b. Tame k q (existing k q) b c x (gate k x q u)) (and_right (running k x q) false refl) (gate_tame k false c x q h)

outcome_tame : (k : Tables) (s : State) (e : Event) →
    Tame k (author e) (whose k e) (replans k s e) (is_cold_fault k e || is_cold_reset k e) s.core (outcome k s e)
outcome_tame k s (Tick t) =
    let n = t - s.core.clock.time in
    let h = later_sane k s.core n in
    let e = micros-plan k.plans n (timed s.core.clock s.core.parts) in
    search tame
outcome_tame k s (Call q n g) =
    gate_tame k _ _ s.core q
    (called_tame k s.core n (area s.areas q) q g)
outcome_tame k s (Load q o) = still_tame k _ s.core q (λ t _. let h = faulted_tame k false false s.core q 6 t in search tame)
outcome_tame k s (Store q v o) = still_tame k _ s.core q (λ t _. let h = faulted_tame k false false s.core q 6 t in search tame)
outcome_tame k s (Fault q e) = still_tame k _ s.core q (λ t _. search (tame, parts))
outcome_tame k s (Line l) = let h = line_of_tame k false false s.core (owner k l) 0 (whose k (Line l)) l (owned k l) in search tame
outcome_tame k s (SystemFault e) =
    let r = system_response k e in
    let c = is_systems e in
    let h = system_carried_tame k 0 None r.action s.core _ (logged-plan System e r s.core) (logged_sane k s.core System e r) in
    tame_guard k 0 None (c && resets r.action) ((c && is_cold_action r.action) || false) s.core c
    (λ i.
    subst (λ b. Tame k 0 None (b && resets r.action) ((b && is_cold_action r.action) || false) s.core (system_faulted k s.core e)) (sym i) h)
    (λ _. search tame)

-- .. in a system that runs or is halted
pub tamed : (k : Tables) (s : State) (e : Event) →
    Tame k (author e) (whose k e) (replans k s e) (is_cold_fault k e || is_cold_reset k e) s.core
    (guard s.core.halted (refused s.core SystemHalted) (outcome k s e))
tamed k s e = let h = outcome_tame k s e in search tame

pub planned : (k : Tables) (s : State) (e : Event) → Planned k s e
planned k s e = (tamed k s e).plan
