-- Two machines that the members of M, who see the channels of C, cannot tell apart.
use Rattle.std.proofs.Common.{◌≡◌, ℕ, Bool, true, false, List, [], get_or, set, sym, refl, ap, ◌∙◌}
use Rattle.std.proofs.lemmas.Bool.{both_ways}
use Rattle.tables.specs.declared.Tables.{Tables}
use Rattle.machine.specs.declared.partition.Partition.{Partition}
use Rattle.machine.specs.declared.clock.Clock.{Clock}
use Rattle.machine.specs.declared.log.Entry.{Entry}
use Rattle.machine.specs.declared.answer.Reply.{Reply}
use Rattle.machine.specs.Letters.{Letter}
use Rattle.machine.specs.Partitions.{nobody}
use Rattle.machine.specs.Questions.{is_system}
use Rattle.machine.specs.State.{Core, Effect, keeps, writes, clears, clears_all, Out, guard, with_clock, with_parts, with_chan, with_log, with_halted, modify}
use Rattle.machine.proofs.Agree.{Agree, agree_refl, agree_sym, agree_trans, agree_set, agree_out}

pub record Alike (M C : ℕ → Bool) (x y : Core) : Type 0 where
  pub clock : x.clock ≡ y.clock
  pub halted : x.halted ≡ y.halted
  pub parts : Agree M nobody x.parts y.parts
  pub chans : Agree C [] x.chans y.chans

-- the outcomes of one event of a member q
pub record Matched (k : Tables) (M C : ℕ → Bool) (q : ℕ) (u v : Out) : Type 0 where
  pub core : Alike M C u.core v.core
  pub effect : u.effect ≡ v.effect
  pub reply : is_system k q ≡ false → u.reply ≡ v.reply

-- no member's area is touched by an outsider's event
abbrev pub Far : (ℕ → Bool) → Effect → Type 0
Far M keeps = Unit {0}
Far M (writes a) = Unit {0}
Far M (clears t) = M t ≡ false
Far M (clears_all n) = ⊥

-- what an outsider's event leaves as it was
pub record Quiet (M C : ℕ → Bool) (x : Core) (u : Out) : Type 0 where
  pub core : Alike M C x u.core
  pub effect : Far M u.effect

module _ (M C : ℕ → Bool) where
  pub alike_refl : (x : Core) → Alike M C x x
  alike_refl x = record { clock = refl; halted = refl; parts = agree_refl M nobody x.parts; chans = agree_refl C [] x.chans }

  pub alike_sym : {x y : Core} → Alike M C x y → Alike M C y x
  alike_sym r =
      record {
        clock = sym r.clock;
        halted = sym r.halted;
        parts = agree_sym M nobody r.parts;
        chans = agree_sym C [] r.chans;
      }

  pub alike_trans : {x y z : Core} → Alike M C x y → Alike M C y z → Alike M C x z
  alike_trans r s =
      record {
        clock = r.clock ∙ s.clock;
        halted = r.halted ∙ s.halted;
        parts = agree_trans M nobody r.parts s.parts;
        chans = agree_trans C [] r.chans s.chans;
      }

  -- one lemma for each way in which an event changes the machine
  pub alike_clock : {x y : Core} {c d : Clock} → Alike M C x y → c ≡ d → Alike M C (with_clock x c) (with_clock y d)
  alike_clock r e = record { clock = e; halted = r.halted; parts = r.parts; chans = r.chans }

  pub alike_parts : {x y : Core} {ps rs : List Partition} → Alike M C x y → Agree M nobody ps rs →
      Alike M C (with_parts x ps) (with_parts y rs)
  alike_parts r e = record { clock = r.clock; halted = r.halted; parts = e; chans = r.chans }

  pub alike_chan : {x y : Core} → Alike M C x y → (c : ℕ) {ms ns : List Letter} → ms ≡ ns → Alike M C (with_chan x c ms) (with_chan y c ns)
  alike_chan r c {ms} {ns} e =
      record { clock = r.clock; halted = r.halted; parts = r.parts; chans = agree_set C [] r.chans c ms ns (λ _. e) }

  pub alike_log : {x y : Core} → Alike M C x y → (e f : List Entry) → Alike M C (with_log x e) (with_log y f)
  alike_log r e f = record { clock = r.clock; halted = r.halted; parts = r.parts; chans = r.chans }

  pub alike_halted : {x y : Core} → Alike M C x y → (b : Bool) → Alike M C (with_halted x b) (with_halted y b)
  alike_halted r b = record { clock = r.clock; halted = refl; parts = r.parts; chans = r.chans }

  -- and one for each way in which an outsider's does
  pub chan_out : {x y : Core} → Alike M C x y → (c : ℕ) (ms : List Letter) → C c ≡ false → Alike M C x (with_chan y c ms)
  chan_out {x} {y} r c ms o =
      record {
        clock = r.clock;
        halted = r.halted;
        parts = r.parts;
        chans = agree_trans C [] r.chans (agree_out C [] y.chans c ms o);
      }

  pub parts_out : {x y : Core} {ps : List Partition} → Alike M C x y → Agree M nobody y.parts ps → Alike M C x (with_parts y ps)
  parts_out r e = record { clock = r.clock; halted = r.halted; parts = agree_trans M nobody r.parts e; chans = r.chans }

  pub agree_modify : {ps rs : List Partition} → Agree M nobody ps rs → (i : ℕ) (f : Partition → Partition) →
      Agree M nobody (modify ps i f) (modify rs i f)
  agree_modify {ps} {rs} r i f = agree_set M nobody r i (f (get_or ps i nobody)) (f (get_or rs i nobody)) (λ h. ap f (r.at i h))

  pub agree_place : {ps rs : List Partition} → Agree M nobody ps rs → (i : ℕ) (p : Partition) → Agree M nobody (set ps i p) (set rs i p)
  agree_place r i p = agree_set M nobody r i p p (λ _. refl)

  -- an outsider's event: a guard, nothing done, the own area written, an area cleared
  pub quiet_guard : (x : Core) (b : Bool) {u v : Out} →
      (b ≡ true → Quiet M C x u) → (b ≡ false → Quiet M C x v) → Quiet M C x (guard b u v)
  quiet_guard x true f g = f refl
  quiet_guard x false f g = g refl

  pub quiet_core : (x : Core) {y : Core} (r : Reply) → Alike M C x y → Quiet M C x (record { core = y; effect = keeps; reply = r })
  quiet_core x r h = record { core = h; effect = tt }

  pub quiet_writes : (x : Core) {y : Core} (a : List ℕ) (r : Reply) → Alike M C x y → Quiet M C x (record { core = y; effect = writes a; reply = r })
  quiet_writes x a r h = record { core = h; effect = tt }

  pub quiet_clears : (x : Core) {y : Core} (t : ℕ) (r : Reply) → Alike M C x y → M t ≡ false → Quiet M C x (record { core = y; effect = clears t; reply = r })
  quiet_clears x t r h o = record { core = h; effect = o }

-- a member's event
module _ (k : Tables) (M C : ℕ → Bool) (q : ℕ) where
  pub matched_guard : (b c : Bool) {u v u' v' : Out} → b ≡ c →
      (b ≡ true → Matched k M C q u u') → (b ≡ false → Matched k M C q v v') → Matched k M C q (guard b u v) (guard c u' v')
  matched_guard true true e f g = f refl
  matched_guard false false e f g = g refl
  matched_guard true false e f g = absurd (both_ways true e refl)
  matched_guard false true e f g = absurd (both_ways false refl e)

  pub matched_same : {x y : Core} (f : Effect) (r : Reply) → Alike M C x y →
      Matched k M C q (record { core = x; effect = f; reply = r }) (record { core = y; effect = f; reply = r })
  matched_same f r h = record { core = h; effect = refl; reply = λ _. refl }

  pub matched_told : {x y : Core} {f g : Effect} {r s : Reply} → Alike M C x y → f ≡ g → r ≡ s →
      Matched k M C q (record { core = x; effect = f; reply = r }) (record { core = y; effect = g; reply = s })
  matched_told h e d = record { core = h; effect = e; reply = λ _. d }

  -- a system partition may be answered differently on the two sides
  pub matched_system : {x y : Core} (f : Effect) (r s : Reply) → is_system k q ≡ true → Alike M C x y →
      Matched k M C q (record { core = x; effect = f; reply = r }) (record { core = y; effect = f; reply = s })
  matched_system f r s e h = record { core = h; effect = refl; reply = λ o. absurd (both_ways (is_system k q) o e) }

  -- .. and one side may be refused, as long as the members see nothing of it
  pub matched_far : {x y : Core} (b c : Bool) {u v u' v' : Core} (r s : Reply) → is_system k q ≡ true → Alike M C x y →
      Alike M C x u → Alike M C x v → Alike M C y u' → Alike M C y v' →
      Matched k M C q
      (guard b (record { core = u; effect = keeps; reply = r }) (record { core = v; effect = keeps; reply = s }))
      (guard c (record { core = u'; effect = keeps; reply = r }) (record { core = v'; effect = keeps; reply = s }))
  matched_far true true r s e h f g f' g' = matched_system keeps r r e (alike_trans M C (alike_sym M C f) (alike_trans M C h f'))
  matched_far true false r s e h f g f' g' = matched_system keeps r s e (alike_trans M C (alike_sym M C f) (alike_trans M C h g'))
  matched_far false true r s e h f g f' g' = matched_system keeps s r e (alike_trans M C (alike_sym M C g) (alike_trans M C h f'))
  matched_far false false r s e h f g f' g' = matched_system keeps s s e (alike_trans M C (alike_sym M C g) (alike_trans M C h g'))

pub ruleset within = (matched_guard, matched_same, alike_parts, alike_chan, alike_log, alike_halted, alike_clock, agree_modify, agree_place)

pub ruleset without = (quiet_guard, quiet_core, quiet_writes, quiet_clears, parts_out, chan_out, agree_out, alike_refl)
