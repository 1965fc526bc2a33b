-- What a partition's record keeps, whatever happens to it.
use Rattle.std.proofs.Common.{◌≡◌, ℕ, zero, suc, ◌+◌, ◌^◌, ◌<◌, ◌≤◌, Bool, true, false, not, eqb, List, [], ◌∷◌, get_or, set, replicate, slice_index_or, Some, None, Option, sym, refl, ap, ◌∙◌, subst, ⊎_elim, arith, cond}
use Rattle.std.proofs.lemmas.Bool.{both_ways, not-false, lt-ltb, cond_both}
use lib.Bits.{and_zero_l}
use Rattle.tables.specs.declared.Tables.{Tables}
use Rattle.tables.specs.Laws.{Lawful}
use Rattle.machine.specs.declared.partition.Status.{Status}
use Rattle.machine.specs.declared.partition.Status.TheVariants.{Halted, Ready, Idle, Suspended}
use Rattle.machine.specs.declared.partition.Partition.{Partition}
use Rattle.machine.specs.Partitions.{nobody, fresh, halted, with_status, suspended, resumed, opened, hidden, roused, woken, idled, noticed, signalled_at, signalled, bit, is_open, slot_started}
use Rattle.machine.specs.Questions.{exists, row, mask_of, link, owner, port}
use Rattle.machine.specs.Laws.{PortOf}
use Rattle.machine.proofs.Bits.{or_bit, has}
use Rattle.machine.specs.State.{modify}
use Rattle.machine.specs.Time.{each_from}
use Rattle.machine.specs.Ports.{message_bit, alert, alerted}
use Rattle.machine.specs.Interrupts.{hit, raised}

-- a partition that is there, where the vector is lawful
abbrev pub There : Tables → ℕ → Type 0
There k q = Lawful k → exists k q ≡ true

-- What the record of partition q keeps.
pub record Calm (k : Tables) (q : ℕ) (p : Partition) : Type 0 where
  pub none : p.status ≡ Halted → p.pending ≡ 0
  pub idle : p.status ≡ Idle → hidden p ≡ true
  pub own : (i : ℕ) → is_open i p ≡ true → PortOf k q i
  pub absent : Lawful k → exists k q ≡ false → q < 8 → p ≡ fresh

-- a change that keeps partition q calm
pub record Soothes (k : Tables) (q : ℕ) (f : Partition → Partition) : Type 0 where
  pub calm : (p : Partition) → Calm k q p → Calm k q (f p)

-- a status's place among the four
abbrev place : Status → ℕ
place Halted = 0
place Ready = 1
place Idle = 2
place Suspended = 3

differ : (s t : Status) → (place s ≡ place t → ⊥) → s ≡ t → ⊥
differ s t n e = n (ap place e)

not_open : (i : ℕ) → bit 0 i ≡ false
not_open i = ap (λ w. not (eqb w 0)) (and_zero_l (2 ^ i))

roused-halted : (s : Status) → roused s ≡ Halted → s ≡ Halted
roused-halted Halted e = refl
roused-halted Ready e = e
roused-halted Idle e = absurd (differ Ready Halted (λ n. omega arith) e)
roused-halted Suspended e = e

roused_idle : (s : Status) → roused s ≡ Idle → ⊥
roused_idle Halted e = differ Halted Idle (λ n. omega arith) e
roused_idle Ready e = differ Ready Idle (λ n. omega arith) e
roused_idle Idle e = differ Ready Idle (λ n. omega arith) e
roused_idle Suspended e = differ Suspended Idle (λ n. omega arith) e

module _ (k : Tables) (q : ℕ) where
  gone : {A : Type 0} → There k q → Lawful k → exists k q ≡ false → A
  gone t w e = absurd (both_ways (exists k q) e (t w))

  -- neither HALTED nor IDLE, and with the open ports of a calm one
  awake : {p r : Partition} → There k q → Calm k q p → r.ports ≡ p.ports → (r.status ≡ Halted → ⊥) → (r.status ≡ Idle → ⊥) → Calm k q r
  awake t h e m n =
      record {
        none = λ i. absurd (m i);
        idle = λ i. absurd (n i);
        own = λ i o. h.own i (subst (λ (w : ℕ). bit w i ≡ true) e o);
        absent = λ w i l. gone t w i;
      }

  pub calm-ready : {p r : Partition} → There k q → Calm k q p → r.ports ≡ p.ports → r.status ≡ Ready → Calm k q r
  calm-ready t h e s = awake t h e (λ i. differ Ready Halted (λ n. omega arith) (sym s ∙ i)) (λ i. differ Ready Idle (λ n. omega arith) (sym s ∙ i))

  -- nothing pending, no port open and not IDLE
  bare : (s : Status) (m : ℕ) → let p : Partition = record { status = s; pending = 0; mask = m; ports = 0 } in
      (s ≡ Idle → ⊥) → (Lawful k → exists k q ≡ false → q < 8 → p ≡ fresh) → Calm k q p
  bare s m n a = record { none = λ e. refl; idle = λ e. absurd (n e); own = λ i o. absurd (both_ways _ (not_open i) o); absent = a }

  pub calm-fresh : Calm k q fresh
  calm-fresh = bare Ready _ (differ Ready Idle (λ n. omega arith)) (λ w e l. refl)

  pub calm-nobody : 8 ≤ q → Calm k q nobody
  calm-nobody h = bare Halted 0 (differ Halted Idle (λ n. omega arith)) (λ w e l. absurd (omega arith))

  pub soothes_fresh : Soothes k q (λ _. fresh)
  soothes_fresh = record { calm = λ p h. calm-fresh }

  pub soothes_halted : There k q → Soothes k q halted
  soothes_halted t = record { calm = λ p h. bare Halted _ (differ Halted Idle (λ n. omega arith)) (λ w e l. gone t w e) }

  pub soothes_suspended : There k q → Soothes k q suspended
  soothes_suspended t =
      record { calm = λ p h. awake t h refl (differ Suspended Halted (λ n. omega arith)) (differ Suspended Idle (λ n. omega arith)) }

  pub soothes_resumed : There k q → Soothes k q resumed
  soothes_resumed t = record { calm = λ p h. calm-ready t h refl refl }

  pub soothes_idled : There k q → Soothes k q idled
  soothes_idled t =
      record {
        calm = λ p h.
            cond_both (hidden p) _ _ (Calm k q)
            (λ i.
            record {
              none = λ e. absurd (differ Idle Halted (λ n. omega arith) e);
              idle = λ _. i;
              own = h.own;
              absent = λ w e l. gone t w e;
            })
            (λ _. h);
      }

  pub soothes_opened : There k q → (i : ℕ) → PortOf k q i → Soothes k q (opened i)
  soothes_opened t i o =
      record {
        calm = λ p h.
            record {
              none = h.none;
              idle = h.idle;
              own = λ j e. ⊎_elim (λ b. h.own j b) (λ (d : j ≡ i). subst (PortOf k q) (sym d) o) (or_bit p.ports i j e);
              absent = λ w e l. gone t w e;
            };
      }

  calm-roused : {p : Partition} → Calm k q p → Calm k q (with_status (roused p.status) p)
  calm-roused {p} h =
      record {
        none = λ e. h.none (roused-halted p.status e);
        idle = λ e. absurd (roused_idle p.status e);
        own = h.own;
        absent = λ w e l. ap (λ (r : Partition). with_status (roused r.status) r) (h.absent w e l);
      }

  soothes_woken : (b : Bool) → Soothes k q (woken b)
  soothes_woken b = record { calm = λ p h. cond_both b _ _ (Calm k q) (λ _. calm-roused h) (λ _. h) }

  pub soothes_started : (b : Bool) → Soothes k q (λ p. cond b (slot_started p) p)
  soothes_started b = record { calm = λ p h. cond_both b _ _ (Calm k q) (λ _. (soothes_woken true).calm p h) (λ _. h) }

  calm-noticed : There k q → (p : Partition) → (p.status ≡ Halted → ⊥) → (own : (i : ℕ) → is_open i p ≡ true → PortOf k q i) → Calm k q (noticed p)
  calm-noticed t p n own =
      cond_both (not (hidden p)) _ _ (Calm k q)
      (λ _.
      record {
        none = λ e. absurd (n (roused-halted p.status e));
        idle = λ e. absurd (roused_idle p.status e);
        own = own;
        absent = λ w e l. gone t w e;
      })
      (λ i. record { none = λ e. absurd (n e); idle = λ _. not-false (hidden p) i; own = own; absent = λ w e l. gone t w e })

  calm-signalled_at : There k q → (bits : ℕ) (p : Partition) → Calm k q p → (s : Status) → p.status ≡ s → Calm k q (signalled_at s bits p)
  calm-signalled_at t bits p h Halted e = h
  calm-signalled_at t bits p h Ready e = calm-noticed t _ (λ i. differ Ready Halted (λ n. omega arith) (sym e ∙ i)) h.own
  calm-signalled_at t bits p h Idle e = calm-noticed t _ (λ i. differ Idle Halted (λ n. omega arith) (sym e ∙ i)) h.own
  calm-signalled_at t bits p h Suspended e = calm-noticed t _ (λ i. differ Suspended Halted (λ n. omega arith) (sym e ∙ i)) h.own

  pub soothes_signalled : There k q → (bits : ℕ) → Soothes k q (signalled bits)
  soothes_signalled t bits = record { calm = λ p h. calm-signalled_at t bits p h p.status refl }

-- what holds of a list's elements by their places
module _ {A : Type 0} where
  pub set-each : (P : ℕ → A → Type 0) (d : A) (xs : List A) (i q : ℕ) (v : A) → P i v → P q (get_or xs q d) → P q (get_or (set xs i v) q d)
  set-each P d [] i q v g h = h
  set-each P d (x ∷ xs) zero zero v g h = g
  set-each P d (x ∷ xs) zero (suc q) v g h = h
  set-each P d (x ∷ xs) (suc i) zero v g h = h
  set-each P d (x ∷ xs) (suc i) (suc q) v g h = set-each (λ j. P (suc j)) d xs i q v g h

  pub replicate-each : (P : A → Type 0) (d v : A) (n q : ℕ) → P v → (n ≤ q → P d) → P (get_or (replicate n v) q d)
  replicate-each P d v zero q g h = h (omega arith)
  replicate-each P d v (suc n) zero g h = g
  replicate-each P d v (suc n) (suc q) g h = replicate-each P d v n q g (λ l. h (omega arith))

pub record AllCalm (k : Tables) (ps : List Partition) : Type 0 where
  pub at : (q : ℕ) → Calm k q (get_or ps q nobody)

module _ (k : Tables) where
  pub calm-place : {ps : List Partition} → AllCalm k ps → (i : ℕ) {p : Partition} → Calm k i p → AllCalm k (set ps i p)
  calm-place {ps} r i {p} h = record { at = λ q. set-each (Calm k) nobody ps i q p h (r.at q) }

  pub calm-modify : {ps : List Partition} → AllCalm k ps → (i : ℕ) (f : Partition → Partition) → Soothes k i f → AllCalm k (modify ps i f)
  calm-modify {ps} r i f h = calm-place r i (h.calm (get_or ps i nobody) (r.at i))

  pub calm-begun : AllCalm k (replicate 8 fresh)
  calm-begun = record { at = λ q. replicate-each (Calm k q) nobody fresh 8 q (calm-fresh k q) (calm-nobody k q) }

  -- whom a link, a line or a port names is there
  linked : (q n d : ℕ) → bit (link k q n) d ≡ true → There k d
  linked q n d h w = go (slice_index_or (row k q).links n None) refl h
    where
      go : (o : Option ℕ) → slice_index_or (row k q).links n None ≡ o → bit (mask_of o) d ≡ true → exists k d ≡ true
      go None e b = absurd (both_ways _ (not_open d) b)
      go (Some m) e b = lt-ltb _ _ ((w.links q n m e).1 d (has m d b)).0

  pub owned : (l d : ℕ) → owner k l ≡ Some d → There k d
  owned l d e w = lt-ltb _ _ (w.lines l d e)

  belongs : (i : ℕ) → i < k.ports.count → There k (port k i).partition
  belongs i h w = lt-ltb _ _ (w.belong i h).0

  soothes_hit : (q n bits d : ℕ) → Soothes k d (hit (link k q n) bits d)
  soothes_hit q n bits d =
      record {
        calm = λ p h. cond_both (bit (link k q n) d) _ _ (Calm k d) (λ b. (soothes_signalled k d (linked q n d b) bits).calm p h) (λ _. h);
      }

  pub calm-raised : (q n bits m : ℕ) {ps : List Partition} → AllCalm k ps → AllCalm k (raised (link k q n) bits m ps)
  unfolding raised
  calm-raised q n bits zero r = r
  calm-raised q n bits (suc m) r = calm-modify (calm-raised q n bits m r) m (hit (link k q n) bits m) (soothes_hit q n bits m)

  soothes_alert : (c i : ℕ) → i < k.ports.count → Soothes k (port k i).partition (alert k c i)
  soothes_alert c i l =
      record {
        calm = λ p h. cond_both _ _ _ (Calm k (port k i).partition) (λ _. (soothes_signalled k _ (belongs i l) message_bit).calm p h) (λ _. h);
      }

  pub calm-alerted : (c n : ℕ) {ps : List Partition} → n ≤ k.ports.count → AllCalm k ps → AllCalm k (alerted k c n ps)
  unfolding alerted
  calm-alerted c zero l r = r
  calm-alerted c (suc n) l r =
      calm-modify (calm-alerted c n (omega arith) r) (port k n).partition (alert k c n) (soothes_alert c n (omega arith))

  each-calm : (f : ℕ → Partition → Partition) (j : ℕ) → ((i : ℕ) → Soothes k j (f i)) → (ps : List Partition) (i q : ℕ) →
      Calm k j (get_or ps q nobody) → Calm k j (get_or (each_from f i ps) q nobody)
  unfolding each_from
  each-calm f j s [] i q h = h
  each-calm f j s (p ∷ ps) i zero h = (s i).calm p h
  each-calm f j s (p ∷ ps) i (suc q) h = each-calm f j s ps (i + 1) q h

  pub calm-each : (f : ℕ → Partition → Partition) → ((j i : ℕ) → Soothes k j (f i)) → {ps : List Partition} → AllCalm k ps → AllCalm k (each_from f 0 ps)
  calm-each f s {ps} r = record { at = λ q. each-calm f q (s q) ps 0 q (r.at q) }

pub ruleset soothing =
    (soothes_fresh, soothes_halted, soothes_suspended, soothes_resumed, soothes_idled, soothes_opened, soothes_signalled)
