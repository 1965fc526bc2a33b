-- Time passes alike for machines that are alike.
use Rattle.std.proofs.Common.{◌≡◌, ℕ, zero, suc, ◌+◌, ◌-◌, Bool, ◌&&◌, leb, List, [], ◌∷◌, length, get_or, sym, refl, ap, ◌∙◌, subst, arith}
use Rattle.tables.specs.declared.Tables.{Tables}
use Rattle.tables.specs.Tables.{Plans}
use Rattle.machine.specs.declared.clock.Clock.{Clock}
use Rattle.machine.specs.declared.partition.Partition.{Partition}
use Rattle.machine.specs.Partitions.{nobody}
use Rattle.machine.specs.Questions.{slots_of}
use Rattle.machine.specs.State.{Core, keeps}
use Rattle.machine.specs.Time.{Timed, timed, plan_at, rolled, each_from, wakes, wake_at, micro, micros, farthest}
use Rattle.machine.specs.Step.{later, tick}
use Rattle.machine.proofs.Agree.{Agree}
use Rattle.machine.proofs.Alike.{Alike, Matched, matched_guard, matched_same}

each-length : (f : ℕ → Partition → Partition) (i : ℕ) (xs : List Partition) → length (each_from f i xs) ≡ length xs
unfolding each_from
each-length f i [] = refl
each-length f i (x ∷ xs) = ap suc (each-length f (i + 1) xs)

each_same : (f : ℕ → Partition → Partition) (i q : ℕ) (xs ys : List Partition) → length xs ≡ length ys →
    get_or xs q nobody ≡ get_or ys q nobody → get_or (each_from f i xs) q nobody ≡ get_or (each_from f i ys) q nobody
unfolding each_from
each_same f i q [] [] l e = refl
each_same f i q [] (y ∷ ys) l e = absurd (omega arith)
each_same f i q (x ∷ xs) [] l e = absurd (omega arith)
each_same f i zero (x ∷ xs) (y ∷ ys) l e = ap (f i) e
each_same f i (suc q) (x ∷ xs) (y ∷ ys) l e = each_same f (i + 1) q xs ys (omega arith) e

-- the same clock, and partitions that agree
record Synchronous (M : ℕ → Bool) (x y : Timed) : Type 0 where
  clock : x.clock ≡ y.clock
  parts : Agree M nobody x.parts y.parts

module _ (M : ℕ → Bool) (ps : Plans) where
  agree_each : (f : ℕ → Partition → Partition) {xs ys : List Partition} → Agree M nobody xs ys →
      Agree M nobody (each_from f 0 xs) (each_from f 0 ys)
  agree_each f {xs} {ys} r =
      record {
        long = each-length f 0 xs ∙ (r.long ∙ sym (each-length f 0 ys));
        at = λ q m. each_same f 0 q xs ys r.long (r.at q m);
      }

  micro_alike : (x y : Timed) → Synchronous M x y → Synchronous M (micro ps x) (micro ps y)
  unfolding micro wake_at
  micro_alike x y r =
      record {
        clock = ap (rolled ps) r.clock;
        parts = subst (λ c. Agree M nobody (due x x.clock) (due y c)) r.clock (agree_each _ r.parts);
      }
    where
      due : Timed → Clock → List Partition
      due z c = each_from (wakes (slots_of (plan_at ps (rolled ps c).plan)) ((rolled ps c).time - (rolled ps c).start)) 0 z.parts

  micros_alike : (n : ℕ) (x y : Timed) → Synchronous M x y → Synchronous M (micros ps n x) (micros ps n y)
  unfolding micros
  micros_alike zero x y r = r
  micros_alike (suc n) x y r = micros_alike n (micro ps x) (micro ps y) (micro_alike x y r)

module _ (k : Tables) (M C : ℕ → Bool) where
  later_alike : (n : ℕ) (x y : Core) → Alike M C x y → Alike M C (later k n x) (later k n y)
  later_alike n x y r =
      let h = micros_alike M k.plans n (timed x.clock x.parts) (timed y.clock y.parts) (record { clock = r.clock; parts = r.parts }) in
      record { clock = h.clock; halted = r.halted; parts = h.parts; chans = r.chans }

  pub tick_matched : (q t : ℕ) (x y : Core) → Alike M C x y → Matched k M C q (tick k x t) (tick k y t)
  tick_matched q t x y r =
      matched_guard k M C q _ _ (ap (λ (c : Clock). leb c.time t && leb (t - c.time) farthest) r.clock)
      (λ _. matched_same k M C q keeps _
      (subst (λ (c : Clock). Alike M C (later k (t - x.clock.time) x) (later k (t - c.time) y)) r.clock
      (later_alike (t - x.clock.time) x y r)))
      (λ _. matched_same k M C q keeps _ r)
