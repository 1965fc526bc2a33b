-- The algebra of waking: ranges of offsets join, and a range within another adds nothing.
use Rattle.std.proofs.Common.{◌≡◌, ℕ, zero, suc, ◌+◌, ◌<◌, ◌≤◌, Bool, true, false, ◌&&◌, ◌||◌, eqb, ◌≢◌, List, [], ◌∷◌, ◌++◌, length, get_or, take, set, sym, refl, ap, ap₂, ◌∙◌, arith, cond}
use Rattle.std.specs.List.{list_any}
use Rattle.std.proofs.Math.Bool.{or-false, or_assoc, and-false, and-or_distrib_left}
use Rattle.std.proofs.lemmas.Bool.{both_ways, or_parts, eq-eqb, ne_eqb}
use Rattle.std.proofs.lemmas.Bool.Decides.{nat_tests}
use Rattle.std.proofs.lemmas.List.{take_more}
use Rattle.tables.specs.declared.plan.Slot.{Slot}
use Rattle.machine.specs.declared.partition.Status.{Status}
use Rattle.machine.specs.declared.partition.Status.TheVariants.{Halted, Ready, Idle, Suspended}
use Rattle.machine.specs.declared.partition.Partition.{Partition}
use Rattle.machine.specs.Partitions.{with_status, is_idle, roused, slot_started}
use Rattle.machine.specs.Time.{due_at, each_from, wakes, wake_at}
use Rattle.clock.specs.Ranges.{sleeps, within, begins, starts, wakes_in, wake}

or_swap : (x a y b : Bool) → (x || a) || (y || b) ≡ (x || y) || (a || b)
or_swap true a y b = refl
or_swap false true true b = refl
or_swap false true false b = refl
or_swap false false y b = refl

begins_both : (s : Slot) (a b c d e f q : ℕ) → ((o : ℕ) → (within a b o || within c d o) ≡ within e f o) → (begins s a b q || begins s c d q) ≡ begins s e f q
begins_both s a b c d e f q h =
    sym (and-or_distrib_left (eqb s.partition q) (within a b s.start) (within c d s.start)) ∙ ap (λ z. eqb s.partition q && z) (h s.start)

-- what holds of each offset holds of the slots: two ranges that make up a third
starts_both : (ss : List Slot) (a b c d e f q : ℕ) → ((o : ℕ) → (within a b o || within c d o) ≡ within e f o) →
    (starts ss a b q || starts ss c d q) ≡ starts ss e f q
unfolding starts
starts_both [] a b c d e f q h = refl
starts_both (s ∷ ss) a b c d e f q h =
    or_swap (begins s a b q) (starts ss a b q) (begins s c d q) (starts ss c d q)
    ∙ ap (λ z. z || (starts ss a b q || starts ss c d q)) (begins_both s a b c d e f q h)
    ∙ ap (λ z. begins s e f q || z) (starts_both ss a b c d e f q h)

-- .. and a range that is empty
starts_none : (ss : List Slot) (a b q : ℕ) → ((o : ℕ) → within a b o ≡ false) → starts ss a b q ≡ false
unfolding starts
starts_none [] a b q h = refl
starts_none (s ∷ ss) a b q h =
    ap (λ z. (eqb s.partition q && z) || starts ss a b q) (h s.start)
    ∙ ap (λ z. z || starts ss a b q) (and-false (eqb s.partition q))
    ∙ starts_none ss a b q h

-- .. and a range of one
starts-one : (ss : List Slot) (o q : ℕ) → due_at ss q o ≡ starts ss o (o + 1) q
unfolding due_at starts
starts-one [] o q = refl
starts-one (s ∷ ss) o q =
    let e : eqb s.start o ≡ within o (o + 1) s.start = grind (arith, nat_tests) in
    ap (λ z. (eqb s.partition q && z) || due_at ss q o) e ∙ ap (λ z. begins s o (o + 1) q || z) (starts-one ss o q)

-- one slot more
starts-push : (ss : List Slot) (s : Slot) (a b q : ℕ) → starts (ss ++ s ∷ []) a b q ≡ (starts ss a b q || begins s a b q)
unfolding starts
starts-push [] s a b q = or-false (begins s a b q)
starts-push (x ∷ ss) s a b q = ap (λ z. begins x a b q || z) (starts-push ss s a b q) ∙ sym (or_assoc (begins x a b q) (starts ss a b q) (begins s a b q))

roused_twice : (s : Status) → roused (roused s) ≡ roused s
roused_twice Halted = refl
roused_twice Ready = refl
roused_twice Idle = refl
roused_twice Suspended = refl

-- a slot that starts twice has started
slot_started_twice : (p : Partition) → slot_started (slot_started p) ≡ slot_started p
slot_started_twice p = ap (λ s. with_status s p) (roused_twice p.status)

-- a partition whose slot starts where the test says so
abbrev pub started : Bool → Partition → Partition
started b p = cond b (slot_started p) p

started_twice : (x y : Bool) (p : Partition) → started x (started y p) ≡ started (y || x) p
started_twice true true p = slot_started_twice p
started_twice true false p = refl
started_twice false true p = refl
started_twice false false p = refl

each_join : (f g : ℕ → Partition → Partition) (i : ℕ) (ps : List Partition) → each_from f i (each_from g i ps) ≡ each_from (λ q p. f q (g q p)) i ps
unfolding each_from
each_join f g i [] = refl
each_join f g i (p ∷ ps) = ap (λ z. f i (g i p) ∷ z) (each_join f g (i + 1) ps)

each_same : (f g : ℕ → Partition → Partition) → ((q : ℕ) (p : Partition) → f q p ≡ g q p) → (i : ℕ) (ps : List Partition) → each_from f i ps ≡ each_from g i ps
unfolding each_from
each_same f g e i [] = refl
each_same f g e i (p ∷ ps) = ap (λ z. z ∷ each_from f (i + 1) ps) (e i p) ∙ ap (λ z. g i p ∷ z) (each_same f g e (i + 1) ps)

each_none : (f : ℕ → Partition → Partition) (i : ℕ) (ps : List Partition) → ((q : ℕ) (p : Partition) → i ≤ q → f q p ≡ p) → each_from f i ps ≡ ps
unfolding each_from
each_none f i [] e = refl
each_none f i (p ∷ ps) e =
    ap (λ z. z ∷ each_from f (i + 1) ps) (e i p (omega arith)) ∙ ap (λ z. p ∷ z) (each_none f (i + 1) ps (λ q x l. e q x (omega arith)))

-- where it changes one partition only
each_set : (f : ℕ → Partition → Partition) (i k : ℕ) (ps : List Partition) (d : Partition) → ((q : ℕ) (p : Partition) → q ≢ i + k → f q p ≡ p) →
    each_from f i ps ≡ set ps k (f (i + k) (get_or ps k d))
unfolding each_from
each_set f i k [] d e = refl
each_set f i zero (p ∷ ps) d e =
    let a : i ≡ i + zero = omega arith in
    ap (λ z. f z p ∷ each_from f (i + 1) ps) a ∙ ap (λ z. f (i + zero) p ∷ z) (each_none f (i + 1) ps (λ q x l. e q x (λ m. omega arith)))
each_set f i (suc k) (p ∷ ps) d e =
    let a : i + 1 + k ≡ i + suc k = omega arith in
    ap (λ z. z ∷ each_from f (i + 1) ps) (e i p (λ m. omega arith))
    ∙ ap (λ z. p ∷ z) (each_set f (i + 1) k ps d (λ q x n. e q x (λ m. n (omega arith))) ∙ ap (λ z. set ps k (f z (get_or ps k d))) a)

wake_both : (ss : List Slot) (a b c d e f : ℕ) (ps : List Partition) → ((o : ℕ) → (within a b o || within c d o) ≡ within e f o) →
    wake ss c d (wake ss a b ps) ≡ wake ss e f ps
unfolding wake
wake_both ss a b c d e f ps h =
    each_join (wakes_in ss c d) (wakes_in ss a b) 0 ps
    ∙ each_same _ _ (λ q p. started_twice (starts ss c d q) (starts ss a b q) p ∙ ap (λ z. started z p) (starts_both ss a b c d e f q h)) 0 ps

pub wake_join : (ss : List Slot) (a b c : ℕ) (ps : List Partition) → a ≤ b → b ≤ c → wake ss b c (wake ss a b ps) ≡ wake ss a c ps
wake_join ss a b c ps l m = wake_both ss a b b c a c ps (λ o. grind (arith, nat_tests))

pub wake-within : (ss : List Slot) (a b c : ℕ) (ps : List Partition) → b ≤ c → wake ss a b (wake ss a c ps) ≡ wake ss a c ps
wake-within ss a b c ps l = wake_both ss a c a b a c ps (λ o. grind (arith, nat_tests))

-- where no slot starts nothing wakes
pub wake-calm : (ss : List Slot) (a b : ℕ) (ps : List Partition) → ((q : ℕ) → starts ss a b q ≡ false) → wake ss a b ps ≡ ps
unfolding wake
wake-calm ss a b ps h = each_none (wakes_in ss a b) 0 ps (λ q p m. ap (λ z. started z p) (h q))

pub wake-none : (ss : List Slot) (a b : ℕ) (ps : List Partition) → b ≤ a → wake ss a b ps ≡ ps
wake-none ss a b ps l = wake-calm ss a b ps (λ q. starts_none ss a b q (λ o. grind (arith, nat_tests)))

-- a microsecond's waking is that of a range of one offset
pub wake-one : (ss : List Slot) (o : ℕ) (ps : List Partition) → wake_at ss o ps ≡ wake ss o (o + 1) ps
unfolding wake wake_at
wake-one ss o ps = each_same (wakes ss o) (wakes_in ss o (o + 1)) (λ q p. ap (λ z. started z p) (starts-one ss o q)) 0 ps

-- with no slot nothing wakes
pub wake_nil : (a b : ℕ) (ps : List Partition) → wake [] a b ps ≡ ps
unfolding wake starts
wake_nil a b ps = each_none (wakes_in [] a b) 0 ps (λ q p l. refl)

-- one slot more wakes its own partition
wake-push : (ss : List Slot) (s : Slot) (a b : ℕ) (ps : List Partition) (d : Partition) →
    wake (ss ++ s ∷ []) a b ps ≡ set (wake ss a b ps) s.partition (started (within a b s.start) (get_or (wake ss a b ps) s.partition d))
unfolding wake
wake-push ss s a b ps d =
    let k = s.partition in
    let w = within a b s.start in
    let qs = wake ss a b ps in
    let own : begins s a b (0 + k) ≡ w = ap (λ x. x && w) (eq-eqb k (0 + k) (omega arith)) in
    each_same _ _ (λ q p. ap (λ x. started x p) (starts-push ss s a b q) ∙ sym (started_twice (begins s a b q) (starts ss a b q) p)) 0 ps
    ∙ sym (each_join (λ q p. started (begins s a b q) p) (wakes_in ss a b) 0 ps)
    ∙ each_set (λ q p. started (begins s a b q) p) 0 k qs d (λ q p n. ap (λ x. started (x && w) p) (ne_eqb k q (λ m. n (omega arith))))
    ∙ ap (λ x. set qs k (started x (get_or qs k d))) own

-- a turn of the loop over the slots
pub wake-turn : (ss : List Slot) (i a b : ℕ) (ps : List Partition) (s : Slot) (d : Partition) → i < length ss →
    wake (take (i + 1) ss) a b ps
    ≡ set (wake (take i ss) a b ps) (get_or ss i s).partition (started (within a b (get_or ss i s).start) (get_or (wake (take i ss) a b ps) (get_or ss i s).partition d))
wake-turn ss i a b ps s d l = ap (λ z. wake z a b ps) (take_more ss i s l) ∙ wake-push (take i ss) (get_or ss i s) a b ps d

-- the start of its slot leaves a partition that does not sleep as it was
slot_started-awake : (s : Status) (p : Partition) → p.status ≡ s → is_idle s ≡ false → slot_started p ≡ p
slot_started-awake Halted p e n = ap (λ z. with_status (roused z) p) e ∙ ap (λ z. with_status z p) (sym e)
slot_started-awake Ready p e n = ap (λ z. with_status (roused z) p) e ∙ ap (λ z. with_status z p) (sym e)
slot_started-awake Idle p e n = absurd (both_ways true n refl)
slot_started-awake Suspended p e n = ap (λ z. with_status (roused z) p) e ∙ ap (λ z. with_status z p) (sym e)

started_awake : (b : Bool) (p : Partition) → is_idle p.status ≡ false → started b p ≡ p
started_awake false p n = refl
started_awake true p n = slot_started-awake p.status p refl n

each_awake : (ss : List Slot) (a b i : ℕ) (ps : List Partition) → list_any sleeps ps ≡ false → each_from (wakes_in ss a b) i ps ≡ ps
unfolding each_from
each_awake ss a b i [] n = refl
each_awake ss a b i (p ∷ ps) n =
    let m = or_parts (sleeps p) (list_any sleeps ps) n in
    ap₂ ◌∷◌ (started_awake (starts ss a b i) p m.0) (each_awake ss a b (i + 1) ps m.1)

-- where nobody sleeps nobody wakes
pub wake_awake : (ss : List Slot) (a b : ℕ) (ps : List Partition) → list_any sleeps ps ≡ false → ps ≡ wake ss a b ps
unfolding wake
wake_awake ss a b ps n = sym (each_awake ss a b 0 ps n)

-- .. nor do two plans one after the other
pub both_awake : (ss ts : List Slot) (a b c d : ℕ) (ps : List Partition) → list_any sleeps ps ≡ false → ps ≡ wake ts c d (wake ss a b ps)
both_awake ss ts a b c d ps n = wake_awake ts c d ps n ∙ ap (wake ts c d) (wake_awake ss a b ps n)
