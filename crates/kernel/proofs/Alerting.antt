-- The readers of a channel, told of a message from the lowest port up.
use Rattle.std.proofs.Common.{◌≡◌, ℕ, zero, suc, ◌+◌, ◌<◌, ◌≤◌, true, false, cond, ◌&&◌, ltb, List, get_or, set, sym, ap, ◌∙◌, subst, inl, inr, refl, arith}
use Rattle.std.proofs.lemmas.Bool.{and_parts, cases_eq, cases_lt, cond-false, lt-ltb, ltb-true, both_ways, ne_eqb}
use Rattle.std.proofs.lemmas.List.{set-get_or}
use Rattle.std.proofs.lemmas.Nat.Bits.{bit_at-zero}
use Rattle.tables.specs.Bits.{has_bit}
use Rattle.tables.specs.declared.Tables.{Tables}
use Rattle.machine.specs.declared.partition.Partition.{Partition}
use Rattle.machine.specs.Partitions.{nobody, is_open, signalled}
use Rattle.machine.specs.Ports.{alert, alerted, message_bit}
use Rattle.machine.specs.Questions.{port, hears}
use Rattle.machine.specs.State.{modify}
use Rattle.kernel.specs.Channels.{told}
use Rattle.config.specs.Index.{listens}
use Rattle.config.specs.Masks.{Lowest}

module _ (k : Tables) (c : ℕ) (ps : List Partition) where
  -- a port that does not hear tells nobody, and one that hears its partition
  deaf : (i : ℕ) (p : Partition) → hears k c i ≡ false → alert k c i p ≡ p
  deaf i p e = cond-false _ _ _ (ap (λ h. h && is_open i p) e)

  heard : (i : ℕ) (p : Partition) → hears k c i ≡ true → alert k c i p ≡ told i p
  heard i p e = ap (λ h. cond (h && is_open i p) (signalled message_bit p) p) e

  silent : (i : ℕ) → i < k.ports.count → listens k c i ≡ false → hears k c i ≡ false
  silent i l e = sym (ap (λ t. t && hears k c i) (lt-ltb i k.ports.count l)) ∙ e

  alerted_at : (i : ℕ) → alerted k c (i + 1) ps ≡ modify (alerted k c i ps) (port k i).partition (alert k c i)
  unfolding alerted
  alerted_at i = ap (λ n. alerted k c n ps) (let e : i + 1 ≡ suc i = omega arith in e)

  -- ports that do not hear are passed over
  passed : (a b : ℕ) → a ≤ b → b ≤ k.ports.count → ((j : ℕ) → a ≤ j → j < b → listens k c j ≡ false) → alerted k c b ps ≡ alerted k c a ps
  unfolding alerted
  passed a zero l m f = ap (λ n. alerted k c n ps) (let e : 0 ≡ a = omega arith in e)
  passed a (suc b) l m f =
      elim (cases_eq a (suc b)) [
        | inl e ↦ ap (λ n. alerted k c n ps) (sym e)
        | inr d ↦
            let n : b < k.ports.count = omega arith in
            let xs = alerted k c b ps in
            let q = (port k b).partition in
            ap (set xs q) (deaf b (get_or xs q nobody) (silent b n (f b (omega arith) (omega arith))))
            ∙ set-get_or xs q nobody
            ∙ passed a b (omega arith) (omega arith) (λ j g h. f j g (omega arith))
      ]

  -- the ports below some number were told, and those from it on are left
  pub record Left (m : ℕ) (now : List Partition) : Type 0 where
    next : ℕ
    within : next ≤ k.ports.count
    past : (j : ℕ) → j < next → has_bit m j ≡ false
    rest : (j : ℕ) → next ≤ j → has_bit m j ≡ listens k c j
    is : now ≡ alerted k c next ps

  pub begun : (m : ℕ) → ((i : ℕ) → has_bit m i ≡ listens k c i) → Left m ps
  unfolding alerted
  begun m f = record { next = 0; within = omega arith; past = λ j l. absurd (omega arith); rest = λ j l. f j; is = refl }

  pub ended : (m : ℕ) (now : List Partition) → m ≡ 0 → Left m now → now ≡ alerted k c k.ports.count ps
  ended m now e r =
      r.is ∙ sym (passed r.next k.ports.count r.within (omega arith) (λ j l g. sym (r.rest j l) ∙ ap (λ w. has_bit w j) e ∙ ne_eqb _ _ (omega (arith, bit_at-zero j))))

  module _ (m v i : ℕ) (now : List Partition) (h : Lowest m v i) (r : Left m now) where
    above : r.next ≤ i
    above =
        elim (cases_lt i r.next) [
          | inl l ↦ absurd (both_ways _ (r.past i l) h.without.set)
          | inr g ↦ g
        ]

    listening : listens k c i ≡ true
    listening = sym (r.rest i above) ∙ h.without.set

    pub there : i < k.ports.count
    there = ltb-true _ _ (and_parts (ltb i k.ports.count) _ listening).0

    pub more : (later : List Partition) → later ≡ modify now (port k i).partition (told i) → Left v later
    more later e =
        record {
          next = i + 1;
          within = omega (arith, there);
          past = λ j l.
              elim (cases_eq j i) [
                | inl s ↦ subst (λ x. has_bit v x ≡ false) (sym s) h.without.gone
                | inr d ↦ h.without.others j d ∙ h.below j (omega arith)
              ];
          rest = λ j l. h.without.others j (omega arith) ∙ r.rest j (omega (arith, above));
          is =
              let q = (port k i).partition in
              let so : now ≡ alerted k c i ps =
              r.is ∙ sym (passed r.next i above (omega (arith, there)) (λ j l g. sym (r.rest j l) ∙ h.below j g)) in
              let xs = alerted k c i ps in
              e
              ∙ ap (λ ys. modify ys q (told i)) so
              ∙ ap (set xs q) (sym (heard i (get_or xs q nobody) (and_parts (ltb i k.ports.count) _ listening).1))
              ∙ sym (alerted_at i);
        }
