-- A port found among the bits of a mask, from the highest down.
use Rattle.std.proofs.Common.{◌≡◌, ℕ, zero, suc, ◌+◌, ◌<◌, ◌≤◌, Bool, true, false, cond, ◌&&◌, ltb, Some, None, sym, ap, ◌∙◌, subst, inl, inr, refl, arith}
use Rattle.std.proofs.lemmas.Bool.{and_parts, cases_eq, cases_lt, cond-true, cond-false, le-ltb, ltb-true, both_ways, ne_eqb}
use Rattle.std.proofs.lemmas.Nat.Bits.{bit_at-zero}
use Rattle.tables.specs.Bits.{has_bit}
use Rattle.tables.specs.Names.{same_name}
use Rattle.tables.specs.declared.name.Name.{Name}
use Rattle.tables.specs.declared.Tables.{Tables}
use Rattle.tables.specs.declared.channel.ChannelKind.{ChannelKind}
use Rattle.machine.specs.Questions.{owns, port, named}
use Rattle.config.specs.Masks.{Highest}
use Rattle.config.proofs.Marking.{kept}

module _ (k : Tables) (q : ℕ) (t : ChannelKind) (n : Name) where
  -- is port i of q of this type and name
  abbrev Is : ℕ → Bool
  Is i = owns k q t i && same_name (port k i).name n

  -- ports that are another's are passed over
  passed : (a b : ℕ) → a ≤ b → ((j : ℕ) → a ≤ j → j < b → owns k q t j ≡ false) → named k q t n b ≡ named k q t n a
  unfolding named
  passed a zero l f = ap (named k q t n) (let e : 0 ≡ a = omega arith in e)
  passed a (suc b) l f =
      elim (cases_eq a (suc b)) [
        | inl e ↦ ap (named k q t n) (sym e)
        | inr d ↦
            let no : Is b ≡ false = ap (λ o. o && same_name (port k b).name n) (f b (omega arith) (omega arith)) in
            cond-false (Is b) _ _ no ∙ passed a b (omega arith) (λ j g h. f j g (omega arith))
      ]

  named_at : (i : ℕ) → named k q t n (i + 1) ≡ cond (Is i) (Some i) (named k q t n i)
  unfolding named
  named_at i = let e : i + 1 ≡ suc i = omega arith in ap (named k q t n) e

  -- the ports below some number are left to be looked at, and none above is the one
  pub record Left (m : ℕ) : Type 0 where
    top : ℕ
    within : top ≤ k.ports.count
    rest : (j : ℕ) → j < top → has_bit m j ≡ owns k q t j
    past : (j : ℕ) → top ≤ j → has_bit m j ≡ false
    is : named k q t n k.ports.count ≡ named k q t n top

  pub begun : (m : ℕ) → ((i : ℕ) → has_bit m i ≡ owns k q t i) → Left m
  begun m f =
      record {
        top = k.ports.count;
        within = omega arith;
        rest = λ j l. f j;
        past = λ j l. f j ∙ ap (λ b. b && kept k t q j) (le-ltb j k.ports.count l);
        is = refl;
      }

  pub ended : (m : ℕ) → m ≡ 0 → Left m → named k q t n k.ports.count ≡ None
  unfolding named
  ended m e r =
      r.is ∙ passed 0 r.top (omega arith) (λ j l g. sym (r.rest j g) ∙ ap (λ w. has_bit w j) e ∙ ne_eqb _ _ (omega (arith, bit_at-zero j)))

  module _ (m v i : ℕ) (h : Highest m v i) (r : Left m) where
    below : i < r.top
    below =
        elim (cases_lt i r.top) [
          | inl l ↦ l
          | inr g ↦ absurd (both_ways _ (r.past i g) h.without.set)
        ]

    owned : owns k q t i ≡ true
    owned = sym (r.rest i below) ∙ h.without.set

    pub there : i < k.ports.count
    there = ltb-true _ _ (and_parts (ltb i k.ports.count) _ owned).0

    here : named k q t n k.ports.count ≡ cond (same_name (port k i).name n) (Some i) (named k q t n i)
    here =
        r.is
        ∙ passed (i + 1) r.top (omega (arith, below)) (λ j l g. sym (r.rest j g) ∙ h.above j (omega arith))
        ∙ named_at i
        ∙ ap (λ o. cond (o && same_name (port k i).name n) (Some i) (named k q t n i)) owned

    pub is_found : same_name (port k i).name n ≡ true → named k q t n k.ports.count ≡ Some i
    is_found e = here ∙ cond-true _ _ _ e

    pub goes_on : same_name (port k i).name n ≡ false → Left v
    goes_on e =
        record {
          top = i;
          within = omega (arith, below, r.within);
          rest = λ j l. h.without.others j (omega arith) ∙ r.rest j (omega (arith, below));
          past = λ j l.
              elim (cases_eq j i) [
                | inl s ↦ subst (λ x. has_bit v x ≡ false) (sym s) h.without.gone
                | inr d ↦ h.without.others j d ∙ h.above j (omega arith)
              ];
          is = here ∙ cond-false _ _ _ e;
        }
