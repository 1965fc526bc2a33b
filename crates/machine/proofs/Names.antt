-- The port that a name finds.
use Rattle.std.proofs.Common.{◌≡◌, ℕ, zero, suc, ◌<◌, Bool, true, false, ◌&&◌, eqb, ltb, Some, None, Option, sym, refl, ap, ap₂, ◌∙◌, subst, inl, inr, arith}
use Rattle.std.specs.Str.{bytes_eq}
use Rattle.std.proofs.lemmas.Slice.Eq.{bytes_eq-Decides}
use Rattle.std.proofs.lemmas.Bool.{both_ways, and_parts, and_from, ltb-true, lt-ltb, eqb-true, eq-eqb, cond-true, cond-false, cond_both, cases_eq, false_from_ne_true}
use Rattle.tables.specs.Names.{same_name}
use Rattle.tables.specs.declared.channel.ChannelKind.{ChannelKind}
use Rattle.tables.specs.declared.channel.ChannelKind.TheVariants.{Sampling, Queuing}
use Rattle.tables.specs.declared.name.Name.{Name}
use Rattle.tables.specs.declared.Tables.{Tables}
use Rattle.machine.specs.Laws.{PortOf}
use Rattle.machine.specs.Questions.{port, channel, same_kind, owns, named}
use Rattle.machine.specs.Searches.{IsNamed, Found}
use Rattle.tables.proofs.Names.{same-name}

pub none-not : (i : ℕ) → ◌≡◌ {A = Option ℕ} None (Some i) → ⊥
none-not i e = cc

pub some_inj : (i j : ℕ) → ◌≡◌ {A = Option ℕ} (Some i) (Some j) → i ≡ j
some_inj i j e = cc

pub kinds : (c t : ChannelKind) → same_kind c t ≡ true → c ≡ t
kinds Sampling Sampling e = refl
kinds Sampling Queuing e = absurd (both_ways false refl e)
kinds Queuing Sampling e = absurd (both_ways false refl e)
kinds Queuing Queuing e = refl

own_kind : (t : ChannelKind) → same_kind t t ≡ true
own_kind Sampling = refl
own_kind Queuing = refl

names : (m n : Name) → same_name m n ≡ true → m ≡ n
names m n e =
    let u = and_parts (eqb m.length n.length) (bytes_eq m.bytes n.bytes) e in
    ap₂ (λ l bs. record { length = l; bytes = bs }) (eqb-true _ _ u.0) ((bytes_eq-Decides m.bytes n.bytes).0 u.1)

module _ (k : Tables) (q : ℕ) (t : ChannelKind) (n : Name) where
  abbrev suits : ℕ → Bool
  suits i = owns k q t i && same_name (port k i).name n

  -- what is found below m is such a port; and a port is found that is the last such one
  named-found : (i m : ℕ) → named k q t n m ≡ Some i → (i < m) × (suits i ≡ true)
  unfolding named
  named-found i zero e = absurd (none-not i e)
  named-found i (suc m) e =
      cond_both (suits m) (Some m) (named k q t n m)
      (λ o. o ≡ Some i → (i < suc m) × (suits i ≡ true))
      (λ h s. let z = some_inj m i s in (omega arith, subst (λ j. suits j ≡ true) z h))
      (λ _ s. let r = named-found i m s in (let l = r.0 in omega arith, r.1)) e

  named-any : (i m : ℕ) → i < m → suits i ≡ true →
      ((j : ℕ) → i < j → j < m → suits j ≡ false) → named k q t n m ≡ Some i
  unfolding named
  named-any i zero l h f = absurd (omega arith)
  named-any i (suc m) l h f =
      elim (cases_eq i m) [
        | inl e ↦ cond-true (suits m) _ _ (subst (λ j. suits j ≡ true) e h) ∙ ap {B = Option ℕ} Some (sym e)
        | inr d ↦
            let s : i < m = omega arith in
            cond-false (suits m) _ _ (f m s (omega arith)) ∙ named-any i m s h (λ j a b. f j a (omega arith))
      ]

  asked : (i : ℕ) → suits i ≡ true → IsNamed k q t n i
  asked i e =
      let u = and_parts (owns k q t i) (same_name (port k i).name n) e in
      let o = and_parts (ltb i k.ports.count) _ u.0 in
      let w = and_parts (eqb (port k i).partition q) (same_kind (channel k i).kind t) o.1 in
      record { there = ltb-true _ _ o.0; of = eqb-true _ _ w.0; kind = kinds _ t w.1; name = names _ n u.1 }

  is-asked : (i : ℕ) → IsNamed k q t n i → suits i ≡ true
  is-asked i r =
      and_from (owns k q t i) _
      (and_from (ltb i k.ports.count) _ (lt-ltb _ _ r.there)
      (and_from (eqb (port k i).partition q) _ (eq-eqb _ _ r.of) (subst (λ c. same_kind c t ≡ true) (sym r.kind) (own_kind t))))
      (same-name _ n r.name)

  pub named-own : (i : ℕ) → named k q t n k.ports.count ≡ Some i → PortOf k q i
  named-own i e = let r = asked i (named-found i k.ports.count e).1 in (r.there, r.of)

  pub found : Found k q t n
  found =
      record {
        found = λ i e. asked i (named-found i k.ports.count e).1;
        any = λ w i r.
            named-any i k.ports.count r.there (is-asked i r)
            (λ j a b. false_from_ne_true _ (λ e.
            let s = asked j e in absurd (w i j a b (r.of ∙ sym s.of) (r.name ∙ sym s.name))));
      }
