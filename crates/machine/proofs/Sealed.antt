-- The channels that a closed set of partitions sees, and what is closed about them.
use Rattle.std.proofs.Common.{◌≡◌, ℕ, zero, suc, ◌<◌, Bool, true, false, not, ◌&&◌, ◌||◌, eqb, get_or, sym, refl, ap, ◌∙◌, inl, inr, arith}
use Rattle.std.proofs.lemmas.Bool.{both_ways, and_parts, and_from, or_cases, or_left, or_right, eqb-true, eq-eqb, cases_lt, cases_Bool, not_from_false}
use Rattle.tables.specs.declared.Tables.{Tables}
use Rattle.tables.specs.Fair.{OneSource, OneDestination}
use Rattle.tables.specs.declared.channel.ChannelKind.TheVariants.{Queuing}
use Rattle.tables.specs.declared.port.Direction.{Direction}
use Rattle.tables.specs.declared.port.Direction.TheVariants.{Source, Destination}
use Rattle.tables.specs.Blank.{channel0}
use Rattle.machine.specs.Partitions.{bit}
use Rattle.machine.specs.Questions.{exists, is_system, link, channel_of, is_source, same_kind}
use Rattle.machine.specs.Circle.{port_owner, is_source_port, is_queuing, feeds, Closed}
use Rattle.machine.proofs.Names.{kinds}

-- a set M of partitions and a set C of channels that nothing outside them reaches
pub record Sealed (k : Tables) (M C : ℕ → Bool) : Type 0 where
  pub systems : (q : ℕ) → exists k q ≡ true → is_system k q ≡ true → M q ≡ true
  -- a member sees the channel of its destination port
  pub heard : (i : ℕ) → i < k.ports.count → is_source_port k i ≡ false → M (port_owner k i) ≡ true → C (channel_of k i) ≡ true
  -- who writes a channel that is seen is a member
  pub told : (i : ℕ) → i < k.ports.count → is_source_port k i ≡ true → C (channel_of k i) ≡ true → M (port_owner k i) ≡ true
  -- a member sees the queuing channel of its source port
  pub felt : (i : ℕ) → i < k.ports.count → is_source_port k i ≡ true → is_queuing k i ≡ true → M (port_owner k i) ≡ true →
      C (channel_of k i) ≡ true
  -- who takes from a queuing channel that is seen is a member
  pub taken : (i : ℕ) → i < k.ports.count → is_source_port k i ≡ false → is_queuing k i ≡ true → C (channel_of k i) ≡ true →
      M (port_owner k i) ≡ true
  pub raisers : (q n d : ℕ) → exists k q ≡ true → n < 8 → bit (link k q n) d ≡ true → M d ≡ true → M q ≡ true

-- one of the first n passes the test
unfoldable pub some : ℕ → (ℕ → Bool) → Bool
some zero f = false
some (suc n) f = f n || some n f

some_in : (n : ℕ) (f : ℕ → Bool) (i : ℕ) → i < n → f i ≡ true → some n f ≡ true
unfolding some
some_in zero f i h e = absurd (omega arith)
some_in (suc n) f i h e =
    elim (cases_lt i n) [
      | inl l ↦ or_right (f n) (some n f) (some_in n f i l e)
      | inr g ↦ or_left (f n) (some n f) (let d : n ≡ i = omega arith in ap f d ∙ e)
    ]

record Found (n : ℕ) (f : ℕ → Bool) : Type 0 where
  at : ℕ
  below : at < n
  passes : f at ≡ true

some_out : (n : ℕ) (f : ℕ → Bool) → some n f ≡ true → Found n f
unfolding some
some_out zero f e = absurd (both_ways false refl e)
some_out (suc n) f e =
    elim (or_cases (f n) (some n f) e) [
      | inl h ↦ record { at = n; below = omega arith; passes = h }
      | inr h ↦ let r = some_out n f h in record { at = r.at; below = omega arith; passes = r.passes }
    ]

-- port i shows its owner channel c: it is a member's, and a destination or a port of a queuing channel
abbrev shows : Tables → (ℕ → Bool) → ℕ → ℕ → Bool
shows k M c i = eqb (channel_of k i) c && (M (port_owner k i) && (not (is_source_port k i) || is_queuing k i))

-- the channels that the members see
abbrev pub seen : Tables → (ℕ → Bool) → ℕ → Bool
seen k M c = some k.ports.count (shows k M c)

source : (d : Direction) → is_source d ≡ true → d ≡ Source
source Source e = refl
source Destination e = cc

destination : (d : Direction) → is_source d ≡ false → d ≡ Destination
destination Source e = cc
destination Destination e = refl

module _ (k : Tables) (M : ℕ → Bool) (w : Closed k M) (one-source : OneSource k) (one-destination : OneDestination k) where
  shown : (i : ℕ) → i < k.ports.count → M (port_owner k i) ≡ true → (not (is_source_port k i) || is_queuing k i) ≡ true →
      seen k M (channel_of k i) ≡ true
  shown i b m e =
      some_in k.ports.count (shows k M (channel_of k i)) i b
      (and_from (eqb (channel_of k i) (channel_of k i)) _ (eq-eqb (channel_of k i) (channel_of k i) refl)
      (and_from (M (port_owner k i)) _ m e))

  -- a port that shows a channel, by its parts
  record Shower (c : ℕ) : Type 0 where
    at : ℕ
    below : at < k.ports.count
    same : channel_of k at ≡ c
    member : M (port_owner k at) ≡ true

  shower : (c : ℕ) → seen k M c ≡ true → Shower c
  shower c e =
      let j = some_out k.ports.count (shows k M c) e in
      let u = and_parts (eqb (channel_of k j.at) c) _ j.passes in
      let v = and_parts (M (port_owner k j.at)) _ u.1 in
      record { at = j.at; below = j.below; same = eqb-true _ _ u.0; member = v.0 }

  fed : (i j : ℕ) → is_source_port k i ≡ true → is_source_port k j ≡ false → channel_of k j ≡ channel_of k i → feeds k i j ≡ true
  fed i j s d e = and_from (is_source_port k i) _ s (and_from (eqb (channel_of k j) (channel_of k i)) _ (eq-eqb _ _ e) (not_from_false _ d))

  queues : (i j : ℕ) → channel_of k j ≡ channel_of k i → is_queuing k i ≡ true → is_queuing k j ≡ true
  queues i j e h = ap (λ c. same_kind (get_or k.channels.rows c channel0).kind Queuing) e ∙ h

  tells : (i : ℕ) → i < k.ports.count → is_source_port k i ≡ true → seen k M (channel_of k i) ≡ true → M (port_owner k i) ≡ true
  tells i b s e =
      let j = shower (channel_of k i) e in
      elim (cases_Bool (is_source_port k j.at)) [
        | inl t ↦ ap (λ n. M (port_owner k n)) (one-source i j.at (record { one = b; other = j.below; same = sym j.same }) (source _ s) (source _ t)) ∙ j.member
        | inr t ↦ w.writers i j.at b j.below (fed i j.at s t j.same) j.member
      ]

  takes : (i : ℕ) → i < k.ports.count → is_source_port k i ≡ false → is_queuing k i ≡ true → seen k M (channel_of k i) ≡ true →
      M (port_owner k i) ≡ true
  takes i b d h e =
      let j = shower (channel_of k i) e in
      elim (cases_Bool (is_source_port k j.at)) [
        | inl t ↦ w.readers j.at i j.below b (fed j.at i t d (sym j.same)) (queues i j.at j.same h) j.member
        | inr t ↦ ap (λ n. M (port_owner k n)) (one-destination i j.at (record { one = b; other = j.below; same = sym j.same }) (kinds _ Queuing h) (destination _ d) (destination _ t)) ∙ j.member
      ]

  pub sealed : Sealed k M (seen k M)
  sealed =
      record {
        systems = w.systems;
        heard = λ i b d m. shown i b m (or_left _ _ (not_from_false _ d));
        told = tells;
        felt = λ i b s h m. shown i b m (or_right (not (is_source_port k i)) _ h);
        taken = takes;
        raisers = w.raisers;
      }
