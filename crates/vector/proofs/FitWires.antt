-- The channels and ports of the records so far: each channel has one source, first, and then destinations.
use Rattle.std.proofs.Common.{◌≡◌, ℕ, zero, suc, ◌+◌, ◌-◌, ◌<◌, ◌≤◌, true, false, cond, ◌&&◌, ◌||◌, eqb, leb, List, [], ◌∷◌, ◌++◌, length, get_or, take, set, sym, refl, ap, ◌∙◌, subst, inl, inr, arith, get_or-set_other, get_or-set_same}
use Rattle.std.proofs.lemmas.List.{length-set, take_more_set}
use Rattle.std.proofs.lemmas.Bool.{and_from, or_left, or_right, or_parts, and_cases, eq-eqb, ne_eqb, leb-false, cond-true, cond-false, cases_eq, both_ways}
use Rattle.tables.specs.Blank.{channel0, port0}
use Rattle.tables.specs.Sound.{SoundChannel}
use Rattle.vector.specs.Bodies.{next_direction}
use Rattle.tables.specs.Rows.{is_queuing, open_channel, ported, add_channel, add_port}
use Rattle.vector.specs.Joins.{is_full}
use Rattle.tables.specs.Laws.{channel_at, port_at, ports_of}
use Rattle.tables.specs.Names.{same_name, clash, clashes}
use Rattle.tables.specs.declared.channel.Channel.{Channel}
use Rattle.tables.specs.Tables.{Channels, Ports}
use Rattle.tables.specs.declared.port.Direction.TheVariants.{Source, Destination}
use Rattle.tables.specs.declared.port.Port.{Port}
use Rattle.tables.specs.declared.Tables.{Tables}
use Rattle.tables.proofs.Lists.{one_more, replaced, changed, pairs_more, none_passes}
use Rattle.tables.proofs.Names.{same-name}

-- counting the ports of a channel

ports_more : (c : ℕ) (ps : List Port) (x : Port) → ports_of c (ps ++ x ∷ []) ≡ ports_of c ps + cond (eqb x.channel c) 1 0
ports_more c [] x = omega arith
ports_more c (p ∷ ps) x = let e = ports_more c ps x in omega arith

ports-some : (c : ℕ) (ps : List Port) (m i : ℕ) → i < m → m ≤ length ps → (get_or ps i port0).channel ≡ c → 1 ≤ ports_of c (take m ps)
ports-some c [] m i h l e = absurd (omega arith)
ports-some c (p ∷ ps) zero i h l e = absurd (omega arith)
ports-some c (p ∷ ps) (suc m) zero h l e = let o : cond {A = ℕ} (eqb p.channel c) 1 0 ≡ 1 = cond-true (eqb p.channel c) 1 0 (eq-eqb p.channel c e) in omega (arith, o)
ports-some c (p ∷ ps) (suc m) (suc i) h l e = let o = ports-some c ps m i (omega arith) (omega arith) e in omega arith

ports-none : (c : ℕ) (ps : List Port) (m : ℕ) → ((i : ℕ) → i < m → (get_or ps i port0).channel ≡ c → ⊥) → ports_of c (take m ps) ≡ 0
ports-none c [] zero h = refl
ports-none c [] (suc m) h = refl
ports-none c (p ∷ ps) zero h = refl
ports-none c (p ∷ ps) (suc m) h =
    let o : cond {A = ℕ} (eqb p.channel c) 1 0 ≡ 0 = cond-false (eqb p.channel c) 1 0 (ne_eqb p.channel c (h 0 (omega arith))) in
    let e = ports-none c ps m (λ i l. h (suc i) (omega arith)) in
    omega (arith, o)

-- of two ports of one channel the later is a destination, and they are of different partitions
abbrev Follows : Port → Port → Type 0
Follows a b = a.channel ≡ b.channel → (b.direction ≡ Destination) × (a.partition ≡ b.partition → ⊥)

-- ports of one partition have different names
abbrev Named : Port → Port → Type 0
Named a b = a.partition ≡ b.partition → a.name ≡ b.name → ⊥

-- a port of channel c that is its source
-- a port more leaves a channel sound
still-sound : (c : Channel) → SoundChannel c → SoundChannel (ported c)
still-sound c s = record { some = s.some; short = s.short; room = s.room; shallow = s.shallow }

abbrev SourceOf : ℕ → Ports → Type 0
SourceOf c ps = (i : ℕ) × ((i < ps.count) × ((get_or ps.rows i port0).channel ≡ c) × ((get_or ps.rows i port0).direction ≡ Source))

pub record FitWires (n : ℕ) (cs : Channels) (ps : Ports) : Type 0 where
  pub rows : length cs.rows ≡ 8
  pub size : length ps.rows ≡ 32
  pub few : ps.count ≤ 32
  pub sound : (c : ℕ) → c < cs.count → SoundChannel (get_or cs.rows c channel0)
  pub paired : (c : ℕ) → c + 1 < cs.count → 2 ≤ (get_or cs.rows c channel0).ports
  pub queues : (c : ℕ) → c < cs.count → is_queuing (get_or cs.rows c channel0).kind ≡ true → (get_or cs.rows c channel0).ports ≤ 2
  pub counted : (c : ℕ) → c < cs.count → (get_or cs.rows c channel0).ports ≡ ports_of c (take ps.count ps.rows)
  pub belong : (i : ℕ) → i < ps.count → ((get_or ps.rows i port0).partition < n) × ((get_or ps.rows i port0).channel < cs.count)
  pub first : (i j : ℕ) → i < j → j < ps.count → Follows (get_or ps.rows i port0) (get_or ps.rows j port0)
  pub names : (i j : ℕ) → i < j → j < ps.count → Named (get_or ps.rows i port0) (get_or ps.rows j port0)
  pub sources : (c : ℕ) → c < cs.count → 1 ≤ (get_or cs.rows c channel0).ports → SourceOf c ps

abbrev Wired : ℕ → Tables → Type 0
Wired n t = FitWires n t.channels t.ports

module _ (n : ℕ) (t : Tables) (x : Channel) (f : Wired n t) (h : t.channels.count < 8) where
  old_channel : (c : ℕ) → c < t.channels.count → channel_at c (add_channel x t) ≡ channel_at c t
  old_channel c l = get_or-set_other t.channels.rows t.channels.count c x channel0 (λ e. omega arith)

  pub fit-channel : SoundChannel x → x.ports ≡ 0 → (1 ≤ t.channels.count → 2 ≤ (open_channel t).ports) → Wired n (add_channel x t)
  fit-channel new z two =
      let cs = t.channels in
      let ps = t.ports in
      let lt : cs.count < length cs.rows = omega (arith, f.rows) in
      record {
        rows = length-set _ _ _ ∙ f.rows;
        size = f.size;
        few = f.few;
        sound = one_more (λ _. SoundChannel) cs.rows cs.count x channel0 lt f.sound new;
        paired = λ c l. subst (λ (y : Channel). 2 ≤ y.ports) (sym (old_channel c (omega arith)))
            (elim (cases_eq (c + 1) cs.count) [
              | inl e ↦ let k : cs.count - 1 ≡ c = omega arith in subst (λ j. 2 ≤ (channel_at j t).ports) k (two (omega arith))
              | inr ne ↦ f.paired c (omega (arith, ne))
            ]);
        queues = one_more (λ _ (y : Channel). is_queuing y.kind ≡ true → y.ports ≤ 2) cs.rows cs.count x channel0 lt f.queues (λ _. omega arith);
        counted = one_more (λ c (y : Channel). y.ports ≡ ports_of c (take ps.count ps.rows)) cs.rows cs.count x channel0 lt f.counted
            (z ∙ sym (ports-none cs.count ps.rows ps.count (λ i l e. let o = (f.belong i l).1 in omega arith)));
        belong = λ i l. let o = f.belong i l in (o.0, omega arith);
        first = f.first;
        names = f.names;
        sources = one_more (λ c (y : Channel). 1 ≤ y.ports → SourceOf c t.ports) cs.rows cs.count x channel0 lt f.sources (λ o. absurd (omega arith));
      }

module _ (n : ℕ) (t : Tables) (x : Port) (f : Wired n t) (h : 1 ≤ t.channels.count) (k : t.channels.count ≤ 8) (own : x.channel ≡ t.channels.count - 1) (m : t.ports.count < 32) where
  -- port i is as it was
  old_port : (i : ℕ) → i < t.ports.count → port_at i (add_port x t) ≡ port_at i t
  old_port i l = get_or-set_other t.ports.rows t.ports.count i x port0 (λ e. omega arith)

  new_port : port_at t.ports.count (add_port x t) ≡ x
  new_port = get_or-set_same t.ports.rows t.ports.count x port0 (omega (arith, f.size))

  count_more : (c : ℕ) → ports_of c (take (t.ports.count + 1) (set t.ports.rows t.ports.count x)) ≡ ports_of c (take t.ports.count t.ports.rows) + cond (eqb x.channel c) 1 0
  count_more c = ap (ports_of c) (take_more_set t.ports.rows t.ports.count x (omega (arith, f.size))) ∙ ports_more c (take t.ports.count t.ports.rows) x

  open_counted : (open_channel t).ports ≡ ports_of (t.channels.count - 1) (take t.ports.count t.ports.rows)
  open_counted = f.counted (t.channels.count - 1) (omega arith)

  -- where the channel has a port already, the next is a destination
  next-destination : (i : ℕ) → i < t.ports.count → (port_at i t).channel ≡ x.channel → next_direction t ≡ Destination
  next-destination i l e =
      let o = ports-some (t.channels.count - 1) t.ports.rows t.ports.count i l (omega (arith, f.size)) (e ∙ own) in
      cond-false (eqb (open_channel t).ports 0) Source Destination (ne_eqb (open_channel t).ports 0 (λ z. omega (arith, open_counted)))

  still-source : (c : ℕ) → SourceOf c t.ports → SourceOf c (add_port x t).ports
  still-source c s =
      let e = old_port s.0 s.1.0 in
      (s.0, (omega (arith, s.1.0), subst (λ (y : Port). y.channel ≡ c) (sym e) s.1.1, subst (λ (y : Port). y.direction ≡ Source) (sym e) s.1.2))

  new_source : x.direction ≡ next_direction t → (open_channel t).ports ≡ 0 → SourceOf (t.channels.count - 1) (add_port x t).ports
  new_source d z =
      let e = new_port in
      let s : next_direction t ≡ Source = cond-true (eqb (open_channel t).ports 0) Source Destination (eq-eqb (open_channel t).ports 0 z) in
      (t.ports.count, (omega arith, subst (λ (y : Port). y.channel ≡ t.channels.count - 1) (sym e) own, subst (λ (y : Port). y.direction ≡ Source) (sym e) (d ∙ s)))

  sources_on : x.direction ≡ next_direction t → (c : ℕ) → c < t.channels.count → 1 ≤ (channel_at c (add_port x t)).ports → SourceOf c (add_port x t).ports
  sources_on d c l o =
      let j = t.channels.count - 1 in
      elim (cases_eq j c) [
        | inl e ↦ subst (λ k. SourceOf k (add_port x t).ports) e
            (elim (cases_eq (open_channel t).ports 0) [
              | inl z ↦ new_source d z
              | inr nz ↦ still-source j (f.sources j (omega arith) (omega (arith, nz)))
            ])
        | inr ne ↦ still-source c (f.sources c l (subst (λ (y : Channel). 1 ≤ y.ports) (get_or-set_other t.channels.rows j c (ported (open_channel t)) channel0 (λ e. ne (sym e))) o))
      ]

  -- a queuing channel that is not full has room for one more
  queues_on : is_full t ≡ false → is_queuing (open_channel t).kind ≡ true → (open_channel t).ports + 1 ≤ 2
  queues_on full q =
      let b = (or_parts (leb 32 t.ports.count) (is_queuing (open_channel t).kind && leb 2 (open_channel t).ports) full).1 in
      elim (and_cases (is_queuing (open_channel t).kind) (leb 2 (open_channel t).ports) b) [
        | inl z ↦ absurd (both_ways _ z q)
        | inr z ↦ let w : (open_channel t).ports < 2 = leb-false 2 (open_channel t).ports z in omega arith
      ]

  module _ (clear : clashes (take t.ports.count t.ports.rows) x ≡ false) where
    no_clash : (i : ℕ) → i < t.ports.count → clash x (port_at i t) ≡ false
    no_clash i l = none_passes (clash x) t.ports.rows t.ports.count i port0 clear l (omega (arith, f.size))

    -- so no port of the same partition has the same channel or name
    no_twin : (i : ℕ) → i < t.ports.count → (port_at i t).partition ≡ x.partition → (eqb x.channel (port_at i t).channel || same_name x.name (port_at i t).name) ≡ true → ⊥
    no_twin i l q h = both_ways (clash x (port_at i t)) (no_clash i l) (and_from (eqb x.partition (port_at i t).partition) _ (eq-eqb _ _ (sym q)) h)

    pub fit-port : x.partition < n → x.direction ≡ next_direction t → is_full t ≡ false → Wired n (add_port x t)
    fit-port p d full =
        let cs = t.channels in
        let ps = t.ports in
        let j = cs.count - 1 in
        let o = open_channel t in
        let lt : ps.count < length ps.rows = omega (arith, f.size) in
        let room : j < length cs.rows = omega (arith, f.rows) in
        record {
          rows = length-set _ _ _ ∙ f.rows;
          size = length-set _ _ _ ∙ f.size;
          few = omega arith;
          sound = λ c l. replaced SoundChannel cs.rows j c (ported o) channel0 (λ _. still-sound o (f.sound j (omega arith))) (f.sound c l);
          paired = λ c l. replaced (λ (y : Channel). 2 ≤ y.ports) cs.rows j c (ported o) channel0 (λ e. absurd (omega arith)) (f.paired c l);
          queues = λ c l. replaced (λ (y : Channel). is_queuing y.kind ≡ true → y.ports ≤ 2) cs.rows j c (ported o) channel0 (λ _. queues_on full) (f.queues c l);
          counted = λ c l. changed (λ (y : Channel). y.ports ≡ ports_of c (take (ps.count + 1) (set ps.rows ps.count x))) cs.rows j c (ported o) channel0 room
              (λ e. let one : cond {A = ℕ} (eqb x.channel c) 1 0 ≡ 1 = cond-true (eqb x.channel c) 1 0 (eq-eqb x.channel c (own ∙ e)) in
              let old : o.ports ≡ ports_of c (take ps.count ps.rows) = subst (λ k. o.ports ≡ ports_of k (take ps.count ps.rows)) e open_counted in
              omega (arith, one, old, count_more c))
              (λ ne. let none : cond {A = ℕ} (eqb x.channel c) 1 0 ≡ 0 = cond-false (eqb x.channel c) 1 0 (ne_eqb x.channel c (λ e. ne (sym own ∙ e))) in omega (arith, none, count_more c, f.counted c l));
          belong = one_more (λ _ (y : Port). (y.partition < n) × (y.channel < cs.count)) ps.rows ps.count x port0 lt f.belong (p, omega arith);
          first = pairs_more Follows ps.rows ps.count x port0 lt f.first (λ i l e. (d ∙ next-destination i l e, λ q. no_twin i l q (or_left _ _ (eq-eqb _ _ (sym e)))));
          names = pairs_more Named ps.rows ps.count x port0 lt f.names (λ i l q e. no_twin i l q (or_right _ _ (same-name _ _ (sym e))));
          sources = sources_on d;
        }
