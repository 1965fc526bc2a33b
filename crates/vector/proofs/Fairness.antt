-- What the core rests on follows from the laws of a taken vector.
use Rattle.std.proofs.Common.{◌≡◌, ℕ, zero, suc, ◌<◌, ◌≤◌, true, cond, eqb, List, [], ◌∷◌, length, get_or, take, sym, ap, ◌∙◌, subst, inl, inr, arith}
use Rattle.std.proofs.lemmas.List.{get_or-take, length-take}
use Rattle.std.proofs.lemmas.Bool.{cases_order, cond-true, eq-eqb}
use Rattle.tables.specs.Blank.{port0}
use Rattle.tables.specs.Fair.{AllWithin, Connected, OneSource, OneDestination, Fair}
use Rattle.tables.specs.Rows.{is_queuing}
use Rattle.tables.specs.Laws as laws
use Rattle.tables.specs.Laws.{ports_of, Lawful, Kept}
use Rattle.vector.specs.Out.{fine}
use Rattle.vector.specs.Reading.{reading, takes, tables}
use Rattle.vector.specs.declared.sofar.Sofar.{Sofar}
use Rattle.tables.specs.declared.channel.ChannelKind.{ChannelKind}
use Rattle.tables.specs.declared.channel.ChannelKind.TheVariants.{Queuing}
use Rattle.tables.specs.declared.port.Direction.{Direction}
use Rattle.tables.specs.declared.port.Direction.TheVariants.{Source, Destination}
use Rattle.tables.specs.declared.port.Port.{Port}
use Rattle.tables.specs.declared.Tables.{Tables}
use Rattle.vector.proofs.Keeps.{taken-keeps}
use Rattle.vector.proofs.Fits.{Fit, fit-kept, fit-nothing}
use Rattle.vector.proofs.Laws.{read-lawful, taken-read}

not_both : (d : Direction) → d ≡ Source → d ≡ Destination → ⊥
not_both d a b = cc

-- of two that are not one, one comes first
same : (i j : ℕ) → (i < j → ⊥) → (j < i → ⊥) → i ≡ j
same i j f g = elim (cases_order i j) [ inl e ↦ e | inr o ↦ absurd (elim o [ inl h ↦ f h | inr h ↦ g h ]) ]

-- a port of channel c at place i counts, and so do those before and after it
module _ (c : ℕ) where
  one : (p : Port) → p.channel ≡ c → ◌≡◌ {A = ℕ} (cond (eqb p.channel c) 1 0) 1
  one p e = cond-true _ _ _ (eq-eqb _ _ e)

  counts_one : (ps : List Port) (i : ℕ) → i < length ps → (get_or ps i port0).channel ≡ c → 1 ≤ ports_of c ps
  counts_one [] i h e = absurd (omega arith)
  counts_one (p ∷ ps) zero h e = omega (arith, one p e)
  counts_one (p ∷ ps) (suc i) h e = let n = counts_one ps i (omega arith) e in omega arith

  counts_two : (ps : List Port) (i j : ℕ) → i < j → j < length ps → (get_or ps i port0).channel ≡ c → (get_or ps j port0).channel ≡ c → 2 ≤ ports_of c ps
  counts_two [] i j l h e f = absurd (omega arith)
  counts_two (p ∷ ps) i zero l h e f = absurd (omega arith)
  counts_two (p ∷ ps) zero (suc j) l h e f = let n = counts_one ps j (omega arith) f in omega (arith, one p e)
  counts_two (p ∷ ps) (suc i) (suc j) l h e f = let n = counts_two ps i j (omega arith) (omega arith) e f in omega arith

  counts_three : (ps : List Port) (i j k : ℕ) → i < j → j < k → k < length ps →
      (get_or ps i port0).channel ≡ c → (get_or ps j port0).channel ≡ c → (get_or ps k port0).channel ≡ c → 3 ≤ ports_of c ps
  counts_three [] i j k l m h e f g = absurd (omega arith)
  counts_three (p ∷ ps) i j zero l m h e f g = absurd (omega arith)
  counts_three (p ∷ ps) i zero (suc k) l m h e f g = absurd (omega arith)
  counts_three (p ∷ ps) zero (suc j) (suc k) l m h e f g = let n = counts_two ps j k (omega arith) (omega arith) f g in omega (arith, one p e)
  counts_three (p ∷ ps) (suc i) (suc j) (suc k) l m h e f g = let n = counts_three ps i j k (omega arith) (omega arith) (omega arith) e f g in omega arith

module _ (t : Tables) (l : Lawful t) (size : t.ports.count ≤ length t.ports.rows) where
  within : AllWithin t.plans
  within i h j k = ((l.slots i h).each j k).ends

  connected : Connected t
  connected i h = (l.belong i h).1

  -- the later of two ports of one channel is no source
  one-source : OneSource t
  one-source i j s a b = same i j (λ h. not_both _ b (l.first i j h s.other s.same).0) (λ h. not_both _ a (l.first j i h s.one (sym s.same)).0)

  -- a source stands before every destination of its channel
  source-before : (i s : ℕ) → i < t.ports.count → s < t.ports.count → (laws.port_at i t).channel ≡ (laws.port_at s t).channel →
      (laws.port_at i t).direction ≡ Destination → (laws.port_at s t).direction ≡ Source → s < i
  source-before i s h k e a b =
      elim (cases_order i s) [
        | inl z ↦ absurd (not_both _ b (subst (λ n. (laws.port_at n t).direction ≡ Destination) z a))
        | inr o ↦ elim o [ inl m ↦ absurd (not_both _ b (l.first i s m k e).0) | inr m ↦ m ]
      ]

  counted : (i : ℕ) → i < t.ports.count → (get_or (take t.ports.count t.ports.rows) i port0).channel ≡ (laws.port_at i t).channel
  counted i h = ap (λ (p : Port). p.channel) (get_or-take t.ports.count t.ports.rows i port0 h)

  -- of a queuing channel's two ports one is the source
  not_after : (i j : ℕ) → i < j → j < t.ports.count → (laws.port_at i t).channel ≡ (laws.port_at j t).channel →
      is_queuing (laws.channel_at (laws.port_at i t).channel t).kind ≡ true → (laws.port_at i t).direction ≡ Destination → ⊥
  not_after i j m k e q a =
      let c = (laws.port_at i t).channel in
      let b = connected i (omega arith) in
      let s = l.sources c b in
      let n = l.counted c b in
      let h = source-before i s.0 (omega arith) s.1.0 (sym s.1.1) a s.1.2 in
      let three = counts_three c (take t.ports.count t.ports.rows) s.0 i j h m
      (omega (arith, length-take t.ports.count t.ports.rows))
      (counted s.0 s.1.0 ∙ s.1.1) (counted i (omega arith)) (counted j k ∙ sym e) in
      omega (arith, n.counted, n.queues q, three)

  queues : (d : ChannelKind) → d ≡ Queuing → is_queuing d ≡ true
  queues d e = ap is_queuing e

  one-destination : OneDestination t
  one-destination i j s q a b =
      same i j (λ h. not_after i j h s.other s.same (queues _ q) a)
      (λ h. not_after j i h s.one (sym s.same) (subst (λ c. is_queuing (laws.channel_at c t).kind ≡ true) s.same (queues _ q)) b)

  pub lawful-fair : Fair t
  lawful-fair = record { within = within; connected = connected; source = one-source; destination = one-destination }

-- what is kept by the tables of a reading that came to its end
read-kept : (bs : List ℕ) (s : Sofar) → reading bs ≡ fine s → Kept s.tables
read-kept bs s e =
    let f = (taken-keeps Fit fit-kept fit-nothing bs s e).0.1 in
    let l = read-lawful bs s e in
    record { sound = l.0; lawful = l.1; sized = f.partitions.sized; fair = lawful-fair s.tables l.1 (omega (arith, f.wires.size, f.wires.few)) }

-- .. and by those that a vector gives
takes-kept : (bs : List ℕ) → takes bs ≡ true → Kept (tables bs)
takes-kept bs e = let o = taken-read bs e in subst Kept o.1.1 (read-kept bs o.0 o.1.0)

pub given-kept : (bs : List ℕ) (t : Tables) → takes bs ≡ true → t ≡ tables bs → Kept t
given-kept bs t e g = subst Kept (sym g) (takes-kept bs e)

pub takes-fair : (bs : List ℕ) → takes bs ≡ true → Fair (tables bs)
takes-fair bs e = (takes-kept bs e).fair
