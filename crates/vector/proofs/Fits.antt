-- What the records so far have put into the tables is sound and lawful.
use Rattle.std.proofs.Common.{◌≡◌, ℕ, ◌+◌, ◌-◌, ◌<◌, ◌≤◌, true, false, ◌&&◌, eqb, leb, ◌⊎◌, length, get_or, set, is_some, Some, None, Option, sym, refl, subst, inl, inr, arith, get_or-set_other, get_or-set_same}
use Rattle.std.proofs.lemmas.Bool.{and_parts, or_parts, or_cases, leb-true, leb-false, ltb-true, eqb-true, false≢true, both_ways, cases_eq}
use Rattle.tables.specs.Blank.{plan0, row0}
use Rattle.vector.specs.Fields.{deepest}
use Rattle.vector.specs.Bodies.{Said, header, partition, plan, slot, channel, port, ipvi, line, action}
use Rattle.tables.specs.Names.{padded}
use Rattle.tables.specs.Rows.{row_of, no_name, plan_with, channel_with, open_plan, open_channel, placed, is_queuing}
use Rattle.vector.specs.Ranges.{Mask}
use Rattle.vector.specs.Rooms.{Room}
use Rattle.vector.specs.Sofars.{nothing, with_header}
use Rattle.vector.specs.Turns.{leads, follows, has_plans, has_ports, in_turn}
use Rattle.vector.specs.Joins.{is_full}
use Rattle.vector.specs.declared.kind.Kind.{Kind}
use Rattle.vector.specs.declared.kind.Kind.TheVariants.{Header, Partition, Plan, Slot, Channel, Port, Ipvi, Line, Action}
use Rattle.tables.specs.declared.response.Scope.TheVariants as scopes
use Rattle.vector.specs.declared.sofar.Sofar.{Sofar}
use Rattle.tables.specs.declared.channel.ChannelKind.{ChannelKind}
use Rattle.tables.specs.declared.channel.ChannelKind.TheVariants.{Sampling, Queuing}
use Rattle.tables.specs.declared.partition.Class.TheVariants.{Standard}
use Rattle.tables.specs.declared.partition.PartitionRow.{PartitionRow}
use Rattle.tables.specs.declared.plan.Plan as plans
use Rattle.tables.specs.Tables.{Plans}
use Rattle.tables.specs.declared.plan.Slot as slots
use Rattle.tables.proofs.Lists.{replaced, all_alike}
use Rattle.vector.proofs.Told.{Told}
use Rattle.vector.proofs.Joined.{after, Related, port_in}
use Rattle.vector.proofs.Rooms.{in_turn_lem, first-none}
use Rattle.vector.proofs.Keeps.{Kept}
use Rattle.vector.proofs.FitPartitions.{FitPartitions, fit-partition, fit-link, fit-response}
use Rattle.vector.proofs.FitPlans.{FitPlans, fit-plan, fit-slot}
use Rattle.vector.proofs.FitWires.{FitWires, fit-channel, fit-port}

-- the owner of a line is one of n partitions
abbrev Owner : ℕ → Option ℕ → Type 0
Owner n o = (p : ℕ) → o ≡ Some p → p < n

-- a plan has a slot, or is the last record
abbrev Begun : Option Kind → Plans → Type 0
Begun last ps = (i : ℕ) → i < ps.count → (1 ≤ (get_or ps.rows i plan0).slots.count) ⊎ ((i + 1 ≡ ps.count) × (last ≡ Some Plan))

-- once there is a header, one partition and one plan or more are promised; and the rows that came are lawful
pub record Fit (s : Sofar) : Type 0 where
  pub some : is_some s.last ≡ true → (1 ≤ s.partitions) × (1 ≤ s.plans)
  pub partitions : FitPartitions s.partitions s.tables.partitions
  pub plans : FitPlans s.partitions s.tables.plans
  pub begun : Begun s.last s.tables.plans
  pub wires : FitWires s.partitions s.tables.channels s.tables.ports
  pub lines : (i : ℕ) → Owner s.partitions (get_or s.tables.lines i None)

deepest_most : (k : ChannelKind) → deepest k ≤ 8
deepest_most Sampling = omega arith
deepest_most Queuing = omega arith

-- a record that is not the header comes after one
later-some : (k : Kind) (l : Option Kind) → leads k ≡ false → follows k l ≡ true → is_some l ≡ true
later-some k None z f = absurd (both_ways (leads k) z f)
later-some k (Some j) z f = refl

-- only a slot comes right after a plan
not-after-plan : (k : Kind) (l j : Option Kind) (ps : Plans) → follows k (Some Plan) ≡ false → follows k l ≡ true → Begun l ps → Begun j ps
not-after-plan k l j ps never f b i h =
    elim (b i h) [ inl o ↦ inl o | inr e ↦ absurd (both_ways (follows k (Some Plan)) never (subst (λ (x : Option Kind). follows k x ≡ true) e.1 f)) ]

begun-plan : (l : Option Kind) (ps : Plans) (g : ℕ) → follows Plan l ≡ true → Begun l ps → Begun (Some Plan) (record { count = ps.count + 1; rows = set ps.rows ps.count (plan_with g) })
begun-plan l ps g f b i h =
    elim (cases_eq i ps.count) [
      | inl e ↦ inr (omega arith, refl)
      | inr ne ↦ let lt : i < ps.count = omega (arith, ne) in
          inl (subst (λ (p : plans.Plan). 1 ≤ p.slots.count) (sym (get_or-set_other ps.rows ps.count i (plan_with g) plan0 ne)) (only_begun i lt))
    ]
  where
    only_begun : (i : ℕ) → i < ps.count → 1 ≤ (get_or ps.rows i plan0).slots.count
    only_begun i h = elim (b i h) [ inl o ↦ o | inr e ↦ absurd (false≢true (subst (λ (x : Option Kind). follows Plan x ≡ true) e.1 f)) ]

begun-slot : (l : Option Kind) (ps : Plans) (p : plans.Plan) → 1 ≤ ps.count → ps.count - 1 < length ps.rows → 1 ≤ p.slots.count → Begun l ps → Begun (Some Slot) (record { count = ps.count; rows = set ps.rows (ps.count - 1) p })
begun-slot l ps p h z o b i k =
    elim (b i k) [
      | inl old ↦ inl (replaced (λ (q : plans.Plan). 1 ≤ q.slots.count) ps.rows (ps.count - 1) i p plan0 (λ _. o) old)
      | inr e ↦ inl (let j : ps.count - 1 ≡ i = omega (arith, e.0) in
          subst (λ n. 1 ≤ (get_or (set ps.rows (ps.count - 1) p) n plan0).slots.count) j (subst (λ (q : plans.Plan). 1 ≤ q.slots.count) (sym (get_or-set_same ps.rows (ps.count - 1) p plan0 z)) o))
    ]

module _ (s : Sofar) where
  -- what was promised stays promised
  still : (k j : Kind) → leads k ≡ false → follows k s.last ≡ true → Fit s → is_some (Some j) ≡ true → (1 ≤ s.partitions) × (1 ≤ s.plans)
  still k j z t f e = f.some (later-some k s.last z t)

  -- there is room for one more port
  pub not_full : is_full s.tables ≡ false → s.tables.ports.count < 32
  not_full e = leb-false 32 _ (or_parts (leb 32 s.tables.ports.count) (is_queuing (open_channel s.tables).kind && leb 2 (open_channel s.tables).ports) e).0

  -- the last channel has its two ports
  pub two-ports : has_ports s ≡ true → 1 ≤ s.tables.channels.count → 2 ≤ (open_channel s.tables).ports
  two-ports e h =
      elim (or_cases (eqb s.tables.channels.count 0) (leb 2 (open_channel s.tables).ports) e) [
        | inl z ↦ absurd (let w = eqb-true s.tables.channels.count 0 z in omega arith)
        | inr z ↦ leb-true 2 _ z
      ]

  fit-header : (n m : ℕ) → Room s → Fit s → follows Header s.last ≡ true → (1 ≤ n) × (1 ≤ m) → Fit (with_header n m s)
  fit-header n m r f t x =
      let z = r.promised.none (first-none s.last t) in
      let w = f.wires in
      record {
        some = λ _. x;
        partitions = record { size = f.partitions.size; differ = f.partitions.differ; sized = f.partitions.sized; links = λ p i m e. absurd (let o = (f.partitions.links p i m e).0 in omega arith) };
        plans = record { size = f.plans.size; each = λ i h. absurd (let o = r.counted.plans in omega arith) };
        begun = λ i h. absurd (let o = r.counted.plans in omega arith);
        wires = record { rows = w.rows; size = w.size; few = w.few; sound = w.sound; paired = w.paired; queues = w.queues; counted = w.counted; belong = λ i h. absurd (let o = (w.belong i h).0 in omega arith); first = w.first; names = w.names; sources = w.sources };
        lines = λ i p e. absurd (let o = f.lines i p e in omega arith);
      }

pub fit-kept : Kept Fit
unfolding Kept
fit-kept s k (header n m) r i x j f = fit-header s n m r f (in_turn_lem s k Header x.0 i).0 (x.1.0.0, x.1.1.0)
fit-kept s k (partition c z n) r i x j f =
    let w = in_turn_lem s k Partition x.0 i in
    let a : s.tables.partitions.count < s.partitions = ltb-true _ _ w.1 in
    record {
      some = still s Partition Partition refl w.0 f;
      partitions = fit-partition s.partitions s.tables.partitions (row_of c z (padded n.bytes)) f.partitions (omega (arith, r.promised.partitions)) j refl x.1.0;
      plans = f.plans;
      begun = not-after-plan Partition s.last _ s.tables.plans refl w.0 f.begun;
      wires = f.wires;
      lines = f.lines;
    }
fit-kept s k (plan g) r i x j f =
    let w = in_turn_lem s k Plan x.0 i in
    let a : s.tables.plans.count < s.plans = ltb-true _ _ (and_parts _ _ w.1).1 in
    record {
      some = still s Plan Plan refl w.0 f;
      partitions = f.partitions;
      plans = fit-plan s.partitions s.tables.plans g f.plans (omega (arith, r.promised.plans)) x.1;
      begun = begun-plan s.last s.tables.plans g w.0 f.begun;
      wires = f.wires;
      lines = f.lines;
    }
fit-kept s k (slot p b d) r i x j f =
    let w = in_turn_lem s k Slot x.0 i in
    let y : slots.Slot = record { partition = p; start = b; duration = d } in
    let a : 1 ≤ s.tables.plans.count = leb-true _ _ w.1 in
    let l : s.tables.plans.count - 1 < length s.tables.plans.rows = omega (arith, r.promised.plans, r.counted.plans, f.plans.size) in
    record {
      some = still s Slot Slot refl w.0 f;
      partitions = f.partitions;
      plans = fit-slot s.partitions s.tables.plans y f.plans a j.0 x.1.0 x.1.2.0 j.1 j.2;
      begun = begun-slot s.last s.tables.plans (placed y (open_plan s.tables)) a l (omega arith) f.begun;
      wires = f.wires;
      lines = f.lines;
    }
fit-kept s k (channel c l d) r i x j f =
    let w = in_turn_lem s k Channel x.0 i in
    let two = two-ports s (and_parts (has_plans s) (has_ports s) w.1).1 in
    record {
      some = still s Channel Channel refl w.0 f;
      partitions = f.partitions;
      plans = f.plans;
      begun = not-after-plan Channel s.last _ s.tables.plans refl w.0 f.begun;
      wires = fit-channel s.partitions s.tables (channel_with c l d) f.wires j (record { some = x.1.0.0; short = x.1.0.1; room = x.1.1.0; shallow = omega (arith, deepest_most c) }) refl two;
      lines = f.lines;
    }
fit-kept s k (port p d n) r i x j f =
    let w = in_turn_lem s k Port x.0 i in
    record {
      some = still s Port Port refl w.0 f;
      partitions = f.partitions;
      plans = f.plans;
      begun = not-after-plan Port s.last _ s.tables.plans refl w.0 f.begun;
      wires = fit-port s.partitions s.tables (port_in s p d n) f.wires (leb-true _ _ w.1) r.ported.few refl (not_full s j.0) j.1 x.1.0 x.1.1 j.0;
      lines = f.lines;
    }
fit-kept s k (ipvi n p m) r i x j f =
    let w = in_turn_lem s k Ipvi x.0 i in
    record {
      some = still s Ipvi Ipvi refl w.0 f;
      partitions = fit-link s.partitions s.tables.partitions n p m f.partitions (x.1.1, x.1.2);
      plans = f.plans;
      begun = not-after-plan Ipvi s.last _ s.tables.plans refl w.0 f.begun;
      wires = f.wires;
      lines = f.lines;
    }
fit-kept s k (line l p) r i x j f =
    let w = in_turn_lem s k Line x.0 i in
    record {
      some = still s Line Line refl w.0 f;
      partitions = f.partitions;
      plans = f.plans;
      begun = not-after-plan Line s.last _ s.tables.plans refl w.0 f.begun;
      wires = f.wires;
      lines = λ i. replaced (Owner s.partitions) s.tables.lines l i (Some p) None (λ _ q e. let z : p ≡ q = cc in omega (arith, x.1.1)) (f.lines i);
    }
fit-kept s k (action (scopes.Partition p) e a l) r i x j f =
    let w = in_turn_lem s k Action x.0 i in
    record {
      some = still s Action Action refl w.0 f;
      partitions = fit-response s.partitions s.tables.partitions e p (record { action = a; log = l }) f.partitions;
      plans = f.plans;
      begun = not-after-plan Action s.last _ s.tables.plans refl w.0 f.begun;
      wires = f.wires;
      lines = f.lines;
    }
fit-kept s k (action scopes.System e a l) r i x j f =
    let w = in_turn_lem s k Action x.0 i in
    record {
      some = still s Action Action refl w.0 f;
      partitions = f.partitions;
      plans = f.plans;
      begun = not-after-plan Action s.last _ s.tables.plans refl w.0 f.begun;
      wires = f.wires;
      lines = f.lines;
    }

pub fit-nothing : Fit nothing
fit-nothing = record {
  some = λ e. absurd (false≢true e);
  partitions = record {
    size = refl;
    differ = λ i j l h. absurd (omega arith);
    sized = λ i h. absurd (omega arith);
    links = λ p i m. all_alike (λ (r : PartitionRow). get_or r.links i None ≡ Some m → (p < 0) × Mask 0 p m) 8 p (row_of Standard 0 no_name) row0
        (all_alike (λ (o : Option ℕ). o ≡ Some m → (p < 0) × Mask 0 p m) 8 i None None (no_link p m) (no_link p m)) (no_link p m);
  };
  plans = record { size = refl; each = λ i h. absurd (omega arith) };
  begun = λ i h. absurd (omega arith);
  wires = record {
    rows = refl;
    size = refl;
    few = omega arith;
    sound = λ c h. absurd (omega arith);
    paired = λ c h. absurd (omega arith);
    queues = λ c h. absurd (omega arith);
    counted = λ c h. absurd (omega arith);
    belong = λ i h. absurd (omega arith);
    first = λ i j l h. absurd (omega arith);
    names = λ i j l h. absurd (omega arith);
    sources = λ c h. absurd (omega arith);
  };
  lines = λ i. all_alike (Owner 0) 16 i None None (λ p e. absurd cc) (λ p e. absurd (cc));
}
  where
    no_link : (p m : ℕ) → None ≡ Some m → (p < 0) × Mask 0 p m
    no_link p m e = absurd cc

-- the same, with what it takes written out
pub fit_on : (s : Sofar) (k : Kind) (x : Said) → Room s → in_turn k s ≡ true → Told k s x → Related s x → Fit s → Fit (after s x)
unfolding Kept
fit_on = fit-kept
