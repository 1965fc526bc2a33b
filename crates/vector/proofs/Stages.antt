-- A configuration record by record: its stages, what the reader's state shows of each, and the rule of the next record.
use Rattle.std.proofs.Common.{◌≡◌, ℕ, ◌+◌, ◌-◌, ◌<◌, ◌≤◌, Bool, true, false, cond, ◌&&◌, ◌||◌, eqb, ltb, leb, List, [], ◌∷◌, length, get_or, take, Some, sym, refl, ap, ◌∙◌, subst, ap₂, inl, inr, arith, length-append}
use Rattle.std.proofs.Math.Bool.{and-true}
use Rattle.std.proofs.lemmas.Bool.{and_parts, and_from, and_cases, or_parts, or_from, or_left, or_right, eq-eqb, ne_eqb, ltb-true, lt-ltb, le-leb, leb-false, lt-leb, cond-true, cond-false, both_ways}
use Rattle.tables.specs.Blank.{channel0}
use Rattle.vector.specs.Bodies.{NameAt, partition, plan, port, action, next_direction}
use Rattle.vector.specs.Config.{PartitionIn, PlanIn, PortIn, ChannelIn, LinkIn, LineIn, ActionIn, Config, Each, PartitionRule, SlotRule, PlanRule, ports_in, is_of, is_called, PortRule, ChannelRule, LinkRule, LineRule, ActionRule, HasPorts, direction_after, placeless, said_partition, said_slot, said_port, said_channel, said_link, said_line, said_action}
use Rattle.tables.specs.Rows.{is_queuing, row_of, channel_with, open_plan, open_channel}
use Rattle.vector.specs.Joins.{is_full}
use Rattle.tables.specs.Events.{InScope}
use Rattle.tables.specs.Names.{any, padded, has_name, clash}
use Rattle.tables.specs.Laws.{In}
use Rattle.vector.specs.Ranges.{Mask, EventIn, Ranged}
use Rattle.vector.specs.Rooms.{Room}
use Rattle.vector.specs.Turns.{has_partitions, has_plans, has_ports, ready}
use Rattle.vector.specs.declared.kind.Kind.{Kind}
use Rattle.vector.specs.declared.kind.Kind.TheVariants.{Header, Partition, Plan, Slot, Channel, Port, Ipvi, Line, Action}
use Rattle.tables.specs.declared.response.Scope.{Scope}
use Rattle.tables.specs.declared.response.Scope.TheVariants as scopes
use Rattle.vector.specs.declared.sofar.Sofar.{Sofar}
use Rattle.tables.specs.Tables.{Channels, Ports}
use Rattle.tables.specs.declared.port.Direction.{Direction}
use Rattle.tables.specs.declared.port.Direction.TheVariants.{Source, Destination}
use Rattle.tables.specs.declared.plan.Slot as slots
use Rattle.vector.proofs.Joined.{after, Related}
use Rattle.vector.proofs.Rooms.{in_scope}
use Rattle.vector.proofs.Fits.{Fit}
use Rattle.std.proofs.lemmas.List.Folds.{list_any-append}
use Rattle.vector.proofs.Seen.{SeenPartitions, seen-partition, still-partitions, SeenPlans, seen-plan, seen-slot, SeenWires, clashes_with, clashes_in, asked, seen-channel, seen-port, SeenLinks, no_links, seen-link, still-links, SeenLines, seen-line, SeenActions, seen-action}

abbrev pub stage : ℕ → ℕ → List PartitionIn → List PlanIn → List ChannelIn → List LinkIn → List LineIn → List ActionIn → Config
stage n m ps pls chs ks ls xs = record { count = n; planned = m; partitions = ps; plans = pls; channels = chs; links = ks; lines = ls; actions = xs }

-- the kind of the last record of a configuration

module _ {A : Type 0} where
  abbrev pub latest : List A → Kind → Kind → Kind
  latest [] k earlier = earlier
  latest (x ∷ xs) k earlier = k

abbrev pub last_plan : List PlanIn → Kind → Kind
last_plan [] earlier = earlier
last_plan (p ∷ ps) earlier = latest p.slots Slot Plan

abbrev pub last_wire : List ChannelIn → Kind → Kind
last_wire [] earlier = earlier
last_wire (c ∷ cs) earlier = latest c.ports Port Channel

abbrev pub last_kind : Config → Kind
last_kind g =
    latest g.actions Action (latest g.lines Line (latest g.links Ipvi
    (last_wire g.channels (last_plan g.plans (latest g.partitions Partition Header)))))

-- a channel without its ports
abbrev pub bare : ChannelIn → ChannelIn
bare c = record { kind = c.kind; longest = c.longest; depth = c.depth; ports = [] }

-- the reader's state as a configuration has it
pub record Seen (g : Config) (s : Sofar) : Type 0 where
  pub last : s.last ≡ Some (last_kind g)
  pub count : s.partitions ≡ g.count
  pub planned : s.plans ≡ g.planned
  pub partitions : SeenPartitions g.partitions s.tables.partitions
  pub plans : SeenPlans g.plans s.tables.plans
  pub wires : SeenWires g.channels s.tables.channels s.tables.ports
  pub links : SeenLinks g.links s.tables.partitions
  pub lines : SeenLines g.lines s.tables.lines
  pub actions : SeenActions g.actions s.given

-- the tests of a port, over the ports of its channel and those of others

module _ {A : Type 0} where
  any_same : (f g : A → Bool) → ((x : A) → f x ≡ g x) → (xs : List A) → any f xs ≡ any g xs
  any_same f g e [] = refl
  any_same f g e (x ∷ xs) = ap₂ ◌||◌ (e x) (any_same f g e xs)

in_others : (p c : ℕ) (n : List ℕ) (ks : List ChannelIn) → length ks ≤ c → clashes_in p c n ks ≡ any (is_called p n) (ports_in ks)
in_others p c n [] h = refl
in_others p c n (k ∷ ks) h =
    ap₂ ◌||◌ (ap (λ b. any (clashes_with p b n) k.ports) (ne_eqb c (length ks) (λ e. omega arith))) (in_others p c n ks (omega arith))
    ∙ sym (list_any-append (is_called p n) k.ports (ports_in ks))

in_channel : (p c : ℕ) (n : List ℕ) (k : ChannelIn) (ks : List ChannelIn) → c ≡ length ks → clashes_in p c n (k ∷ ks) ≡ (any (is_of p) k.ports || any (is_called p n) (ports_in ks))
in_channel p c n k ks e =
    ap₂ ◌||◌ (ap (λ b. any (clashes_with p b n) k.ports) (eq-eqb c (length ks) e) ∙ any_same (clashes_with p true n) (is_of p) (λ q. and-true (eqb p q.partition)) k.ports) (in_others p c n ks (omega arith))

direction_is : (qs : List PortIn) (k : ℕ) → k ≡ length qs → cond (eqb k 0) Source Destination ≡ direction_after qs
direction_is [] k e = cond-true (eqb k 0) Source Destination (eq-eqb k 0 e)
direction_is (q ∷ qs) k e = cond-false (eqb k 0) Source Destination (ne_eqb k 0 (λ z. omega arith))

-- the last channel has its two ports, where each has
ports-meet : (ks : List ChannelIn) (cs : Channels) (ps : Ports) → SeenWires ks cs ps → Each HasPorts ks → (eqb cs.count 0 || leb 2 (get_or cs.rows (cs.count - 1) channel0).ports) ≡ true
ports-meet [] cs ps f h = or_left _ _ (eq-eqb cs.count 0 f.count)
ports-meet (k ∷ ks) cs ps f h = let n = (get_or cs.rows (cs.count - 1) channel0).ports in or_right (eqb cs.count 0) (leb 2 n) (le-leb 2 n (omega (arith, f.opened.1, h.0)))

module _ (n m : ℕ) (s : Sofar) where
  module _ (ps : List PartitionIn) (f : Seen (stage n m ps [] [] [] [] []) s) where
    pub partition_rule : (p : PartitionIn) (x : NameAt) (d : Direction) → x.bytes ≡ p.name → ready Partition s ≡ true → Ranged s.partitions d (partition p.class p.size x) → Related s (partition p.class p.size x) → PartitionRule n ps p
    partition_rule p x d e t r j =
        let a : s.tables.partitions.count < s.partitions = ltb-true _ _ t in
        (omega (arith, f.count, f.partitions.count), r.0, subst (λ (b : List ℕ). In 1 16 (length b)) e r.1, sym (f.partitions.names p.name) ∙ subst (λ (b : List ℕ). any (has_name (padded b)) (take s.tables.partitions.count s.tables.partitions.rows) ≡ false) e j)

    pub partition_meets : (p : PartitionIn) (d : Direction) → PartitionRule n ps p → (ready Partition s ≡ true) × Ranged s.partitions d (said_partition p) × Related s (said_partition p)
    partition_meets p d r = (lt-ltb _ _ (omega (arith, f.count, f.partitions.count, r.0)), (r.1, r.2), f.partitions.names p.name ∙ r.3)

    pub partition-seen : (p : PartitionIn) (x : NameAt) → x.bytes ≡ p.name → Room s → Fit s → ready Partition s ≡ true → Seen (stage n m (p ∷ ps) [] [] [] [] []) (after s (partition p.class p.size x))
    partition-seen p x e r w t =
        let a : s.tables.partitions.count < s.partitions = ltb-true _ _ t in
        let row = row_of p.class p.size (padded x.bytes) in
        record {
          last = refl;
          count = f.count;
          planned = f.planned;
          partitions = seen-partition ps s.tables.partitions p row f.partitions (omega (arith, r.promised.partitions, w.partitions.size)) (ap padded e);
          plans = f.plans;
          wires = f.wires;
          links = no_links s.tables.partitions row f.links refl;
          lines = f.lines;
          actions = f.actions;
        }

  module _ (ps : List PartitionIn) (pls : List PlanIn) (f : Seen (stage n m ps pls [] [] [] []) s) where
    pub plan_rule : (g : ℕ) (d : Direction) → ready Plan s ≡ true → Ranged s.partitions d (plan g) → PlanRule n m pls (record { frame = g; slots = [] })
    plan_rule g d t r =
        let a : s.tables.plans.count < s.plans = ltb-true _ _ (and_parts _ _ t).1 in
        (omega (arith, f.planned, f.plans.count), r, tt)

    pub plan_meets : (g : ℕ) → length ps ≡ n → length pls < m → ready Plan s ≡ true
    plan_meets g e h =
        and_from (has_partitions s) (ltb s.tables.plans.count s.plans) (eq-eqb _ _ (f.partitions.count ∙ (e ∙ sym f.count))) (lt-ltb _ _ (omega (arith, f.planned, f.plans.count)))

    pub plan-seen : (g : ℕ) → Room s → Fit s → ready Plan s ≡ true → Seen (stage n m ps (record { frame = g; slots = [] } ∷ pls) [] [] [] []) (after s (plan g))
    plan-seen g r w t =
        let a : s.tables.plans.count < s.plans = ltb-true _ _ (and_parts _ _ t).1 in
        record {
          last = refl;
          count = f.count;
          planned = f.planned;
          partitions = f.partitions;
          plans = seen-plan pls s.tables.plans g f.plans (omega (arith, r.promised.plans, w.plans.size));
          wires = f.wires;
          links = f.links;
          lines = f.lines;
          actions = f.actions;
        }

  module _ (ps : List PartitionIn) (p : PlanIn) (pls : List PlanIn) (f : Seen (stage n m ps (p ∷ pls) [] [] [] []) s) where
    pub slot_rule : (x : slots.Slot) (d : Direction) → Ranged s.partitions d (said_slot x) → Related s (said_slot x) → SlotRule n p.frame p.slots x
    slot_rule x d r j =
        let o = f.plans.opened in
        (omega (arith, o.1, j.0), omega (arith, f.count, r.0), r.1, r.2, omega (arith, o.2, j.1), omega (arith, o.0, j.2))

    pub slot_meets : (x : slots.Slot) (d : Direction) → SlotRule n p.frame p.slots x → (ready Slot s ≡ true) × Ranged s.partitions d (said_slot x) × Related s (said_slot x)
    slot_meets x d r =
        let o = f.plans.opened in
        (le-leb 1 _ (omega (arith, f.plans.count)), (omega (arith, f.count, r.1), r.2, r.3), (omega (arith, o.1, r.0), omega (arith, o.2, r.4), omega (arith, o.0, r.5)))

    pub slot_seen : (x : slots.Slot) → Room s → Fit s → (open_plan s.tables).slots.count < 16 → Seen (stage n m ps (record { frame = p.frame; slots = x ∷ p.slots } ∷ pls) [] [] [] []) (after s (said_slot x))
    slot_seen x r w h =
        let k : s.tables.plans.count - 1 < s.tables.plans.count = omega (arith, f.plans.count) in
        record {
          last = refl;
          count = f.count;
          planned = f.planned;
          partitions = f.partitions;
          plans = seen-slot p pls s.tables.plans x f.plans (omega (arith, r.promised.plans, r.counted.plans, w.plans.size)) (omega (arith, (w.plans.each (s.tables.plans.count - 1) k).size));
          wires = f.wires;
          links = f.links;
          lines = f.lines;
          actions = f.actions;
        }

  -- all plans are there, and two ports of the last channel
  pub closed_meets : (g : Config) → Seen g s → length g.plans ≡ g.planned → Each HasPorts g.channels → (has_plans s && has_ports s) ≡ true
  closed_meets g f e h = and_from (has_plans s) (has_ports s) (eq-eqb _ _ (f.plans.count ∙ (e ∙ sym f.planned))) (ports-meet g.channels s.tables.channels s.tables.ports f.wires h)

  module _ (ps : List PartitionIn) (pls : List PlanIn) (chs : List ChannelIn) (f : Seen (stage n m ps pls chs [] [] []) s) where
    pub channel_rule : (c : ChannelIn) (d : Direction) → Ranged s.partitions d (said_channel c) → Related s (said_channel c) → ChannelRule n chs (bare c)
    channel_rule c d r j = (omega (arith, f.wires.count, j), r.0, r.1, tt)

    pub channel_related : (c : ChannelIn) → length chs < 8 → Related s (said_channel c)
    channel_related c h = omega (arith, f.wires.count)

    pub channel-seen : (c : ChannelIn) → Fit s → s.tables.channels.count < 8 → Seen (stage n m ps pls (bare c ∷ chs) [] [] []) (after s (said_channel c))
    channel-seen c w h = record {
      last = refl;
      count = f.count;
      planned = f.planned;
      partitions = f.partitions;
      plans = f.plans;
      wires = seen-channel chs s.tables.channels s.tables.ports (bare c) (channel_with c.kind c.longest c.depth) f.wires (omega (arith, w.wires.rows)) refl refl refl;
      links = f.links;
      lines = f.lines;
      actions = f.actions;
    }

  module _ (ps : List PartitionIn) (pls : List PlanIn) (c : ChannelIn) (chs : List ChannelIn) (f : Seen (stage n m ps pls (c ∷ chs) [] [] []) s) where
    own : s.tables.channels.count - 1 ≡ length chs
    own = omega (arith, f.wires.count)

    pub next-is : next_direction s.tables ≡ direction_after c.ports
    next-is = direction_is c.ports (open_channel s.tables).ports f.wires.opened.1

    clash-is : (p : PortIn) (d : Direction) → any (clash (asked p.partition (s.tables.channels.count - 1) d p.name)) (take s.tables.ports.count s.tables.ports.rows) ≡ (any (is_of p.partition) c.ports || any (is_called p.partition p.name) (ports_in chs))
    clash-is p d = f.wires.clashes p.partition (s.tables.channels.count - 1) d p.name ∙ in_channel p.partition (s.tables.channels.count - 1) p.name c chs own

    port-count : s.tables.ports.count ≡ length c.ports + length (ports_in chs)
    port-count = f.wires.ports ∙ length-append c.ports (ports_in chs)

    pub port_rule : (p : PortIn) (d : Direction) → p.partition < s.partitions → In 1 16 (length p.name) → is_full s.tables ≡ false →
        any (clash (asked p.partition (s.tables.channels.count - 1) d p.name)) (take s.tables.ports.count s.tables.ports.rows) ≡ false → PortRule n c.kind (ports_in chs) c.ports p
    port_rule p d a l full clear =
        let o = open_channel s.tables in
        let b = or_parts (leb 32 s.tables.ports.count) (is_queuing o.kind && leb 2 o.ports) full in
        let few : s.tables.ports.count < 32 = leb-false 32 _ b.0 in
        let e = or_parts (any (is_of p.partition) c.ports) (any (is_called p.partition p.name) (ports_in chs)) (sym (clash-is p d) ∙ clear) in (
          omega (arith, port-count),
          λ q. elim (and_cases (is_queuing o.kind) (leb 2 o.ports) b.1) [
            | inl z ↦ absurd (both_ways _ z (ap is_queuing f.wires.opened.0 ∙ q))
            | inr z ↦ let w : o.ports < 2 = leb-false 2 o.ports z in omega (arith, f.wires.opened.1)
          ],
          omega (arith, f.count),
          l,
          e.0,
          e.1,
        )

    not-queuing : (k : Bool) (i : ℕ) → (k ≡ true → i < 2) → (k && leb 2 i) ≡ false
    not-queuing true i h = lt-leb 2 i (h refl)
    not-queuing false i h = refl

    pub port_meets : (p : PortIn) → PortRule n c.kind (ports_in chs) c.ports p → (ready Port s ≡ true) × Ranged s.partitions (next_direction s.tables) (said_port c.ports p) × Related s (said_port c.ports p)
    port_meets p r =
        let o = open_channel s.tables in
        let queue : (is_queuing o.kind && leb 2 o.ports) ≡ false = not-queuing (is_queuing o.kind) o.ports (λ q. omega (arith, f.wires.opened.1, r.1 (ap is_queuing (sym f.wires.opened.0) ∙ q))) in (
          le-leb 1 _ (omega (arith, f.wires.count)),
          (omega (arith, f.count, r.2), sym next-is, r.3),
          (
            or_from (leb 32 s.tables.ports.count) (is_queuing o.kind && leb 2 o.ports) (lt-leb 32 _ (omega (arith, port-count, r.0))) queue,
            clash-is p (direction_after c.ports) ∙ or_from _ _ r.4 r.5,
          ),
        )

    pub port-seen : (p : PortIn) (d : Direction) → Room s → Fit s → s.tables.ports.count < 32 →
        Seen (stage n m ps pls (record { kind = c.kind; longest = c.longest; depth = c.depth; ports = p ∷ c.ports } ∷ chs) [] [] []) (after s (port p.partition d (placeless p.name)))
    port-seen p d r w h = record {
      last = refl;
      count = f.count;
      planned = f.planned;
      partitions = f.partitions;
      plans = f.plans;
      wires = seen-port c chs s.tables.channels s.tables.ports p d f.wires (omega (arith, r.ported.few, w.wires.rows, f.wires.count)) (omega (arith, w.wires.size));
      links = f.links;
      lines = f.lines;
      actions = f.actions;
    }

  module _ (ps : List PartitionIn) (pls : List PlanIn) (chs : List ChannelIn) (ks : List LinkIn) (f : Seen (stage n m ps pls chs ks [] []) s) (r : Room s) where
    pub link_rule : (x : LinkIn) (d : Direction) → Ranged s.partitions d (said_link x) → Related s (said_link x) → LinkRule n ks x
    link_rule x d a j =
        let low : x.number < 8 = omega (arith, a.0.1) in
        let there : x.source < 8 = omega (arith, a.1, r.promised.partitions) in
        (a.0, omega (arith, a.1, f.count), subst (λ k. Mask k x.source x.mask) f.count a.2, sym (f.links.links x.source x.number there low) ∙ j)

    pub link_meets : (x : LinkIn) (d : Direction) → LinkRule n ks x → Ranged s.partitions d (said_link x) × Related s (said_link x)
    link_meets x d a =
        let low : x.number < 8 = omega (arith, a.0.1) in
        let there : x.source < 8 = omega (arith, a.1, f.count, r.promised.partitions) in
        ((a.0, omega (arith, a.1, f.count), subst (λ k. Mask k x.source x.mask) (sym f.count) a.2), f.links.links x.source x.number there low ∙ a.3)

    pub link-seen : (x : LinkIn) → x.number < 8 → x.source < 8 → Seen (stage n m ps pls chs (x ∷ ks) [] []) (after s (said_link x))
    link-seen x a b = record {
      last = refl;
      count = f.count;
      planned = f.planned;
      partitions = still-partitions ps s.tables.partitions x.source _ f.partitions refl;
      plans = f.plans;
      wires = f.wires;
      links = seen-link ks s.tables.partitions x f.links a b;
      lines = f.lines;
      actions = f.actions;
    }

  module _ (ps : List PartitionIn) (pls : List PlanIn) (chs : List ChannelIn) (ks : List LinkIn) (ls : List LineIn) (f : Seen (stage n m ps pls chs ks ls []) s) where
    pub line_rule : (x : LineIn) (d : Direction) → Ranged s.partitions d (said_line x) → Related s (said_line x) → LineRule n ls x
    line_rule x d a j = let low : x.line < 16 = omega (arith, a.0.1) in (a.0, omega (arith, a.1, f.count), sym (f.lines.lines x.line low) ∙ j)

    pub line_meets : (x : LineIn) (d : Direction) → LineRule n ls x → Ranged s.partitions d (said_line x) × Related s (said_line x)
    line_meets x d a = let low : x.line < 16 = omega (arith, a.0.1) in ((a.0, omega (arith, a.1, f.count)), f.lines.lines x.line low ∙ a.2)

    pub line-seen : (x : LineIn) → x.line < 16 → Seen (stage n m ps pls chs ks (x ∷ ls) []) (after s (said_line x))
    line-seen x a = record {
      last = refl;
      count = f.count;
      planned = f.planned;
      partitions = f.partitions;
      plans = f.plans;
      wires = f.wires;
      links = f.links;
      lines = seen-line ls s.tables.lines x f.lines a;
      actions = f.actions;
    }

  module _ (ps : List PartitionIn) (pls : List PlanIn) (chs : List ChannelIn) (ks : List LinkIn) (ls : List LineIn) (xs : List ActionIn) (f : Seen (stage n m ps pls chs ks ls xs) s) (r : Room s) where
    pub action-scope : (x : ActionIn) → EventIn s.partitions x.scope x.event → InScope x.scope x.event
    action-scope x a = in_scope s.partitions x.scope x.event r.promised.partitions a

    pub action_rule : (x : ActionIn) (d : Direction) → Ranged s.partitions d (said_action x) → Related s (said_action x) → ActionRule n xs x
    action_rule x d a j = (subst (λ k. EventIn k x.scope x.event) f.count a.0, a.1, sym (f.actions.given x.scope x.event (action-scope x a.0)) ∙ j)

    pub action_meets : (x : ActionIn) (d : Direction) → ActionRule n xs x → Ranged s.partitions d (said_action x) × Related s (said_action x)
    action_meets x d a =
        let e = subst (λ k. EventIn k x.scope x.event) (sym f.count) a.0 in
        ((e, a.1), f.actions.given x.scope x.event (action-scope x e) ∙ a.2)

    action-tables : (x : ActionIn) (c : Scope) → x.scope ≡ c → InScope c x.event → Seen (stage n m ps pls chs ks ls (x ∷ xs)) (after s (action c x.event x.action x.log))
    action-tables x (scopes.Partition p) e a = record {
      last = refl;
      count = f.count;
      planned = f.planned;
      partitions = still-partitions ps s.tables.partitions p _ f.partitions refl;
      plans = f.plans;
      wires = f.wires;
      links = still-links ks s.tables.partitions p _ f.links refl;
      lines = f.lines;
      actions = seen-action xs s.given x (scopes.Partition p) e f.actions a;
    }
    action-tables x scopes.System e a = record {
      last = refl;
      count = f.count;
      planned = f.planned;
      partitions = f.partitions;
      plans = f.plans;
      wires = f.wires;
      links = f.links;
      lines = f.lines;
      actions = seen-action xs s.given x scopes.System e f.actions a;
    }

    pub action-seen : (x : ActionIn) → InScope x.scope x.event → Seen (stage n m ps pls chs ks ls (x ∷ xs)) (after s (said_action x))
    action-seen x a = action-tables x x.scope refl a
