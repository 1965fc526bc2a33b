-- A vector that is taken is the vector of a valid configuration: the configuration grows with each record.
use Rattle.std.proofs.Common.{◌≡◌, ℕ, ◌-◌, ◌≤◌, true, false, List, [], ◌∷◌, ◌++◌, length, get_or, Some, Option, sym, refl, ap, ◌∙◌, subst, arith}
use Rattle.std.proofs.lemmas.Bool.{and_parts, leb-true, false≢true, both_ways}
use Rattle.vector.specs.Bodies.{Said, NameAt, next_direction, header, partition, plan, slot, channel, port, ipvi, line, action}
use Rattle.tables.specs.Blank.{channel0}
use Rattle.vector.specs.Config.{said_slot, said_link, said_line, said_action, PartitionIn, PlanIn, PortIn, ChannelIn, LinkIn, LineIn, ActionIn, Config, Each, PartitionRule, PlanRule, ChannelRule, LinkRule, LineRule, ActionRule, HasSlot, HasPorts, said_channel, encode}
use Rattle.vector.specs.Encoding.{bytes_of}
use Rattle.tables.specs.Laws.{In}
use Rattle.vector.specs.Ranges.{kind_said, Ranged}
use Rattle.vector.specs.Rooms.{Room}
use Rattle.vector.specs.Turns.{follows, ready, has_plans, has_ports, in_turn}
use Rattle.vector.specs.declared.kind.Kind.{Kind}
use Rattle.vector.specs.declared.kind.Kind.TheVariants.{Partition, Plan, Slot, Channel, Port, Ipvi}
use Rattle.vector.specs.declared.sofar.Sofar.{Sofar}
use Rattle.tables.specs.Tables.{Channels, Ports}
use Rattle.tables.specs.declared.partition.Class.{Class}
use Rattle.tables.specs.declared.port.Direction.{Direction}
use Rattle.tables.specs.declared.plan.Slot as slots
use Rattle.vector.proofs.Told.{Told}
use Rattle.vector.proofs.Joined.{after, Related}
use Rattle.vector.proofs.Rooms.{in_turn_lem}
use Rattle.vector.proofs.Fits.{Fit, two-ports, not_full}
use Rattle.vector.proofs.Seen.{SeenWires}
use Rattle.vector.proofs.Sections.{add_partition_lem, add_plan_lem, add_slot_lem, add_channel_lem, add_port_lem, add_link_lem, add_line_lem, add_action}
use Rattle.vector.proofs.Stages.{stage, latest, last_plan, last_kind, Seen, bare, partition_rule, partition-seen, plan_rule, plan-seen, slot_rule, slot_seen, channel_rule, channel-seen, next-is, port_rule, port-seen, link_rule, link-seen, line_rule, line-seen, action-scope, action_rule, action-seen}

module _ {A : Type 0} where
  -- all records but the last
  abbrev pub earlier : List A → List A
  earlier [] = []
  earlier (x ∷ xs) = xs

-- a configuration so far: the last plan may lack slots, and the last channel ports
pub record Grown (g : Config) (s : Sofar) : Type 0 where
  pub seen : Seen g s
  pub promised : In 1 8 g.count × In 1 4 g.planned
  pub partitions : Each (PartitionRule g.count) g.partitions
  pub plans : Each (PlanRule g.count g.planned) g.plans
  pub slots : Each HasSlot (earlier g.plans)
  pub channels : Each (ChannelRule g.count) g.channels
  pub ports : Each HasPorts (earlier g.channels)
  pub links : Each (LinkRule g.count) g.links
  pub lines : Each (LineRule g.count) g.lines
  pub actions : Each (ActionRule g.count) g.actions

-- a kind that may follow neither of two kinds follows none of them
module _ {A : Type 0} where
  never : (xs : List A) (a b k : Kind) → follows k (Some a) ≡ false → follows k (Some b) ≡ false → follows k (Some (latest xs a b)) ≡ true → ⊥
  never [] a b k e f t = both_ways (follows k (Some b)) f t
  never (x ∷ xs) a b k e f t = both_ways (follows k (Some a)) e t

  later : (xs : List A) (a b k : Kind) → follows k (Some b) ≡ false → follows k (Some (latest xs a b)) ≡ true → 1 ≤ length xs
  later [] a b k f t = absurd (both_ways (follows k (Some b)) f t)
  later (x ∷ xs) a b k f t = omega arith

-- where a plan may come, each before it has a slot
slots-done : (ps : List PlanIn) (k : Kind) → follows Plan (Some (last_plan ps k)) ≡ true → Each HasSlot (earlier ps) → Each HasSlot ps
slots-done [] k t h = tt
slots-done (p ∷ ps) k t h = (later p.slots Slot Plan Plan refl t, h)

-- where the last channel has two ports, each has
pub ports-done : (ks : List ChannelIn) (cs : Channels) (ps : Ports) → SeenWires ks cs ps → (1 ≤ cs.count → 2 ≤ (get_or cs.rows (cs.count - 1) channel0).ports) → Each HasPorts (earlier ks) → Each HasPorts ks
ports-done [] cs ps f two h = tt
ports-done (k ∷ ks) cs ps f two h = (let o = two (omega (arith, f.count)) in omega (arith, f.opened.1), h)

-- the configuration with one record more
pub record More (g : Config) (s : Sofar) (x : Said) : Type 0 where
  pub config : Config
  pub grown : Grown config (after s x)
  pub bytes : encode config ≡ encode g ++ bytes_of x

module _ (n m : ℕ) (s : Sofar) (room : Room s) (fit : Fit s) where
  grow-partition : (ps : List PartitionIn) (c : Class) (z : ℕ) (x : NameAt) → Grown (stage n m ps [] [] [] [] []) s → ready Partition s ≡ true → Ranged s.partitions (next_direction s.tables) (partition c z x) → Related s (partition c z x) →
      More (stage n m ps [] [] [] [] []) s (partition c z x)
  grow-partition ps c z x f y r j =
      let p : PartitionIn = record { class = c; size = z; name = x.bytes } in
      record {
        config = stage n m (p ∷ ps) [] [] [] [] [];
        grown = record { seen = partition-seen n m s ps f.seen p x refl room fit y; promised = f.promised; partitions = (partition_rule n m s ps f.seen p x (next_direction s.tables) refl y r j, f.partitions); plans = tt; slots = tt; channels = tt; ports = tt; links = tt; lines = tt; actions = tt };
        bytes = add_partition_lem n m ps p;
      }

  grow-plan : (ps : List PartitionIn) (pls : List PlanIn) (g : ℕ) → Grown (stage n m ps pls [] [] [] []) s → follows Plan (Some (last_kind (stage n m ps pls [] [] [] []))) ≡ true → ready Plan s ≡ true → Ranged s.partitions (next_direction s.tables) (plan g) →
      More (stage n m ps pls [] [] [] []) s (plan g)
  grow-plan ps pls g f t y r = record {
    config = stage n m ps (record { frame = g; slots = [] } ∷ pls) [] [] [] [];
    grown = record { seen = plan-seen n m s ps pls f.seen g room fit y; promised = f.promised; partitions = f.partitions; plans = (plan_rule n m s ps pls f.seen g (next_direction s.tables) y r, f.plans); slots = slots-done pls _ t f.slots; channels = tt; ports = tt; links = tt; lines = tt; actions = tt };
    bytes = add_plan_lem n m ps g pls;
  }

  grow-slot : (ps : List PartitionIn) (p : PlanIn) (pls : List PlanIn) (x : slots.Slot) → Grown (stage n m ps (p ∷ pls) [] [] [] []) s → Ranged s.partitions (next_direction s.tables) (said_slot x) → Related s (said_slot x) →
      More (stage n m ps (p ∷ pls) [] [] [] []) s (said_slot x)
  grow-slot ps p pls x f r j =
      let o = f.plans.0 in
      record {
        config = stage n m ps (record { frame = p.frame; slots = x ∷ p.slots } ∷ pls) [] [] [] [];
        grown = record { seen = slot_seen n m s ps p pls f.seen x room fit j.0; promised = f.promised; partitions = f.partitions; plans = ((o.0, o.1, (slot_rule n m s ps p pls f.seen x (next_direction s.tables) r j, o.2)), f.plans.1); slots = f.slots; channels = tt; ports = tt; links = tt; lines = tt; actions = tt };
        bytes = add_slot_lem n m ps p pls x;
      }

  grow-channel : (ps : List PartitionIn) (pls : List PlanIn) (chs : List ChannelIn) (c : ChannelIn) → c.ports ≡ [] → Grown (stage n m ps pls chs [] [] []) s → ready Channel s ≡ true → Ranged s.partitions (next_direction s.tables) (said_channel c) → Related s (said_channel c) →
      More (stage n m ps pls chs [] [] []) s (said_channel c)
  grow-channel ps pls chs c e f y r j = record {
    config = stage n m ps pls (bare c ∷ chs) [] [] [];
    grown = record { seen = channel-seen n m s ps pls chs f.seen c fit j; promised = f.promised; partitions = f.partitions; plans = f.plans; slots = f.slots; channels = (channel_rule n m s ps pls chs f.seen c (next_direction s.tables) r j, f.channels); ports = ports-done chs s.tables.channels s.tables.ports f.seen.wires (two-ports s (and_parts (has_plans s) (has_ports s) y).1) f.ports; links = tt; lines = tt; actions = tt };
    bytes = add_channel_lem n m ps pls (bare c) chs refl;
  }

  grow-port : (ps : List PartitionIn) (pls : List PlanIn) (c : ChannelIn) (chs : List ChannelIn) (p : ℕ) (d : Direction) (x : NameAt) → Grown (stage n m ps pls (c ∷ chs) [] [] []) s → Ranged s.partitions (next_direction s.tables) (port p d x) → Related s (port p d x) →
      More (stage n m ps pls (c ∷ chs) [] [] []) s (port p d x)
  grow-port ps pls c chs p d x f r j =
      let q : PortIn = record { partition = p; name = x.bytes } in
      let o = f.channels.0 in
      record {
        config = stage n m ps pls (record { kind = c.kind; longest = c.longest; depth = c.depth; ports = q ∷ c.ports } ∷ chs) [] [] [];
        grown = record { seen = port-seen n m s ps pls c chs f.seen q d room fit (not_full s j.0); promised = f.promised; partitions = f.partitions; plans = f.plans; slots = f.slots; channels = ((o.0, o.1, o.2, (port_rule n m s ps pls c chs f.seen q d r.0 r.2 j.0 j.1, o.3)), f.channels.1); ports = f.ports; links = tt; lines = tt; actions = tt };
        bytes = add_port_lem n m ps pls c chs q ∙ ap (λ (d : Direction). encode (stage n m ps pls (c ∷ chs) [] [] []) ++ bytes_of (port p d x)) (sym (r.1 ∙ next-is n m s ps pls c chs f.seen));
      }

  grow-link : (ps : List PartitionIn) (pls : List PlanIn) (chs : List ChannelIn) (ks : List LinkIn) (x : LinkIn) → Grown (stage n m ps pls chs ks [] []) s → ready Ipvi s ≡ true → Ranged s.partitions (next_direction s.tables) (said_link x) → Related s (said_link x) →
      More (stage n m ps pls chs ks [] []) s (said_link x)
  grow-link ps pls chs ks x f y r j = record {
    config = stage n m ps pls chs (x ∷ ks) [] [];
    grown = record { seen = link-seen n m s ps pls chs ks f.seen room x (omega (arith, r.0.1)) (omega (arith, r.1, room.promised.partitions)); promised = f.promised; partitions = f.partitions; plans = f.plans; slots = f.slots; channels = f.channels; ports = f.ports; links = (link_rule n m s ps pls chs ks f.seen room x (next_direction s.tables) r j, f.links); lines = tt; actions = tt };
    bytes = add_link_lem n m ps pls chs ks x;
  }

  grow-line : (ps : List PartitionIn) (pls : List PlanIn) (chs : List ChannelIn) (ks : List LinkIn) (ls : List LineIn) (x : LineIn) → Grown (stage n m ps pls chs ks ls []) s → Ranged s.partitions (next_direction s.tables) (said_line x) → Related s (said_line x) →
      More (stage n m ps pls chs ks ls []) s (said_line x)
  grow-line ps pls chs ks ls x f r j = record {
    config = stage n m ps pls chs ks (x ∷ ls) [];
    grown = record { seen = line-seen n m s ps pls chs ks ls f.seen x (omega (arith, r.0.1)); promised = f.promised; partitions = f.partitions; plans = f.plans; slots = f.slots; channels = f.channels; ports = f.ports; links = f.links; lines = (line_rule n m s ps pls chs ks ls f.seen x (next_direction s.tables) r j, f.lines); actions = tt };
    bytes = add_line_lem n m ps pls chs ks ls x;
  }

  grow-action : (ps : List PartitionIn) (pls : List PlanIn) (chs : List ChannelIn) (ks : List LinkIn) (ls : List LineIn) (xs : List ActionIn) (x : ActionIn) → Grown (stage n m ps pls chs ks ls xs) s → Ranged s.partitions (next_direction s.tables) (said_action x) → Related s (said_action x) →
      More (stage n m ps pls chs ks ls xs) s (said_action x)
  grow-action ps pls chs ks ls xs x f r j = record {
    config = stage n m ps pls chs ks ls (x ∷ xs);
    grown = record { seen = action-seen n m s ps pls chs ks ls xs f.seen room x (action-scope n m s ps pls chs ks ls xs f.seen room x r.0); promised = f.promised; partitions = f.partitions; plans = f.plans; slots = f.slots; channels = f.channels; ports = f.ports; links = f.links; lines = f.lines; actions = (action_rule n m s ps pls chs ks ls xs f.seen room x (next_direction s.tables) r j, f.actions) };
    bytes = add_action n m ps pls chs ks ls xs x;
  }

  -- whichever record comes, the sections after its own are empty
  grow-by : (ps : List PartitionIn) (pls : List PlanIn) (chs : List ChannelIn) (ks : List LinkIn) (ls : List LineIn) (xs : List ActionIn) (x : Said) → Grown (stage n m ps pls chs ks ls xs) s →
      follows (kind_said x) (Some (last_kind (stage n m ps pls chs ks ls xs))) ≡ true → ready (kind_said x) s ≡ true → Ranged s.partitions (next_direction s.tables) x → Related s x → More (stage n m ps pls chs ks ls xs) s x
  grow-by ps pls chs ks ls xs (header a b) f t y r j = absurd (false≢true t)
  grow-by ps [] [] [] [] [] (partition c z x) f t y r j = grow-partition ps c z x f y r j
  grow-by ps (p ∷ pls) [] [] [] [] (partition c z x) f t y r j = absurd (never p.slots Slot Plan Partition refl refl t)
  grow-by ps pls (k ∷ chs) [] [] [] (partition c z x) f t y r j = absurd (never k.ports Port Channel Partition refl refl t)
  grow-by ps pls chs (k ∷ ks) [] [] (partition c z x) f t y r j = absurd (false≢true t)
  grow-by ps pls chs ks (l ∷ ls) [] (partition c z x) f t y r j = absurd (false≢true t)
  grow-by ps pls chs ks ls (a ∷ xs) (partition c z x) f t y r j = absurd (false≢true t)
  grow-by ps pls [] [] [] [] (plan g) f t y r j = grow-plan ps pls g f t y r
  grow-by ps pls (k ∷ chs) [] [] [] (plan g) f t y r j = absurd (never k.ports Port Channel Plan refl refl t)
  grow-by ps pls chs (k ∷ ks) [] [] (plan g) f t y r j = absurd (false≢true t)
  grow-by ps pls chs ks (l ∷ ls) [] (plan g) f t y r j = absurd (false≢true t)
  grow-by ps pls chs ks ls (a ∷ xs) (plan g) f t y r j = absurd (false≢true t)
  grow-by ps (p ∷ pls) [] [] [] [] (slot q b d) f t y r j = grow-slot ps p pls (record { partition = q; start = b; duration = d }) f r j
  grow-by ps [] [] [] [] [] (slot q b d) f t y r j = absurd (let o : 1 ≤ s.tables.plans.count = leb-true _ _ y in omega (arith, f.seen.plans.count))
  grow-by ps pls (k ∷ chs) [] [] [] (slot q b d) f t y r j = absurd (never k.ports Port Channel Slot refl refl t)
  grow-by ps pls chs (k ∷ ks) [] [] (slot q b d) f t y r j = absurd (false≢true t)
  grow-by ps pls chs ks (l ∷ ls) [] (slot q b d) f t y r j = absurd (false≢true t)
  grow-by ps pls chs ks ls (a ∷ xs) (slot q b d) f t y r j = absurd (false≢true t)
  grow-by ps pls chs [] [] [] (channel k l d) f t y r j = grow-channel ps pls chs (record { kind = k; longest = l; depth = d; ports = [] }) refl f y r j
  grow-by ps pls chs (i ∷ ks) [] [] (channel k l d) f t y r j = absurd (false≢true t)
  grow-by ps pls chs ks (i ∷ ls) [] (channel k l d) f t y r j = absurd (false≢true t)
  grow-by ps pls chs ks ls (a ∷ xs) (channel k l d) f t y r j = absurd (false≢true t)
  grow-by ps pls (c ∷ chs) [] [] [] (port p d x) f t y r j = grow-port ps pls c chs p d x f r j
  grow-by ps pls [] [] [] [] (port p d x) f t y r j = absurd (let o : 1 ≤ s.tables.channels.count = leb-true _ _ y in omega (arith, f.seen.wires.count))
  grow-by ps pls chs (i ∷ ks) [] [] (port p d x) f t y r j = absurd (false≢true t)
  grow-by ps pls chs ks (l ∷ ls) [] (port p d x) f t y r j = absurd (false≢true t)
  grow-by ps pls chs ks ls (a ∷ xs) (port p d x) f t y r j = absurd (false≢true t)
  grow-by ps pls chs ks [] [] (ipvi i p k) f t y r j = grow-link ps pls chs ks (record { number = i; source = p; mask = k }) f y r j
  grow-by ps pls chs ks (l ∷ ls) [] (ipvi i p k) f t y r j = absurd (false≢true t)
  grow-by ps pls chs ks ls (a ∷ xs) (ipvi i p k) f t y r j = absurd (false≢true t)
  grow-by ps pls chs ks ls [] (line l p) f t y r j = grow-line ps pls chs ks ls (record { line = l; partition = p }) f r j
  grow-by ps pls chs ks ls (a ∷ xs) (line l p) f t y r j = absurd (false≢true t)
  grow-by ps pls chs ks ls xs (action c e a l) f t y r j = grow-action ps pls chs ks ls xs (record { scope = c; event = e; action = a; log = l }) f r j

-- a record that is in turn, in range and related as it has to be goes into the configuration
pub grow : (g : Config) (s : Sofar) (k : Kind) (x : Said) → Grown g s → Room s → Fit s → in_turn k s ≡ true → Told k s x → Related s x → More g s x
grow g s k x f room fit i t j =
    let w = in_turn_lem s k (kind_said x) t.0 i in
    grow-by g.count g.planned s room fit g.partitions g.plans g.channels g.links g.lines g.actions x f (subst (λ (l : Option Kind). follows (kind_said x) l ≡ true) f.seen.last w.0) w.1 t.1 j
