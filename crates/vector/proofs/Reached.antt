-- The vector of a valid configuration is taken: its records are read one after another.
use Rattle.std.proofs.Common.{◌≡◌, ℕ, ◌≤◌, true, false, ◌&&◌, List, [], ◌∷◌, ◌++◌, length, Some, Option, sym, refl, ap, ◌∙◌, subst, append_assoc, arith, length-append}
use Rattle.std.proofs.lemmas.List.{append-nil}
use Rattle.std.proofs.lemmas.Bool.{and_from, cond-true, eq-eqb}
use Rattle.vector.specs.Bodies.{Said, next_direction, header, plan}
use Rattle.vector.specs.Config.{PartitionIn, PlanIn, PortIn, ChannelIn, LinkIn, LineIn, ActionIn, Config, Each, PartitionRule, SlotRule, PlanRule, ports_in, PortRule, ChannelRule, LinkRule, LineRule, ActionRule, HasSlot, HasPorts, Valid, direction_after, placeless, said_partition, said_slot, said_port, said_channel, said_link, said_line, said_action, encode, TakenIsValid}
use Rattle.vector.specs.Encoding.{bytes_of}
use Rattle.vector.specs.Out.{Out, fine, bad}
use Rattle.tables.specs.Laws.{In}
use Rattle.vector.specs.Ranges.{kind_said, Ranged}
use Rattle.vector.specs.Reading.{read_on, reading, verdict_of, taken, refused, takes}
use Rattle.vector.specs.Reasons.{owed}
use Rattle.vector.specs.Rooms.{Room}
use Rattle.vector.specs.Sofars.{nothing}
use Rattle.vector.specs.Turns.{follows, ready, in_turn, ends, has_partitions, has_plans, has_ports, settled}
use Rattle.vector.specs.declared.kind.Kind.{Kind}
use Rattle.vector.specs.declared.kind.Kind.TheVariants.{Header, Partition, Plan, Slot, Channel, Port, Ipvi, Line, Action}
use Rattle.vector.specs.declared.sofar.Sofar.{Sofar}
use Rattle.tables.specs.declared.plan.Slot as slots
use Rattle.vector.proofs.Joined.{after, Related}
use Rattle.vector.proofs.Rooms.{room_after}
use Rattle.vector.proofs.Keeps.{room-nothing}
use Rattle.vector.proofs.Fits.{Fit, fit_on, fit-nothing, not_full}
use Rattle.vector.proofs.Says.{scan-over}
use Rattle.vector.proofs.Sections.{add_partition_lem, add_plan_lem, add_slot_lem, add_channel_lem, add_port_lem, add_link_lem, add_line_lem, add_action}
use Rattle.vector.proofs.Stages.{stage, latest, last_plan, last_wire, last_kind, Seen, bare, closed_meets, partition_meets, partition-seen, plan_meets, plan-seen, slot_meets, slot_seen, channel_related, channel-seen, port_meets, port-seen, link_meets, link-seen, line_meets, line-seen, action-scope, action_meets, action-seen}
use Rattle.vector.proofs.Taken.{seen-header, taken_valid}

-- the vector of a configuration so far is read, and leaves a state that shows the configuration
record Reach (g : Config) : Type 0 where
  sofar : Sofar
  room : Room sofar
  fit : Fit sofar
  seen : Seen g sofar
  scans : (rest : List ℕ) → read_on 0 0 nothing (encode g ++ rest) ≡ read_on 0 (length (encode g)) sofar rest

-- one record more
reach : (g g' : Config) (x : Said) (r : Reach g) → follows (kind_said x) (Some (last_kind g)) ≡ true → ready (kind_said x) r.sofar ≡ true → Ranged r.sofar.partitions (next_direction r.sofar.tables) x → Related r.sofar x →
    Seen g' (after r.sofar x) → encode g' ≡ encode g ++ bytes_of x → Reach g'
reach g g' x r f y w j seen e =
    let s = r.sofar in
    let t : in_turn (kind_said x) s ≡ true = and_from (follows (kind_said x) s.last) (ready (kind_said x) s) (subst (λ (l : Option Kind). follows (kind_said x) l ≡ true) (sym r.seen.last) f) y in
    record {
      sofar = after s x;
      room = room_after s (kind_said x) x r.room t (refl, w) j;
      fit = fit_on s (kind_said x) x r.room t (refl, w) j r.fit;
      seen = seen;
      scans = λ rest.
          ap (λ (l : List ℕ). read_on 0 0 nothing (l ++ rest)) e
          ∙ (ap (read_on 0 0 nothing) (append_assoc (encode g) (bytes_of x) rest)
          ∙ (r.scans (bytes_of x ++ rest)
          ∙ (scan-over s (length (encode g)) x rest r.room.promised.partitions t w j
          ∙ ap (λ k. read_on 0 k (after s x) rest) (sym (ap length e ∙ length-append (encode g) (bytes_of x))))));
    }

-- which kind may follow the last record

module _ {A : Type 0} where
  either : (xs : List A) (a b k : Kind) → follows k (Some a) ≡ true → follows k (Some b) ≡ true → follows k (Some (latest xs a b)) ≡ true
  either [] a b k e f = f
  either (x ∷ xs) a b k e f = e

  present : (xs : List A) (a b k : Kind) → 1 ≤ length xs → follows k (Some a) ≡ true → follows k (Some (latest xs a b)) ≡ true
  present [] a b k h e = absurd (omega arith)
  present (x ∷ xs) a b k h e = e

after-plans : (pls : List PlanIn) (e k : Kind) → Each HasSlot pls → follows k (Some Slot) ≡ true → follows k (Some e) ≡ true → follows k (Some (last_plan pls e)) ≡ true
after-plans [] e k h f g = g
after-plans (p ∷ pls) e k h f g = present p.slots Slot Plan k h.0 f

after-slot : (pls : List PlanIn) (e k : Kind) → 1 ≤ length pls → Each HasSlot pls → follows k (Some Slot) ≡ true → follows k (Some (last_plan pls e)) ≡ true
after-slot [] e k l h f = absurd (omega arith)
after-slot (p ∷ pls) e k l h f = present p.slots Slot Plan k h.0 f

after-wires : (chs : List ChannelIn) (e k : Kind) → Each HasPorts chs → follows k (Some Port) ≡ true → follows k (Some e) ≡ true → follows k (Some (last_wire chs e)) ≡ true
after-wires [] e k h f g = g
after-wires (c ∷ chs) e k h f g = present c.ports Port Channel k (let o = h.0 in omega arith) f

module _ (n m : ℕ) (promised : In 1 8 n × In 1 4 m) where
  reach-header : Reach (stage n m [] [] [] [] [] [])
  reach-header = record {
    sofar = after nothing (header n m);
    room = room_after nothing Header (header n m) room-nothing refl (refl, promised) tt;
    fit = fit_on nothing Header (header n m) room-nothing refl (refl, promised) tt fit-nothing;
    seen = seen-header n m;
    scans = λ rest. scan-over nothing 0 (header n m) rest (omega arith) refl promised tt;
  }

  reach-partitions : (ps : List PartitionIn) → Each (PartitionRule n) ps → Reach (stage n m ps [] [] [] [] [])
  reach-partitions [] h = reach-header
  reach-partitions (p ∷ ps) h =
      let r = reach-partitions ps h.1 in
      let w = partition_meets n m r.sofar ps r.seen p (next_direction r.sofar.tables) h.0 in
      reach _ _ (said_partition p) r (either ps Partition Header Partition refl refl) w.0 w.1 w.2 (partition-seen n m r.sofar ps r.seen p (placeless p.name) refl r.room r.fit w.0) (add_partition_lem n m ps p)

  module _ (ps : List PartitionIn) (all : length ps ≡ n) (base : Reach (stage n m ps [] [] [] [] [])) where
    reach-slots : (f : ℕ) (pls : List PlanIn) → Reach (stage n m ps (record { frame = f; slots = [] } ∷ pls) [] [] [] []) → (xs : List slots.Slot) → Each (SlotRule n f) xs → Reach (stage n m ps (record { frame = f; slots = xs } ∷ pls) [] [] [] [])
    reach-slots f pls r [] h = r
    reach-slots f pls r (x ∷ xs) h =
        let q = reach-slots f pls r xs h.1 in
        let p : PlanIn = record { frame = f; slots = xs } in
        let w = slot_meets n m q.sofar ps p pls q.seen x (next_direction q.sofar.tables) h.0 in
        reach _ _ (said_slot x) q (either xs Slot Plan Slot refl refl) w.0 w.1 w.2 (slot_seen n m q.sofar ps p pls q.seen x q.room q.fit w.2.0) (add_slot_lem n m ps p pls x)

    reach-plans : (pls : List PlanIn) → Each (PlanRule n m) pls → Each HasSlot pls → Reach (stage n m ps pls [] [] [] [])
    reach-plans [] h k = base
    reach-plans (p ∷ pls) h k =
        let r = reach-plans pls h.1 k.1 in
        let y = plan_meets n m r.sofar ps pls r.seen p.frame all h.0.0 in
        let q = reach _ (stage n m ps (record { frame = p.frame; slots = [] } ∷ pls) [] [] [] []) (plan p.frame) r
        (after-plans pls (latest ps Partition Header) Plan k.1 refl (present ps Partition Header Plan (omega (arith, promised.0.0)) refl)) y h.0.1 tt
        (plan-seen n m r.sofar ps pls r.seen p.frame r.room r.fit y) (add_plan_lem n m ps p.frame pls) in
        reach-slots p.frame pls q p.slots h.0.2

    module _ (pls : List PlanIn) (every : length pls ≡ m) (slotted : Each HasSlot pls) (plans : Reach (stage n m ps pls [] [] [] [])) where
      -- what may come once the plans are there
      open_for : (k : Kind) (chs : List ChannelIn) → Each HasPorts chs → follows k (Some Slot) ≡ true → follows k (Some Port) ≡ true → follows k (Some (last_wire chs (last_plan pls (latest ps Partition Header)))) ≡ true
      open_for k chs h f g = after-wires chs _ k h g (after-slot pls (latest ps Partition Header) k (omega (arith, promised.1.0)) slotted f)

      reach-ports : (c : ChannelIn) (chs : List ChannelIn) → Reach (stage n m ps pls (bare c ∷ chs) [] [] []) → (qs : List PortIn) → Each (PortRule n c.kind (ports_in chs)) qs →
          Reach (stage n m ps pls (record { kind = c.kind; longest = c.longest; depth = c.depth; ports = qs } ∷ chs) [] [] [])
      reach-ports c chs r [] h = r
      reach-ports c chs r (q ∷ qs) h =
          let b = reach-ports c chs r qs h.1 in
          let k : ChannelIn = record { kind = c.kind; longest = c.longest; depth = c.depth; ports = qs } in
          let w = port_meets n m b.sofar ps pls k chs b.seen q h.0 in
          reach _ _ (said_port qs q) b (either qs Port Channel Port refl refl) w.0 w.1 w.2 (port-seen n m b.sofar ps pls k chs b.seen q (direction_after qs) b.room b.fit (not_full b.sofar w.2.0)) (add_port_lem n m ps pls k chs q)

      reach-channels : (chs : List ChannelIn) → Each (ChannelRule n) chs → Each HasPorts chs → Reach (stage n m ps pls chs [] [] [])
      reach-channels [] h k = plans
      reach-channels (c ∷ chs) h k =
          let r = reach-channels chs h.1 k.1 in
          let j = channel_related n m r.sofar ps pls chs r.seen c h.0.0 in
          let q = reach _ (stage n m ps pls (bare c ∷ chs) [] [] []) (said_channel c) r (open_for Channel chs k.1 refl refl) (closed_meets n m r.sofar _ r.seen every k.1) (h.0.1, h.0.2) j
          (channel-seen n m r.sofar ps pls chs r.seen c r.fit j) (add_channel_lem n m ps pls (bare c) chs refl) in
          reach-ports c chs q c.ports h.0.3

      module _ (chs : List ChannelIn) (wired : Each HasPorts chs) (channels : Reach (stage n m ps pls chs [] [] [])) where
        reach-links : (ks : List LinkIn) → Each (LinkRule n) ks → Reach (stage n m ps pls chs ks [] [])
        reach-links [] h = channels
        reach-links (x ∷ ks) h =
            let r = reach-links ks h.1 in
            let w = link_meets n m r.sofar ps pls chs ks r.seen r.room x (next_direction r.sofar.tables) h.0 in
            reach _ _ (said_link x) r (either ks Ipvi _ Ipvi refl (open_for Ipvi chs wired refl refl)) (closed_meets n m r.sofar _ r.seen every wired) w.0 w.1
            (link-seen n m r.sofar ps pls chs ks r.seen r.room x (omega (arith, w.0.0.1)) (omega (arith, w.0.1, r.room.promised.partitions))) (add_link_lem n m ps pls chs ks x)

        module _ (ks : List LinkIn) (links : Reach (stage n m ps pls chs ks [] [])) where
          reach-lines : (ls : List LineIn) → Each (LineRule n) ls → Reach (stage n m ps pls chs ks ls [])
          reach-lines [] h = links
          reach-lines (x ∷ ls) h =
              let r = reach-lines ls h.1 in
              let w = line_meets n m r.sofar ps pls chs ks ls r.seen x (next_direction r.sofar.tables) h.0 in
              reach _ _ (said_line x) r (either ls Line _ Line refl (either ks Ipvi _ Line refl (open_for Line chs wired refl refl))) (closed_meets n m r.sofar _ r.seen every wired) w.0 w.1
              (line-seen n m r.sofar ps pls chs ks ls r.seen x (omega (arith, w.0.0.1))) (add_line_lem n m ps pls chs ks ls x)

          -- an action may follow, or the end
          last_for : (ls : List LineIn) (xs : List ActionIn) → follows Action (Some (last_kind (stage n m ps pls chs ks ls xs))) ≡ true
          last_for ls xs = either xs Action _ Action refl (either ls Line _ Action refl (either ks Ipvi _ Action refl (open_for Action chs wired refl refl)))

          reach-actions : (ls : List LineIn) → Reach (stage n m ps pls chs ks ls []) → (xs : List ActionIn) → Each (ActionRule n) xs → Reach (stage n m ps pls chs ks ls xs)
          reach-actions ls b [] h = b
          reach-actions ls b (x ∷ xs) h =
              let r = reach-actions ls b xs h.1 in
              let w = action_meets n m r.sofar ps pls chs ks ls xs r.seen r.room x (next_direction r.sofar.tables) h.0 in
              reach _ _ (said_action x) r (last_for ls xs) (closed_meets n m r.sofar _ r.seen every wired) w.0 w.1
              (action-seen n m r.sofar ps pls chs ks ls xs r.seen r.room x (action-scope n m r.sofar ps pls chs ks ls xs r.seen r.room x w.0.0)) (add_action n m ps pls chs ks ls xs x)

-- a valid configuration is reached, and may be the end
reached : (c : Config) → Valid c → Reach c × (follows Action (Some (last_kind c)) ≡ true)
reached c v =
    let n = c.count in
    let m = c.planned in
    let all = v.all.0 in
    let every = v.all.1 in
    let partitions = reach-partitions n m v.promised c.partitions v.partitions in
    let plans = reach-plans n m v.promised c.partitions all partitions c.plans v.plans v.slots in
    let channels = reach-channels n m v.promised c.partitions all partitions c.plans every v.slots plans c.channels v.channels v.ports in
    let links = reach-links n m v.promised c.partitions all partitions c.plans every v.slots plans c.channels v.ports channels c.links v.links in
    let lines = reach-lines n m v.promised c.partitions all partitions c.plans every v.slots plans c.channels v.ports channels c.links links c.lines v.lines in (
      reach-actions n m v.promised c.partitions all partitions c.plans every v.slots plans c.channels v.ports channels c.links links c.lines lines c.actions v.actions,
      last_for n m v.promised c.partitions all partitions c.plans every v.slots plans c.channels v.ports channels c.links links c.lines c.actions,
    )

-- and nothing is owed to it
settles : (c : Config) → Valid c → (s : Sofar) → Seen c s → follows Action (Some (last_kind c)) ≡ true → settled s ≡ true
settles c v s f t =
    let e : ends s.last ≡ true = subst (λ (l : Option Kind). ends l ≡ true) (sym f.last) t in
    let h : has_partitions s ≡ true = eq-eqb _ _ (f.partitions.count ∙ (v.all.0 ∙ sym f.count)) in
    and_from (ends s.last) (has_partitions s && (has_plans s && has_ports s)) e (and_from (has_partitions s) (has_plans s && has_ports s) h (closed_meets c.count c.planned s c f v.all.1 v.ports))

pub valid_taken : (c : Config) → Valid c → takes (encode c) ≡ true
valid_taken c v =
    let w = reached c v in
    let r = w.0 in
    let e : reading (encode c) ≡ fine r.sofar =
    ap reading (sym (append-nil (encode c))) ∙ (r.scans [] ∙ cond-true (settled r.sofar) (fine r.sofar) (bad (owed (length (encode c)))) (settles c v r.sofar r.seen w.1)) in
    ap (λ (o : Out Sofar). elim (verdict_of o) [ taken ↦ true | refused l n p ↦ false ]) e

pub taken_is_valid : TakenIsValid
taken_is_valid bs y = (taken_valid bs y, λ c. subst (λ (l : List ℕ). takes l ≡ true) c.1.1 (valid_taken c.0 c.1.0))
