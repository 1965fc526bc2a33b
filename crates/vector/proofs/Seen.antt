-- The tables as a configuration has them: what the reader asks of its tables has the answer that the lists give.
use Rattle.std.proofs.Common.{◌≡◌, ℕ, ◌+◌, ◌-◌, ◌<◌, Bool, true, false, ◌&&◌, ◌||◌, eqb, List, [], ◌∷◌, ◌++◌, length, get_or, take, set, replicate, is_some, Some, None, Option, sym, refl, ap, ◌∙◌, subst, ap₂, arith, get_or-set_same}
use Rattle.std.specs.Str.{bytes_eq}
use Rattle.std.proofs.Math.Bool.{or_assoc}
use Rattle.std.proofs.lemmas.List.{length-set}
use Rattle.std.proofs.lemmas.Bool.{eq-eqb, ne_eqb, cond-false, and_from, and_left, and_right, or_left}
use Rattle.tables.specs.Blank.{row0, slot0, plan0, channel0}
use Rattle.vector.specs.Config.{PartitionIn, PlanIn, PortIn, ChannelIn, LinkIn, LineIn, ActionIn, is_named, end_of_last, ports_in, is_link, is_line, same_scope, is_action}
use Rattle.tables.specs.Events.{InScope}
use Rattle.tables.specs.Names.{any, padded, same_name, has_name, clash}
use Rattle.tables.specs.Rows.{plan_with, placed, end_of, slot_end, ported, linked}
use Rattle.vector.specs.Sofars.{is_given, giving}
use Rattle.tables.specs.declared.response.Scope.{Scope}
use Rattle.tables.specs.declared.response.Scope.TheVariants as scopes
use Rattle.vector.specs.declared.given.Given.{Given}
use Rattle.tables.specs.declared.channel.Channel.{Channel}
use Rattle.tables.specs.declared.port.Direction.{Direction}
use Rattle.tables.specs.declared.partition.PartitionRow.{PartitionRow}
use Rattle.tables.specs.Tables.{Partitions, Plans, Channels, Ports}
use Rattle.tables.specs.declared.plan.Plan.{Plan}
use Rattle.tables.specs.declared.port.Port.{Port}
use Rattle.tables.specs.declared.plan.Slot.{Slot}
use Rattle.tables.proofs.Lists.{replaced, changed, all_alike, same-part}
use Rattle.vector.proofs.Anys.{any_more, any-set, padded-same}

-- partitions: how many there are, and which names they have

pub record SeenPartitions (ps : List PartitionIn) (t : Partitions) : Type 0 where
  pub count : t.count ≡ length ps
  pub names : (n : List ℕ) → any (has_name (padded n)) (take t.count t.rows) ≡ any (is_named n) ps

pub seen-partition : (ps : List PartitionIn) (t : Partitions) (p : PartitionIn) (row : PartitionRow) → SeenPartitions ps t → t.count < length t.rows → row.name ≡ padded p.name →
    SeenPartitions (p ∷ ps) (record { count = t.count + 1; rows = set t.rows t.count row })
seen-partition ps t p row f h e = record {
  count = omega (arith, f.count);
  names = λ n. any_more (has_name (padded n)) t.rows t.count row h
      ∙ ap₂ ◌||◌ (ap (λ m. same_name m (padded n)) e ∙ padded-same p.name n) (f.names n);
}

pub still-partitions : (ps : List PartitionIn) (t : Partitions) (q : ℕ) (v : PartitionRow) → SeenPartitions ps t → v.name ≡ (get_or t.rows q row0).name →
    SeenPartitions ps (record { count = t.count; rows = set t.rows q v })
still-partitions ps t q v f e = record {
  count = f.count;
  names = λ n. any-set (has_name (padded n)) t.rows t.count q v row0 (ap (λ m. same_name m (padded n)) e) ∙ f.names n;
}

-- plans: how many there are, and what the last one holds

abbrev SeenPlan : List PlanIn → Plan → Type 0
SeenPlan [] o = Unit {0}
SeenPlan (p ∷ ps) o = (o.frame ≡ p.frame) × (o.slots.count ≡ length p.slots) × (end_of o ≡ end_of_last p.slots)

pub record SeenPlans (ps : List PlanIn) (t : Plans) : Type 0 where
  pub count : t.count ≡ length ps
  pub opened : SeenPlan ps (get_or t.rows (t.count - 1) plan0)

pub seen-plan : (ps : List PlanIn) (t : Plans) (f : ℕ) → SeenPlans ps t → t.count < length t.rows →
    SeenPlans (record { frame = f; slots = [] } ∷ ps) (record { count = t.count + 1; rows = set t.rows t.count (plan_with f) })
seen-plan ps t f g h =
    let k : t.count + 1 - 1 ≡ t.count = omega arith in
    let e : get_or (set t.rows t.count (plan_with f)) (t.count + 1 - 1) plan0 ≡ plan_with f = ap (λ i. get_or (set t.rows t.count (plan_with f)) i plan0) k ∙ get_or-set_same t.rows t.count (plan_with f) plan0 h in
    record { count = omega (arith, g.count); opened = subst (SeenPlan (record { frame = f; slots = [] } ∷ ps)) (sym e) (refl, refl, refl) }

end_placed : (o : Plan) (x : Slot) → o.slots.count < length o.slots.rows → end_of (placed x o) ≡ slot_end x
end_placed o x h =
    let k : o.slots.count + 1 - 1 ≡ o.slots.count = omega arith in
    cond-false (eqb (o.slots.count + 1) 0) 0 _ (ne_eqb (o.slots.count + 1) 0 (λ e. omega arith))
    ∙ ap slot_end (ap (λ i. get_or (set o.slots.rows o.slots.count x) i slot0) k ∙ get_or-set_same o.slots.rows o.slots.count x slot0 h)

pub seen-slot : (p : PlanIn) (ps : List PlanIn) (t : Plans) (x : Slot) → SeenPlans (p ∷ ps) t → t.count - 1 < length t.rows →
    (get_or t.rows (t.count - 1) plan0).slots.count < length (get_or t.rows (t.count - 1) plan0).slots.rows →
    SeenPlans (record { frame = p.frame; slots = x ∷ p.slots } ∷ ps) (record { count = t.count; rows = set t.rows (t.count - 1) (placed x (get_or t.rows (t.count - 1) plan0)) })
seen-slot p ps t x g h l =
    let o = get_or t.rows (t.count - 1) plan0 in
    let e = get_or-set_same t.rows (t.count - 1) (placed x o) plan0 h in
    record {
      count = g.count;
      opened = subst (SeenPlan (record { frame = p.frame; slots = x ∷ p.slots } ∷ ps)) (sym e) (g.opened.0, omega (arith, g.opened.1), end_placed o x l);
    }

-- channels and ports: how many there are, what the last channel is, and which ports clash with another

-- a port of partition p and this name, of the channel of a port or not
abbrev pub clashes_with : ℕ → Bool → List ℕ → PortIn → Bool
clashes_with p same n q = eqb p q.partition && (same || bytes_eq n q.name)

abbrev pub clashes_in : ℕ → ℕ → List ℕ → List ChannelIn → Bool
clashes_in p c n [] = false
clashes_in p c n (k ∷ ks) = any (clashes_with p (eqb c (length ks)) n) k.ports || clashes_in p c n ks

abbrev SeenChannel : List ChannelIn → Channel → Type 0
SeenChannel [] o = Unit {0}
SeenChannel (k ∷ ks) o = (o.kind ≡ k.kind) × (o.ports ≡ length k.ports)

abbrev pub asked : ℕ → ℕ → Direction → List ℕ → Port
asked p c d n = record { partition = p; channel = c; direction = d; name = padded n }

pub record SeenWires (ks : List ChannelIn) (cs : Channels) (ps : Ports) : Type 0 where
  pub count : cs.count ≡ length ks
  pub opened : SeenChannel ks (get_or cs.rows (cs.count - 1) channel0)
  pub ports : ps.count ≡ length (ports_in ks)
  pub clashes : (p c : ℕ) (d : Direction) (n : List ℕ) → any (clash (asked p c d n)) (take ps.count ps.rows) ≡ clashes_in p c n ks

pub seen-channel : (ks : List ChannelIn) (cs : Channels) (ps : Ports) (k : ChannelIn) (x : Channel) → SeenWires ks cs ps → cs.count < length cs.rows → k.ports ≡ [] → x.kind ≡ k.kind → x.ports ≡ 0 →
    SeenWires (k ∷ ks) (record { count = cs.count + 1; rows = set cs.rows cs.count x }) ps
seen-channel ks cs ps k x f h none kind zero =
    let j : cs.count + 1 - 1 ≡ cs.count = omega arith in
    let e : get_or (set cs.rows cs.count x) (cs.count + 1 - 1) channel0 ≡ x = ap (λ i. get_or (set cs.rows cs.count x) i channel0) j ∙ get_or-set_same cs.rows cs.count x channel0 h in
    record {
      count = omega (arith, f.count);
      opened = subst (SeenChannel (k ∷ ks)) (sym e) (kind, zero ∙ sym (ap length none));
      ports = f.ports ∙ ap (λ (l : List PortIn). length (l ++ ports_in ks)) (sym none);
      clashes = λ p c d n. f.clashes p c d n ∙ ap (λ (l : List PortIn). any (clashes_with p (eqb c (length ks)) n) l || clashes_in p c n ks) (sym none);
    }

pub seen-port : (k : ChannelIn) (ks : List ChannelIn) (cs : Channels) (ps : Ports) (x : PortIn) (d : Direction) → SeenWires (k ∷ ks) cs ps → cs.count - 1 < length cs.rows → ps.count < length ps.rows →
    SeenWires (record { kind = k.kind; longest = k.longest; depth = k.depth; ports = x ∷ k.ports } ∷ ks)
    (record { count = cs.count; rows = set cs.rows (cs.count - 1) (ported (get_or cs.rows (cs.count - 1) channel0)) })
    (record { count = ps.count + 1; rows = set ps.rows ps.count (asked x.partition (cs.count - 1) d x.name) })
seen-port k ks cs ps x d f h l =
    let o = get_or cs.rows (cs.count - 1) channel0 in
    let k' : ChannelIn = record { kind = k.kind; longest = k.longest; depth = k.depth; ports = x ∷ k.ports } in
    let e = get_or-set_same cs.rows (cs.count - 1) (ported o) channel0 h in
    let own : cs.count - 1 ≡ length ks = omega (arith, f.count) in
    record {
      count = f.count;
      opened = subst (SeenChannel (k' ∷ ks)) (sym e) (f.opened.0, omega (arith, f.opened.1));
      ports = omega (arith, f.ports);
      clashes = λ p c d' n.
          any_more (clash (asked p c d' n)) ps.rows ps.count (asked x.partition (cs.count - 1) d x.name) l
          ∙ (ap₂ ◌||◌ (ap₂ (λ i b. eqb p x.partition && (eqb c i || b)) own (padded-same n x.name)) (f.clashes p c d' n)
          ∙ sym (or_assoc (clashes_with p (eqb c (length ks)) n x) (any (clashes_with p (eqb c (length ks)) n) k.ports) (clashes_in p c n ks)));
    }

-- one more record answers a test, or leaves it to those before

hit : (a b c : Bool) → a ≡ true → b ≡ true → ((a && b) || c) ≡ true
hit a b c e f = or_left (a && b) c (and_from a b e f)

miss : (a c : Bool) → a ≡ false → (a || c) ≡ c
miss a c e = ap (λ x. x || c) e

-- links: which there are

pub record SeenLinks (ks : List LinkIn) (t : Partitions) : Type 0 where
  pub size : length t.rows ≡ 8
  pub each : (p : ℕ) → p < 8 → length (get_or t.rows p row0).links ≡ 8
  pub links : (p i : ℕ) → p < 8 → i < 8 → is_some (get_or (get_or t.rows p row0).links i None) ≡ any (is_link i p) ks

pub no_links : (t : Partitions) (row : PartitionRow) → SeenLinks [] t → row.links ≡ replicate 8 None → SeenLinks [] (record { count = t.count + 1; rows = set t.rows t.count row })
no_links t row f e = record {
  size = length-set _ _ _ ∙ f.size;
  each = λ p h. replaced (λ (r : PartitionRow). length r.links ≡ 8) t.rows t.count p row row0 (λ _. ap length e) (f.each p h);
  links = λ p i h l. replaced (λ (r : PartitionRow). is_some (get_or r.links i None) ≡ false) t.rows t.count p row row0
      (λ _. ap (λ (l : List (Option ℕ)). is_some (get_or l i None)) e ∙ all_alike (λ (o : Option ℕ). is_some o ≡ false) 8 i None None refl refl) (f.links p i h l);
}

pub seen-link : (ks : List LinkIn) (t : Partitions) (x : LinkIn) → SeenLinks ks t → x.number < 8 → x.source < 8 →
    SeenLinks (x ∷ ks) (record { count = t.count; rows = set t.rows x.source (linked x.number x.mask (get_or t.rows x.source row0)) })
seen-link ks t x f a b =
    let n = x.number in
    let q = x.source in
    let row = get_or t.rows q row0 in
    let v = linked n x.mask row in
    record {
      size = length-set _ _ _ ∙ f.size;
      each = λ p h. replaced (λ (r : PartitionRow). length r.links ≡ 8) t.rows q p v row0 (λ e. length-set _ _ _ ∙ subst (λ k. length (get_or t.rows k row0).links ≡ 8) (sym e) (f.each p h)) (f.each p h);
      links = λ p i h l. changed (λ (r : PartitionRow). is_some (get_or r.links i None) ≡ any (is_link i p) (x ∷ ks)) t.rows q p v row0 (omega (arith, f.size))
          (λ e. changed (λ (o : Option ℕ). is_some o ≡ any (is_link i p) (x ∷ ks)) row.links n i (Some x.mask) None (omega (arith, f.each q b))
          (λ z. sym (hit (eqb n i) (eqb q p) (any (is_link i p) ks) (eq-eqb n i z) (eq-eqb q p e)))
          (λ ne. subst (λ k. is_some (get_or (get_or t.rows k row0).links i None) ≡ any (is_link i p) ks) (sym e) (f.links p i h l)
          ∙ sym (miss (eqb n i && eqb q p) (any (is_link i p) ks) (and_left (eqb n i) (eqb q p) (ne_eqb n i ne)))))
          (λ ne. f.links p i h l ∙ sym (miss (eqb n i && eqb q p) (any (is_link i p) ks) (and_right (eqb n i) (eqb q p) (ne_eqb q p ne))));
    }

pub still-links : (ks : List LinkIn) (t : Partitions) (q : ℕ) (v : PartitionRow) → SeenLinks ks t → v.links ≡ (get_or t.rows q row0).links → SeenLinks ks (record { count = t.count; rows = set t.rows q v })
still-links ks t q v f e = record {
  size = length-set _ _ _ ∙ f.size;
  each = λ p h. same-part (λ (r : PartitionRow). length r.links) t.rows q p v row0 (ap length e) ∙ f.each p h;
  links = λ p i h l. same-part (λ (r : PartitionRow). is_some (get_or r.links i None)) t.rows q p v row0 (ap (λ (l : List (Option ℕ)). is_some (get_or l i None)) e) ∙ f.links p i h l;
}

-- lines: which have an owner

pub record SeenLines (ls : List LineIn) (t : List (Option ℕ)) : Type 0 where
  pub size : length t ≡ 16
  pub lines : (i : ℕ) → i < 16 → is_some (get_or t i None) ≡ any (is_line i) ls

pub seen-line : (ls : List LineIn) (t : List (Option ℕ)) (x : LineIn) → SeenLines ls t → x.line < 16 → SeenLines (x ∷ ls) (set t x.line (Some x.partition))
seen-line ls t x f a = record {
  size = length-set _ _ _ ∙ f.size;
  lines = λ i h. changed (λ (o : Option ℕ). is_some o ≡ any (is_line i) (x ∷ ls)) t x.line i (Some x.partition) None (omega (arith, f.size))
      (λ e. sym (or_left (eqb x.line i) (any (is_line i) ls) (eq-eqb x.line i e)))
      (λ ne. f.lines i h ∙ sym (miss (eqb x.line i) (any (is_line i) ls) (ne_eqb x.line i ne)));
}

-- actions: which events have one

pub record SeenActions (xs : List ActionIn) (g : Given) : Type 0 where
  pub size : length g.partitions ≡ 8
  pub each : (p : ℕ) → p < 8 → length (get_or g.partitions p []) ≡ 8
  pub system : length g.system ≡ 4
  pub given : (c : Scope) (e : ℕ) → InScope c e → is_given c e g ≡ any (is_action c e) xs

module _ (xs : List ActionIn) (g : Given) (x : ActionIn) (f : SeenActions xs g) where
  by-partition : (p : ℕ) → x.scope ≡ scopes.Partition p → InScope (scopes.Partition p) x.event → (c : Scope) (e : ℕ) → InScope c e → is_given c e (giving (scopes.Partition p) x.event g) ≡ any (is_action c e) (x ∷ xs)
  by-partition p s a (scopes.Partition q) e h =
      let v = x.event in
      let row = get_or g.partitions p [] in
      let rest = any (is_action (scopes.Partition q) e) xs in
      let mine : any (is_action (scopes.Partition q) e) (x ∷ xs) ≡ ((eqb p q && eqb v e) || rest) = ap (λ (c : Scope). (same_scope c (scopes.Partition q) && eqb v e) || rest) s in
      changed (λ (l : List Bool). get_or l e false ≡ any (is_action (scopes.Partition q) e) (x ∷ xs)) g.partitions p q (set row v true) [] (omega (arith, f.size))
      (λ i. changed (λ b. b ≡ any (is_action (scopes.Partition q) e) (x ∷ xs)) row v e true false (omega (arith, f.each p a.0))
      (λ z. sym (mine ∙ hit (eqb p q) (eqb v e) rest (eq-eqb p q i) (eq-eqb v e z)))
      (λ ne. subst (λ k. get_or (get_or g.partitions k []) e false ≡ rest) (sym i) (f.given (scopes.Partition q) e h) ∙ sym (mine ∙ miss (eqb p q && eqb v e) rest (and_right (eqb p q) (eqb v e) (ne_eqb v e ne)))))
      (λ ne. f.given (scopes.Partition q) e h ∙ sym (mine ∙ miss (eqb p q && eqb v e) rest (and_left (eqb p q) (eqb v e) (ne_eqb p q ne))))
  by-partition p s a scopes.System e h =
      f.given scopes.System e h ∙ sym (ap (λ (c : Scope). (same_scope c scopes.System && eqb x.event e) || any (is_action scopes.System e) xs) s)

  by-system : x.scope ≡ scopes.System → InScope scopes.System x.event → (c : Scope) (e : ℕ) → InScope c e → is_given c e (giving scopes.System x.event g) ≡ any (is_action c e) (x ∷ xs)
  by-system s a (scopes.Partition q) e h =
      f.given (scopes.Partition q) e h ∙ sym (ap (λ (c : Scope). (same_scope c (scopes.Partition q) && eqb x.event e) || any (is_action (scopes.Partition q) e) xs) s)
  by-system s a scopes.System e h =
      let v = x.event in
      let rest = any (is_action scopes.System e) xs in
      let mine : any (is_action scopes.System e) (x ∷ xs) ≡ (eqb v e || rest) = ap (λ (c : Scope). (same_scope c scopes.System && eqb v e) || rest) s in
      changed (λ b. b ≡ any (is_action scopes.System e) (x ∷ xs)) g.system (v - 8) (e - 8) true false (omega (arith, f.system))
      (λ i. let z : v ≡ e = omega (arith, i, a.0, h.0) in sym (mine ∙ or_left (eqb v e) rest (eq-eqb v e z)))
      (λ ne. f.given scopes.System e h ∙ sym (mine ∙ miss (eqb v e) rest (ne_eqb v e (λ z. ne (ap (λ k. k - 8) z)))))

pub seen-action : (xs : List ActionIn) (g : Given) (x : ActionIn) (c : Scope) → x.scope ≡ c → SeenActions xs g → InScope c x.event → SeenActions (x ∷ xs) (giving c x.event g)
seen-action xs g x (scopes.Partition p) s f a = record {
  size = length-set _ _ _ ∙ f.size;
  each = λ q h. replaced (λ (l : List Bool). length l ≡ 8) g.partitions p q (set (get_or g.partitions p []) x.event true) [] (λ e. length-set _ _ _ ∙ f.each p a.0) (f.each q h);
  system = f.system;
  given = by-partition xs g x f p s a;
}
seen-action xs g x scopes.System s f a = record {
  size = f.size;
  each = f.each;
  system = length-set _ _ _ ∙ f.system;
  given = by-system xs g x f s a;
}
