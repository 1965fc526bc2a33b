-- A vector that is taken is the vector of a valid configuration.
use Rattle.std.proofs.Common.{◌≡◌, ℕ, zero, suc, ◌+◌, ◌-◌, ◌≤◌, Bool, true, false, ◌⊎◌, List, [], ◌∷◌, ◌++◌, length, get_or, drop, replicate, is_some, None, Option, sym, refl, ap, ◌∙◌, subst, inl, inr, append_assoc, arith}
use lib.ListN.{get_or-replicate}
use Rattle.std.proofs.lemmas.List.{append-nil, drop_all}
use Rattle.std.proofs.lemmas.Bool.{and_parts, false≢true}
use Rattle.tables.specs.Blank.{row0, plan0}
use Rattle.vector.specs.Bodies.{Said, next_direction, header, partition, plan, slot, channel, port, ipvi, line, action}
use Rattle.vector.specs.Config.{PlanIn, Config, Each, HasSlot, Valid, encode}
use Rattle.vector.specs.Encoding.{Bytes, bytes_of}
use Rattle.vector.specs.Frames.{framed}
use Rattle.vector.specs.Joins.{joined}
use Rattle.vector.specs.Out.{fine, then}
use Rattle.vector.specs.Ranges.{kind_said, Ranged}
use Rattle.vector.specs.Reading.{read_on, heard, followed, takes}
use Rattle.vector.specs.Reasons.{owed}
use Rattle.vector.specs.Rooms.{Room}
use Rattle.tables.specs.Rows.{row_of, no_name}
use Rattle.vector.specs.Sofars.{nothing, is_given}
use Rattle.vector.specs.Turns.{leads, ready, in_turn, settled}
use Rattle.vector.specs.declared.kind.Kind.{Kind}
use Rattle.tables.specs.declared.response.Scope.{Scope}
use Rattle.tables.specs.declared.response.Scope.TheVariants as scopes
use Rattle.vector.specs.declared.sofar.Sofar.{Sofar}
use Rattle.tables.specs.declared.partition.Class.TheVariants.{Standard}
use Rattle.tables.specs.declared.partition.PartitionRow.{PartitionRow}
use Rattle.tables.specs.Tables.{Plans}
use Rattle.vector.proofs.Outs.{then-fine, cond-fine}
use Rattle.tables.proofs.Lists.{all_alike}
use Rattle.vector.proofs.Cuts.{cut_off}
use Rattle.vector.proofs.Told.{Told}
use Rattle.vector.proofs.Joined.{after, Related, joined-fine}
use Rattle.vector.proofs.Rooms.{room_after}
use Rattle.vector.proofs.Heard.{was_told}
use Rattle.vector.proofs.Keeps.{room-nothing}
use Rattle.vector.proofs.Written.{front-written}
use Rattle.vector.proofs.Scans.{drop_more}
use Rattle.vector.proofs.Fits.{Fit, two-ports, fit_on, fit-nothing}
use Rattle.vector.proofs.Laws.{ended, all-partitions, all-plans, has_slot, taken-read}
use Rattle.vector.proofs.Seen.{SeenPlans}
use Rattle.vector.proofs.Stages.{stage, Seen}
use Rattle.vector.proofs.Grown.{Grown, earlier, grow, ports-done}

-- before any action no event has one
none-given : (c : Scope) (e : ℕ) → is_given c e nothing.given ≡ false
none-given (scopes.Partition p) e =
    all_alike (λ (l : List Bool). get_or l e false ≡ false) 8 p (replicate 8 false) [] (all_alike (λ b. b ≡ false) 8 e false false refl refl) refl
none-given scopes.System e = all_alike (λ b. b ≡ false) 4 (e - 8) false false refl refl

-- what stands in the tables after the header
pub seen-header : (n m : ℕ) → Seen (stage n m [] [] [] [] [] []) (after nothing (header n m))
seen-header n m = record {
  last = refl;
  count = refl;
  planned = refl;
  partitions = record { count = refl; names = λ n. refl };
  plans = record { count = refl; opened = tt };
  wires = record { count = refl; opened = tt; ports = refl; clashes = λ p c d n. refl };
  links = record {
    size = refl;
    each = λ p h. ap (λ (r : PartitionRow). length r.links) (get_or-replicate 8 p (row_of Standard 0 no_name) row0 h);
    links = λ p i h l. all_alike (λ (r : PartitionRow). is_some (get_or r.links i None) ≡ false) 8 p (row_of Standard 0 no_name) row0 (all_alike (λ (o : Option ℕ). is_some o ≡ false) 8 i None None refl refl) refl;
  };
  lines = record { size = refl; lines = λ i h. all_alike (λ (o : Option ℕ). is_some o ≡ false) 16 i None None refl refl };
  actions = record { size = refl; each = λ p h. ap length (get_or-replicate 8 p (replicate 8 false) [] h); system = refl; given = λ c e h. none-given c e };
}

-- the bytes so far are those of a configuration, or there are none
abbrev Consumed : List ℕ → Sofar → Type 0
Consumed pre s = ((s ≡ nothing) × (pre ≡ [])) ⊎ ((g : Config) × (Grown g s × (encode g ≡ pre)))

-- the first record is a header
begin : (x : Said) → leads (kind_said x) ≡ true → Ranged 0 (next_direction nothing.tables) x → (g : Config) × (Grown g (after nothing x) × (encode g ≡ bytes_of x))
begin (header n m) t r = (stage n m [] [] [] [] [] [], (record { seen = seen-header n m; promised = r; partitions = tt; plans = tt; slots = tt; channels = tt; ports = tt; links = tt; lines = tt; actions = tt }, refl))
begin (partition c z n) t r = absurd (false≢true t)
begin (plan f) t r = absurd (false≢true t)
begin (slot p b d) t r = absurd (false≢true t)
begin (channel k l d) t r = absurd (false≢true t)
begin (port p d n) t r = absurd (false≢true t)
begin (ipvi n p m) t r = absurd (false≢true t)
begin (line l p) t r = absurd (false≢true t)
begin (action c e a l) t r = absurd (false≢true t)

record_more : (pre : List ℕ) (s : Sofar) (k : Kind) (x : Said) → Room s → Fit s → in_turn k s ≡ true → Told k s x → Related s x → Consumed pre s → Consumed (pre ++ bytes_of x) (after s x)
record_more pre s k x room fit i t j (inl e) =
    let w = subst (λ (u : Sofar). (in_turn k u ≡ true) × Told k u x) e.0 (i, t) in
    let b = begin x (subst (λ k. leads k ≡ true) w.1.0 (and_parts (leads k) (ready k nothing) w.0).0) w.1.1 in
    subst (λ (u : Sofar). Consumed (pre ++ bytes_of x) (after u x)) (sym e.0) (inr (b.0, (b.1.0, b.1.1 ∙ ap (λ (l : List ℕ). l ++ bytes_of x) (sym e.1))))
record_more pre s k x room fit i t j (inr f) =
    let m = grow f.0 s k x f.1.0 room fit i t j in
    inr (m.config, (m.grown, m.bytes ∙ ap (λ (l : List ℕ). l ++ bytes_of x) f.1.1))

consumed : (k at : ℕ) (s t : Sofar) (bs pre : List ℕ) → Room s → Fit s → Bytes bs → Consumed pre s → read_on k at s bs ≡ fine t → Consumed (pre ++ drop k bs) t × ((Room t × Fit t) × (settled t ≡ true))
consumed k at s t [] pre room fit y c e =
    let z = cond-fine (settled s) (fine s) (owed at) t e in
    let q : s ≡ t = cc in
    let n : pre ++ drop k [] ≡ pre = ap (λ (l : List ℕ). pre ++ l) (drop_all k [] (omega arith)) ∙ append-nil pre in
    subst (λ (u : Sofar). Consumed (pre ++ drop k []) u × ((Room u × Fit u) × (settled u ≡ true))) q (subst (λ (l : List ℕ). Consumed l s) (sym n) c, ((room, fit), z.0))
consumed (suc k) at s t (b ∷ bs) pre room fit y c e = consumed k at s t bs pre room fit (λ i. y (suc i)) c e
consumed zero at s t (b ∷ bs) pre room fit y c e =
    let f = then-fine (framed at (b ∷ bs)) (λ f. then (followed at s f.kind f.body) (λ u. read_on (3 + length f.body) (at + (4 + length f.body)) u bs)) t e in
    let k = f.0.kind in
    let d = f.0.body in
    let g = then-fine (followed at s k d) (λ u. read_on (3 + length d) (at + (4 + length d)) u bs) t f.2 in
    let x = then-fine (heard at s k d) (joined at s) g.0 g.1 in
    let o = cut_off at (b ∷ bs) f.0 f.1 in
    let w = was_told at s k d x.0 o.suited x.1 in
    let j = joined-fine at s g.0 x.0 x.2 in
    let next : Room g.0 × (Fit g.0 × Consumed (pre ++ bytes_of x.0) g.0) =
    subst (λ (u : Sofar). Room u × (Fit u × Consumed (pre ++ bytes_of x.0) u)) j.1
    (room_after s k x.0 room w.0 w.1 j.0, (fit_on s k x.0 room w.0 w.1 j.0 fit, record_more pre s k x.0 room fit w.0 w.1 j.0 c)) in
    let rest = consumed (3 + length d) (at + (4 + length d)) g.0 t bs (pre ++ bytes_of x.0) next.0 next.1.0 (λ i. y (suc i)) next.1.1 g.2 in
    let whole : (pre ++ bytes_of x.0) ++ drop (3 + length d) bs ≡ pre ++ (b ∷ bs) =
    append_assoc pre (bytes_of x.0) (drop (3 + length d) bs)
    ∙ ap (λ (l : List ℕ). pre ++ l) (ap (λ (l : List ℕ). bytes_of x.0 ++ l) (sym (o.rest ∙ drop_more (length d) b bs)) ∙ sym (front-written at s (b ∷ bs) f.0 x.0 f.1 x.1 y)) in
    (subst (λ (l : List ℕ). Consumed l t) whole rest.0, rest.1)

-- each plan has a slot, where the last has
slots-all : (ps : List PlanIn) (t : Plans) → SeenPlans ps t → (1 ≤ t.count → 1 ≤ (get_or t.rows (t.count - 1) plan0).slots.count) → Each HasSlot (earlier ps) → Each HasSlot ps
slots-all [] t f one h = tt
slots-all (p ∷ ps) t f one h = (let o = one (omega (arith, f.count)) in omega (arith, f.opened.1), h)

-- a configuration to which nothing is owed is valid
complete : (g : Config) (s : Sofar) → Room s → Fit s → settled s ≡ true → Grown g s → Valid g
complete g s room fit e f =
    let t = s.tables in
    record {
      promised = f.promised;
      all = (sym f.seen.partitions.count ∙ (sym (all-partitions s room fit e) ∙ f.seen.count), sym f.seen.plans.count ∙ (sym (all-plans s room fit e) ∙ f.seen.planned));
      partitions = f.partitions;
      plans = f.plans;
      slots = slots-all g.plans t.plans f.seen.plans (λ h. has_slot s room fit e (t.plans.count - 1) (omega arith)) f.slots;
      channels = f.channels;
      ports = ports-done g.channels t.channels t.ports f.seen.wires (two-ports s (ended s room fit e).1.1.1) f.ports;
      links = f.links;
      lines = f.lines;
      actions = f.actions;
    }

pub taken_valid : (bs : List ℕ) → Bytes bs → takes bs ≡ true → (c : Config) × (Valid c × (encode c ≡ bs))
taken_valid bs y e =
    let o = taken-read bs e in
    let c = consumed 0 0 nothing o.0 bs [] room-nothing fit-nothing y (inl (refl, refl)) o.1.0 in
    elim c.0 [
      | inl z ↦ absurd (false≢true (subst (λ (u : Sofar). settled u ≡ true) z.0 c.1.1))
      | inr g ↦ (g.0, (complete g.0 o.0 c.1.0.0 c.1.0.1 c.1.1 g.1.0, g.1.1))
    ]
