-- What a record that joined those before it keeps, and what it makes of them.
use Rattle.std.proofs.Common.{◌≡◌, ℕ, ◌-◌, ◌<◌, ◌≤◌, Bool, false, cond, ◌&&◌, leb, get_or, take, is_some, None, refl, ap, ◌∙◌}
use Rattle.std.proofs.lemmas.Bool.{and_parts, and_from, leb-true, leb-false, le-leb, lt-leb, cond-true, cond-false}
use Rattle.vector.specs.Reasons.{Reason, too_many, repeated, misplaced}
use Rattle.vector.specs.Out.{Out, fine, bad, pass}
use Rattle.tables.specs.Names.{padded, named, clashes}
use Rattle.vector.specs.Bodies.{Said, NameAt, header, partition, plan, slot, channel, port, ipvi, line, action}
use Rattle.tables.specs.Rows.{row_of, channel_with, open_plan, end_of, slot_end, partition_at, add_partition, add_plan, add_slot, add_channel, add_port, add_link, add_line, respond}
use Rattle.vector.specs.Sofars.{with_header, with_tables, with_given, is_given, giving}
use Rattle.vector.specs.Joins.{joined, admitted, is_full}
use Rattle.vector.specs.declared.kind.Kind.TheVariants.{Partition, Plan, Slot, Channel, Port, Ipvi, Line, Action}
use Rattle.vector.specs.declared.sofar.Sofar.{Sofar}
use Rattle.tables.specs.declared.port.Direction.{Direction}
use Rattle.tables.specs.declared.plan.Plan as plans
use Rattle.tables.specs.declared.port.Port as ports
use Rattle.tables.specs.declared.plan.Slot as slots
use Rattle.vector.proofs.Outs.{pass-fine, cond-fine, cond-bad}

-- the port of a record, of the channel that was added last
abbrev pub port_in : Sofar → ℕ → Direction → NameAt → ports.Port
port_in s p d n = record { partition = p; channel = s.tables.channels.count - 1; direction = d; name = padded n.bytes }

-- what a record makes of what was said before
abbrev pub after : Sofar → Said → Sofar
after s (header n m) = with_header n m s
after s (partition c z n) = with_tables Partition (add_partition (row_of c z (padded n.bytes)) s.tables) s
after s (plan f) = with_tables Plan (add_plan f s.tables) s
after s (slot p b d) = with_tables Slot (add_slot (record { partition = p; start = b; duration = d }) s.tables) s
after s (channel k l d) = with_tables Channel (add_channel (channel_with k l d) s.tables) s
after s (port p d n) = with_tables Port (add_port (port_in s p d n) s.tables) s
after s (ipvi n p m) = with_tables Ipvi (add_link n p m s.tables) s
after s (line l p) = with_tables Line (add_line l p s.tables) s
after s (action c e a l) = with_given (giving c e s.given) (with_tables Action (respond c e (record { action = a; log = l }) s.tables) s)

-- a slot fits behind the slots of a plan
abbrev pub Admitted : plans.Plan → slots.Slot → Type 0
Admitted p x = (p.slots.count < 16) × (end_of p ≤ x.start) × (slot_end x ≤ p.frame)

-- the relations of a record to those before it
abbrev pub Related : Sofar → Said → Type 0
Related s (header n m) = Unit {0}
Related s (partition c z n) = named (take s.tables.partitions.count s.tables.partitions.rows) (padded n.bytes) ≡ false
Related s (plan f) = Unit {0}
Related s (slot p b d) = Admitted (open_plan s.tables) (record { partition = p; start = b; duration = d })
Related s (channel k l d) = s.tables.channels.count < 8
Related s (port p d n) = (is_full s.tables ≡ false) × (clashes (take s.tables.ports.count s.tables.ports.rows) (port_in s p d n) ≡ false)
Related s (ipvi n p m) = is_some (get_or (partition_at p s.tables).links n None) ≡ false
Related s (line l p) = is_some (get_or s.tables.lines l None) ≡ false
Related s (action c e a l) = is_given c e s.given ≡ false

admitted-fine : (at : ℕ) (p : plans.Plan) (x : slots.Slot) (u : Unit {0}) → admitted at p x ≡ fine u → Admitted p x
admitted-fine at p x u e =
    let fits = leb (end_of p) x.start && leb (slot_end x) p.frame in
    let a = cond-bad (leb 16 p.slots.count) (cond fits (fine tt) (bad (misplaced at))) (too_many at) u e in
    let b = and_parts (leb (end_of p) x.start) (leb (slot_end x) p.frame) (cond-fine fits (fine tt) (misplaced at) u a.1).0 in
    (leb-false 16 p.slots.count a.0, leb-true _ _ b.0, leb-true _ _ b.1)

module _ (at : ℕ) (s t : Sofar) where
  -- a test that a record has to fail
  missed : (b : Bool) (u : Sofar) (r : Reason) → cond b (bad r) (fine u) ≡ fine t → (b ≡ false) × (u ≡ t)
  missed b u r e = let g = cond-bad b (fine u) r t e in (g.0, cc)

  pub joined-fine : (x : Said) → joined at s x ≡ fine t → Related s x × (after s x ≡ t)
  joined-fine (header n m) e = (tt, cc)
  joined-fine (partition c z n) e = missed _ (after s (partition c z n)) (repeated at) e
  joined-fine (plan f) e = (tt, cc)
  joined-fine (slot p b d) e =
      let y : slots.Slot = record { partition = p; start = b; duration = d } in
      let g = pass-fine (admitted at (open_plan s.tables) y) (fine (after s (slot p b d))) t e in
      (admitted-fine at (open_plan s.tables) y g.0 g.1, cc)
  joined-fine (channel k l d) e =
      let g = missed (leb 8 s.tables.channels.count) (after s (channel k l d)) (too_many at) e in
      (leb-false 8 _ g.0, g.1)
  joined-fine (port p d n) e =
      let used = clashes (take s.tables.ports.count s.tables.ports.rows) (port_in s p d n) in
      let g = cond-bad (is_full s.tables) (cond used (bad (repeated at)) (fine (after s (port p d n)))) (too_many at) t e in
      let h = missed used (after s (port p d n)) (repeated at) g.1 in
      ((g.0, h.0), h.1)
  joined-fine (ipvi n p m) e = missed _ (after s (ipvi n p m)) (repeated at) e
  joined-fine (line l p) e = missed _ (after s (line l p)) (repeated at) e
  joined-fine (action c v a l) e = missed _ (after s (action c v a l)) (repeated at) e

fine-admitted : (at : ℕ) (p : plans.Plan) (x : slots.Slot) → Admitted p x → admitted at p x ≡ fine tt
fine-admitted at p x h =
    let fits = leb (end_of p) x.start && leb (slot_end x) p.frame in
    cond-false (leb 16 p.slots.count) (bad (too_many at)) (cond fits (fine tt) (bad (misplaced at))) (lt-leb 16 p.slots.count h.0)
    ∙ cond-true fits (fine tt) (bad (misplaced at)) (and_from (leb (end_of p) x.start) (leb (slot_end x) p.frame) (le-leb _ _ h.1) (le-leb _ _ h.2))

module _ (at : ℕ) (s : Sofar) where
  pub fine-joined : (x : Said) → Related s x → joined at s x ≡ fine (after s x)
  fine-joined (header n m) r = refl
  fine-joined (partition c z n) r = cond-false _ _ _ r
  fine-joined (plan f) r = refl
  fine-joined (slot p b d) r =
      ap (λ (o : Out (Unit {0})). pass o (fine (after s (slot p b d)))) (fine-admitted at (open_plan s.tables) (record { partition = p; start = b; duration = d }) r)
  fine-joined (channel k l d) r = cond-false (leb 8 s.tables.channels.count) _ _ (lt-leb 8 _ r)
  fine-joined (port p d n) r = cond-false (is_full s.tables) _ _ r.0 ∙ cond-false _ _ _ r.1
  fine-joined (ipvi n p m) r = cond-false _ _ _ r
  fine-joined (line l p) r = cond-false _ _ _ r
  fine-joined (action c e a l) r = cond-false _ _ _ r
