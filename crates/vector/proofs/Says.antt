-- A record that keeps the rules is taken.
use Rattle.std.proofs.Common.{◌≡◌, ℕ, ◌+◌, ◌*◌, ◌/◌, ◌%◌, ◌^◌, ◌<◌, ◌≤◌, Bool, true, false, not, ◌&&◌, eqb, ltb, leb, List, ◌++◌, length, take, drop, sym, refl, ap, ◌∙◌, ap₂, arith, length-append}
use Rattle.std.proofs.lemmas.List.{take-append-le, drop-append-le, take_all, drop_all, drop-drop}
use Rattle.std.proofs.lemmas.Nat.{pow_pos, div_below}
use Rattle.std.proofs.lemmas.Bool.{and_from, le-leb, lt-ltb, le-ltb, eq-eqb, cond-true, cond-false, not_from_false}
use Rattle.vector.specs.Reasons.{out_of_range, out_of_turn}
use Rattle.vector.specs.Out.{Out, fine, bad, then, pass}
use Rattle.tables.specs.Numbers.{class_number, channel_number, scope_number, action_number, direction_number}
use Rattle.vector.specs.Encoding.{flag_number, body_of, bytes_of}
use Rattle.vector.specs.Fields.{within, existing, class_of, channel_kind_of, deepest, directed, masked, scope_of, event_of, action_of, flag_of}
use Rattle.tables.specs.Bits.{has_bit}
use Rattle.frame.specs.Frames.{word16}
use Rattle.vector.specs.Frames.{suits, kind_of, Framed, framed}
use Rattle.vector.specs.Bodies.{Said, NameAt, header, partition, plan, slot, channel, port, ipvi, line, action, next_direction, said_by}
use Rattle.vector.specs.Ranges.{kind_said, Mask, EventIn, Allows, Ranged}
use Rattle.tables.specs.Laws.{In}
use Rattle.vector.specs.Turns.{kind_number, in_turn}
use Rattle.vector.specs.Reading.{read_on, heard}
use Rattle.vector.specs.Points.{Point, step_over}
use Rattle.vector.specs.declared.kind.Kind.{Kind}
use Rattle.vector.specs.declared.kind.Kind.TheVariants.{Header, Partition, Plan, Slot, Channel, Port, Ipvi, Line, Action}
use Rattle.tables.specs.declared.response.Scope.{Scope}
use Rattle.tables.specs.declared.response.Scope.TheVariants as scopes
use Rattle.vector.specs.declared.sofar.Sofar.{Sofar}
use Rattle.tables.specs.declared.response.Action as actions
use Rattle.tables.specs.declared.response.Action.TheVariants.{Ignore, Signal, Suspend, Halt, WarmReset, ColdReset}
use Rattle.tables.specs.declared.channel.ChannelKind.{ChannelKind}
use Rattle.tables.specs.declared.channel.ChannelKind.TheVariants.{Sampling, Queuing}
use Rattle.tables.specs.declared.partition.Class.{Class}
use Rattle.tables.specs.declared.partition.Class.TheVariants.{Standard, System}
use Rattle.tables.specs.declared.port.Direction.{Direction}
use Rattle.vector.proofs.Cuts.{framed-fine}
use Rattle.vector.proofs.Joined.{after, Related, fine-joined}
use Rattle.vector.proofs.Scans.{Stepped, scan_step}

-- what is said, with its name where it stands in a body at `at`
abbrev pub spot : ℕ → Said → Said
spot at (header n m) = header n m
spot at (partition c z n) = partition c z (record { at = at + 3; bytes = n.bytes })
spot at (plan f) = plan f
spot at (slot p b d) = slot p b d
spot at (channel k l d) = channel k l d
spot at (port p d n) = port p d (record { at = at + 2; bytes = n.bytes })
spot at (ipvi n p m) = ipvi n p m
spot at (line l p) = line l p
spot at (action s e a l) = action s e a l

-- single fields

fine-within : (low high at v : ℕ) → In low high v → within low high at v ≡ fine tt
fine-within low high at v h = cond-true (leb low v && leb v high) (fine tt) (bad (out_of_range at)) (and_from (leb low v) (leb v high) (le-leb low v h.0) (le-leb v high h.1))

fine-existing : (n at p : ℕ) → p < n → existing n at p ≡ fine tt
fine-existing n at p h = cond-true (ltb p n) (fine tt) (bad (out_of_range at)) (lt-ltb p n h)

fine-masked : (n p at m : ℕ) → Mask n p m → masked n p at m ≡ fine tt
fine-masked n p at m h =
    let z : m / 2 ^ n ≡ 0 = omega (arith, div_below m (2 ^ n) 1 (pow_pos n) (omega (arith, h.0))) in
    cond-true (eqb (m / 2 ^ n) 0 && not (has_bit m p)) (fine tt) (bad (out_of_range at)) (and_from _ _ (eq-eqb (m / 2 ^ n) 0 z) (not_from_false (has_bit m p) h.1))

class-read : (at : ℕ) (c : Class) → class_of at (class_number c) ≡ fine c
class-read at Standard = refl
class-read at System = refl

channel-read : (at : ℕ) (k : ChannelKind) → channel_kind_of at (channel_number k) ≡ fine k
channel-read at Sampling = refl
channel-read at Queuing = refl

flag_read : (at : ℕ) (l : Bool) → flag_of at (flag_number l) ≡ fine l
flag_read at false = refl
flag_read at true = refl

scope-read : (n at : ℕ) (c : Scope) (e : ℕ) → n ≤ 8 → EventIn n c e → scope_of n at (scope_number c) ≡ fine c
scope-read n at (scopes.Partition p) e l h = cond-true (ltb p n) _ _ (lt-ltb p n h.0)
scope-read n at scopes.System e l h = cond-false (ltb 255 n) _ _ (le-ltb 255 n (omega arith))

event-read : (n at e : ℕ) (c : Scope) → EventIn n c e → event_of c at e ≡ fine tt
event-read n at e (scopes.Partition p) h = fine-within 0 7 at e h.1
event-read n at e scopes.System h = fine-within 8 11 at e h

action-read : (at : ℕ) (c : Scope) (a : actions.Action) → Allows c a → action_of c at (action_number a) ≡ fine a
action-read at (scopes.Partition p) Ignore h = refl
action-read at (scopes.Partition p) Signal h = refl
action-read at (scopes.Partition p) Suspend h = refl
action-read at (scopes.Partition p) Halt h = refl
action-read at (scopes.Partition p) WarmReset h = refl
action-read at (scopes.Partition p) ColdReset h = refl
action-read at scopes.System Ignore h = refl
action-read at scopes.System Signal h = absurd h
action-read at scopes.System Suspend h = absurd h
action-read at scopes.System Halt h = refl
action-read at scopes.System WarmReset h = refl
action-read at scopes.System ColdReset h = refl

-- the number that two bytes of it give, and four
word_two : (n : ℕ) → n % 256 + 256 * (n / 256) ≡ n
word_two n = omega arith

word_four : (n : ℕ) → (n % 65536 % 256 + 256 * (n % 65536 / 256)) + 65536 * (n / 65536 % 256 + 256 * (n / 65536 / 256)) ≡ n
word_four n = omega arith

module _ {X Y : Type 0} where
  passes : {o : Out X} {x : X} (q : Out Y) → o ≡ fine x → pass o q ≡ q
  passes q e = ap (λ (o : Out X). pass o q) e

  goes : {o : Out X} {x : X} (f : X → Out Y) → o ≡ fine x → then o f ≡ f x
  goes f e = ap (λ (o : Out X). then o f) e

module _ (s : Sofar) (at : ℕ) (few : s.partitions ≤ 8) where
  says : (x : Said) → Ranged s.partitions (next_direction s.tables) x → said_by (kind_said x) s at (body_of x) ≡ fine (spot at x)
  says (header n m) r = passes _ (fine-within 1 8 at n r.0) ∙ passes _ (fine-within 1 4 (at + 1) m r.1)
  says (partition c z n) r =
      let N : NameAt = record { at = at + 3; bytes = n.bytes } in
      goes (λ c. pass (within 1 1024 (at + 1) (z % 256 + 256 * (z / 256))) (fine (partition c (z % 256 + 256 * (z / 256)) N))) (class-read at c)
      ∙ (ap (λ w. pass (within 1 1024 (at + 1) w) (fine (partition c w N))) (word_two z) ∙ passes _ (fine-within 1 1024 (at + 1) z r.0))
  says (plan f) r = ap (λ w. pass (within 1 1000000 at w) (fine (plan w))) (word_four f) ∙ passes _ (fine-within 1 1000000 at f r)
  says (slot p b d) r =
      passes _ (fine-existing s.partitions at p r.0)
      ∙ (ap₂ (λ v w. pass (within 0 999999 (at + 1) v) (pass (within 1 1000000 (at + 5) w) (fine (slot p v w)))) (word_four b) (word_four d)
      ∙ (passes _ (fine-within 0 999999 (at + 1) b r.1) ∙ passes _ (fine-within 1 1000000 (at + 5) d r.2)))
  says (channel k l d) r =
      goes (λ k. pass (within 1 64 (at + 1) (l % 256 + 256 * (l / 256))) (pass (within 1 (deepest k) (at + 3) d) (fine (channel k (l % 256 + 256 * (l / 256)) d)))) (channel-read at k)
      ∙ (ap (λ w. pass (within 1 64 (at + 1) w) (pass (within 1 (deepest k) (at + 3) d) (fine (channel k w d)))) (word_two l)
      ∙ (passes _ (fine-within 1 64 (at + 1) l r.0) ∙ passes _ (fine-within 1 (deepest k) (at + 3) d r.1)))
  says (port p d n) r =
      let N : NameAt = record { at = at + 2; bytes = n.bytes } in
      let D = next_direction s.tables in
      let e : directed D (at + 1) (direction_number d) ≡ fine tt = cond-true _ _ _ (eq-eqb (direction_number d) (direction_number D) (ap direction_number r.1)) in
      passes _ (fine-existing s.partitions at p r.0) ∙ (passes _ e ∙ ap (λ x. fine (port p x N)) (sym r.1))
  says (ipvi n p m) r = passes _ (fine-within 0 7 at n r.0) ∙ (passes _ (fine-existing s.partitions (at + 1) p r.1) ∙ passes _ (fine-masked s.partitions p (at + 2) m r.2))
  says (line l p) r = passes _ (fine-within 0 15 at l r.0) ∙ passes _ (fine-existing s.partitions (at + 1) p r.1)
  says (action c e a l) r =
      goes (λ c. pass (event_of c (at + 1) e) (then (action_of c (at + 2) (action_number a)) (λ a. then (flag_of (at + 3) (flag_number l)) (λ l. fine (action c e a l))))) (scope-read s.partitions at c e few r.0)
      ∙ (passes _ (event-read s.partitions (at + 1) e c r.0)
      ∙ (goes (λ a. then (flag_of (at + 3) (flag_number l)) (λ l. fine (action c e a l))) (action-read (at + 2) c a r.1)
      ∙ goes (λ l. fine (action c e a l)) (flag_read (at + 3) l)))

-- the body of a record in range suits its kind
suited : (n : ℕ) (d : Direction) (x : Said) → Ranged n d x → suits (kind_said x) (length (body_of x)) ≡ true
suited n d (header p m) r = refl
suited n d (partition c z x) r = let k = length (body_of (partition c z x)) in and_from (leb 4 k) (leb k 19) (le-leb 4 k (omega (arith, r.1.0))) (le-leb k 19 (omega (arith, r.1.1)))
suited n d (plan f) r = refl
suited n d (slot p b e) r = refl
suited n d (channel k l e) r = refl
suited n d (port p f x) r = let k = length (body_of (port p f x)) in and_from (leb 3 k) (leb k 18) (le-leb 3 k (omega (arith, r.2.0))) (le-leb k 18 (omega (arith, r.2.1)))
suited n d (ipvi i p m) r = refl
suited n d (line l p) r = refl
suited n d (action s e a l) r = refl

kind-read : (at : ℕ) (k : Kind) → kind_of at (kind_number k % 256 + 256 * (kind_number k / 256)) ≡ fine k
kind-read at Header = refl
kind-read at Partition = refl
kind-read at Plan = refl
kind-read at Slot = refl
kind-read at Channel = refl
kind-read at Port = refl
kind-read at Ipvi = refl
kind-read at Line = refl
kind-read at Action = refl

-- a record at the front is cut off
cuts : (at : ℕ) (x : Said) (rest : List ℕ) → suits (kind_said x) (length (body_of x)) ≡ true → framed at (bytes_of x ++ rest) ≡ fine (record { kind = kind_said x; body = body_of x; rest = rest })
cuts at x rest h =
    let b = body_of x in
    let n = length b in
    let bs = bytes_of x ++ rest in
    let w : word16 bs 0 ≡ n = word_two n in
    let l : length bs ≡ 4 + n + length rest = omega (arith, length-append b rest) in
    framed-fine at bs (kind_said x) (omega (arith, l)) (omega (arith, l, w)) (sym (kind-read at (kind_said x))) (sym (ap (suits (kind_said x)) w ∙ h))
    ∙ ap₂ (λ (c r : List ℕ). fine (record { kind = kind_said x; body = c; rest = r }))
    (ap (λ k. take k (b ++ rest)) w ∙ (take-append-le n b rest (omega arith) ∙ take_all n b (omega arith)))
    (ap (λ k. drop (4 + k) bs) w ∙ (sym (drop-drop n 4 bs) ∙ (drop-append-le n b rest (omega arith) ∙ ap (λ l. l ++ rest) (drop_all n b (omega arith)))))

spot-after : (s : Sofar) (at : ℕ) (x : Said) → after s (spot at x) ≡ after s x
spot-after s at (header n m) = refl
spot-after s at (partition c z n) = refl
spot-after s at (plan f) = refl
spot-after s at (slot p b d) = refl
spot-after s at (channel k l d) = refl
spot-after s at (port p d n) = refl
spot-after s at (ipvi n p m) = refl
spot-after s at (line l p) = refl
spot-after s at (action c e a l) = refl

spot_related : (s : Sofar) (at : ℕ) (x : Said) → Related s x → Related s (spot at x)
spot_related s at (header n m) r = r
spot_related s at (partition c z n) r = r
spot_related s at (plan f) r = r
spot_related s at (slot p b d) r = r
spot_related s at (channel k l d) r = r
spot_related s at (port p d n) r = r
spot_related s at (ipvi n p m) r = r
spot_related s at (line l p) r = r
spot_related s at (action c e a l) r = r

-- a record that keeps the rules is read, and the scan goes on behind it
pub scan-over : (s : Sofar) (at : ℕ) (x : Said) (rest : List ℕ) → s.partitions ≤ 8 → in_turn (kind_said x) s ≡ true → Ranged s.partitions (next_direction s.tables) x → Related s x →
    read_on 0 at s (bytes_of x ++ rest) ≡ read_on 0 (at + length (bytes_of x)) (after s x) rest
scan-over s at x rest few t r j =
    let p : Point = record { at = at; sofar = s; rest = bytes_of x ++ rest } in
    let f : Framed = record { kind = kind_said x; body = body_of x; rest = rest } in
    let y = spot (at + 4) x in
    let hears : heard at s (kind_said x) (body_of x) ≡ fine y = passes _ (cond-true (in_turn (kind_said x) s) (fine tt) (bad (out_of_turn at)) t) ∙ says s (at + 4) few x r in
    let w : Stepped p (step_over at f y (after s y)) =
    record { front = f; said = y; sofar = after s y; cut = cuts at x rest (suited s.partitions (next_direction s.tables) x r); hears = hears; joins = fine-joined at s y (spot_related s (at + 4) x j); is = refl } in
    sym (scan_step p (step_over at f y (after s y)) (omega arith) w) ∙ ap₂ (λ k (u : Sofar). read_on 0 k u rest) (omega arith) (spot-after s (at + 4) x)
