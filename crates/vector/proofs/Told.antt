-- The fields of a record that was read are in their ranges.
use Rattle.std.proofs.Common.{◌≡◌, ℕ, ◌+◌, ◌/◌, ◌^◌, ◌<◌, ◌≤◌, Bool, true, false, cond, not, ◌&&◌, eqb, ltb, leb, List, [], ◌∷◌, ◌++◌, length, get_or, drop, sym, refl, ap, ◌∙◌, ap₂, arith, length-drop}
use Rattle.std.proofs.lemmas.Nat.{pow_pos, div-add-mod', mod_below}
use Rattle.std.proofs.lemmas.List.{drop_all}
use Rattle.std.proofs.lemmas.Bool.{and_parts, leb-true, ltb-true, eqb-true, not-true}
use Rattle.vector.specs.Reasons.{Reason, out_of_range}
use Rattle.vector.specs.Out.{fine, bad, then, pass}
use Rattle.frame.specs.Frames.{word16}
use Rattle.vector.specs.Frames.{suits}
use Rattle.vector.specs.Fields.{within, existing, class_of, channel_kind_of, deepest, directed, masked, scope_of, event_of, any_action, systems, action_of, flag_of}
use Rattle.tables.specs.Bits.{has_bit}
use Rattle.vector.specs.Bodies.{Said, header, partition, plan, slot, channel, port, ipvi, line, action, word32, next_direction, said_by}
use Rattle.vector.specs.Encoding.{Bytes, body_of}
use Rattle.vector.specs.Ranges.{kind_said, Mask, EventIn, Allows, Ranged}
use Rattle.vector.specs.declared.kind.Kind.{Kind}
use Rattle.vector.specs.declared.kind.Kind.TheVariants.{Header, Partition, Plan, Slot, Channel, Port, Ipvi, Line, Action}
use Rattle.tables.specs.declared.response.Scope.{Scope}
use Rattle.tables.specs.declared.response.Scope.TheVariants as scopes
use Rattle.vector.specs.declared.sofar.Sofar.{Sofar}
use Rattle.tables.specs.declared.response.Action as actions
use Rattle.tables.specs.declared.response.Action.TheVariants.{Ignore, Signal, Suspend, Halt, WarmReset, ColdReset}
use Rattle.vector.proofs.Numbers.{class-number, channel-number, scope-number, action-number, flag_number_lem, direction_number_lem, two_of, four_of, open_2, open_3, open_4, open_9}
use Rattle.vector.proofs.Outs.{then-fine, pass-fine, cond-fine, same-fine, within-fine, existing-fine}

-- a record of kind k, after what the records so far have said
abbrev pub Told : Kind → Sofar → Said → Type 0
Told k s x = (k ≡ kind_said x) × Ranged s.partitions (next_direction s.tables) x

-- and its body is the one that says so
abbrev pub Heard : Kind → Sofar → List ℕ → Said → Type 0
Heard k s b x = Told k s x × (Bytes b → b ≡ body_of x)

masked-fine : (n p at m : ℕ) (u : Unit {0}) → masked n p at m ≡ fine u → Mask n p m
masked-fine n p at m u e =
    let b = and_parts (eqb (m / 2 ^ n) 0) (not (has_bit m p)) (cond-fine (eqb (m / 2 ^ n) 0 && not (has_bit m p)) (fine tt) (out_of_range at) u e).0 in
    let z : m / 2 ^ n ≡ 0 = eqb-true (m / 2 ^ n) 0 b.0 in
    let d = rw z at (div-add-mod' m (2 ^ n)) in
    (omega (arith, d, mod_below m (2 ^ n) (pow_pos n)), not-true (has_bit m p) b.1)

scope-fine : (a b : Bool) (v p : ℕ) (r : Reason) → cond a (fine (scopes.Partition v)) (cond b (fine scopes.System) (bad r)) ≡ fine (scopes.Partition p) → (a ≡ true) × (v ≡ p)
scope-fine true b v p r e = (refl, cc)
scope-fine false true v p r e = absurd cc
scope-fine false false v p r e = absurd cc

event_in_lem : (n at v at' e : ℕ) (c : Scope) (u : Unit {0}) → scope_of n at v ≡ fine c → event_of c at' e ≡ fine u → EventIn n c e
event_in_lem n at v at' e (scopes.Partition p) u s h =
    let q = scope-fine (ltb v n) (eqb v 255) v p (out_of_range at) s in
    let lt : v < n = ltb-true v n q.0 in
    (omega arith, within-fine 0 7 at' e u h)
event_in_lem n at v at' e scopes.System u s h = within-fine 8 11 at' e u h

-- an action of the system is none of signal and suspend
system-allows : (at : ℕ) (a x : actions.Action) → systems at a ≡ fine x → Allows scopes.System x
system-allows at Ignore x e = same-fine (Allows scopes.System) Ignore x e tt
system-allows at Signal x e = absurd cc
system-allows at Suspend x e = absurd cc
system-allows at Halt x e = same-fine (Allows scopes.System) Halt x e tt
system-allows at WarmReset x e = same-fine (Allows scopes.System) WarmReset x e tt
system-allows at ColdReset x e = same-fine (Allows scopes.System) ColdReset x e tt

allows : (c : Scope) (at v : ℕ) (x : actions.Action) → action_of c at v ≡ fine x → Allows c x
allows (scopes.Partition p) at v x e = tt
allows scopes.System at v x e = let f = then-fine (any_action at v) (systems at) x e in system-allows at f.0 x f.2

module _ (s : Sofar) (at : ℕ) (b : List ℕ) where
  closed : (n : ℕ) (F : List ℕ → List ℕ) → length b ≡ n → (n ≤ length b → b ≡ F (drop n b)) → b ≡ F []
  closed n F h e = e (omega arith) ∙ ap F (drop_all n b (omega arith))

  written : {v w u : ℕ} → get_or b 0 0 ≡ v → get_or b 2 0 ≡ w → get_or b 3 0 ≡ u → get_or b 0 0 ∷ get_or b 1 0 ∷ get_or b 2 0 ∷ get_or b 3 0 ∷ [] ≡ v ∷ get_or b 1 0 ∷ w ∷ u ∷ []
  written e f g = cc

  pub told : (k : Kind) (x : Said) → suits k (length b) ≡ true → said_by k s at b ≡ fine x → Heard k s b x
  told Header x h e =
      let f = fine (header (get_or b 0 0) (get_or b 1 0)) in
      let p = pass-fine (within 1 8 at (get_or b 0 0)) (pass (within 1 4 (at + 1) (get_or b 1 0)) f) x e in
      let q = pass-fine (within 1 4 (at + 1) (get_or b 1 0)) f x p.2 in
      same-fine (Heard Header s b) _ x q.2 ((refl, (within-fine _ _ _ _ _ p.1, within-fine _ _ _ _ _ q.1)), λ y. closed 2 (λ l. get_or b 0 0 ∷ get_or b 1 0 ∷ l) (eqb-true (length b) 2 h) (open_2 b))
  told Partition x h e =
      let c = then-fine (class_of at (get_or b 0 0)) (λ c. pass (within 1 1024 (at + 1) (word16 b 1)) (fine (partition c (word16 b 1) (record { at = at + 3; bytes = drop 3 b })))) x e in
      let p = pass-fine (within 1 1024 (at + 1) (word16 b 1)) (fine (partition c.0 (word16 b 1) (record { at = at + 3; bytes = drop 3 b }))) x c.2 in
      let w = and_parts (leb 4 (length b)) (leb (length b) 19) h in
      let l : 4 ≤ length b = leb-true 4 (length b) w.0 in
      let m : length b ≤ 19 = leb-true (length b) 19 w.1 in
      same-fine (Heard Partition s b) _ x p.2 ((refl, (within-fine _ _ _ _ _ p.1, (omega (arith, length-drop 3 b), omega (arith, length-drop 3 b)))), λ y. open_3 b (omega arith) ∙ ap₂ (λ v l. v ∷ (l ++ drop 3 b)) (class-number at (get_or b 0 0) c.0 c.1) (sym (two_of (get_or b 1 0) (get_or b 2 0) (y 1))))
  told Plan x h e =
      let p = pass-fine (within 1 1000000 at (word32 b 0)) (fine (plan (word32 b 0))) x e in
      same-fine (Heard Plan s b) _ x p.2 ((refl, within-fine _ _ _ _ _ p.1), λ y. closed 4 (λ l. get_or b 0 0 ∷ get_or b 1 0 ∷ get_or b 2 0 ∷ get_or b 3 0 ∷ l) (eqb-true (length b) 4 h) (open_4 b) ∙ sym (four_of (get_or b 0 0) (get_or b 1 0) (get_or b 2 0) (get_or b 3 0) (y 0) (y 1) (y 2)))
  told Slot x h e =
      let f = fine (slot (get_or b 0 0) (word32 b 1) (word32 b 5)) in
      let d = pass (within 1 1000000 (at + 5) (word32 b 5)) f in
      let p = pass-fine (existing s.partitions at (get_or b 0 0)) (pass (within 0 999999 (at + 1) (word32 b 1)) d) x e in
      let q = pass-fine (within 0 999999 (at + 1) (word32 b 1)) d x p.2 in
      let r = pass-fine (within 1 1000000 (at + 5) (word32 b 5)) f x q.2 in
      same-fine (Heard Slot s b) _ x r.2 ((refl, (existing-fine _ _ _ _ p.1, within-fine _ _ _ _ _ q.1, within-fine _ _ _ _ _ r.1)), λ y. closed 9 (λ l. get_or b 0 0 ∷ get_or b 1 0 ∷ get_or b 2 0 ∷ get_or b 3 0 ∷ get_or b 4 0 ∷ get_or b 5 0 ∷ get_or b 6 0 ∷ get_or b 7 0 ∷ get_or b 8 0 ∷ l) (eqb-true (length b) 9 h) (open_9 b) ∙ ap₂ (λ k l. get_or b 0 0 ∷ (k ++ l)) (sym (four_of (get_or b 1 0) (get_or b 2 0) (get_or b 3 0) (get_or b 4 0) (y 1) (y 2) (y 3))) (sym (four_of (get_or b 5 0) (get_or b 6 0) (get_or b 7 0) (get_or b 8 0) (y 5) (y 6) (y 7))))
  told Channel x h e =
      let c = then-fine (channel_kind_of at (get_or b 0 0)) (λ k. pass (within 1 64 (at + 1) (word16 b 1)) (pass (within 1 (deepest k) (at + 3) (get_or b 3 0)) (fine (channel k (word16 b 1) (get_or b 3 0))))) x e in
      let f = fine (channel c.0 (word16 b 1) (get_or b 3 0)) in
      let p = pass-fine (within 1 64 (at + 1) (word16 b 1)) (pass (within 1 (deepest c.0) (at + 3) (get_or b 3 0)) f) x c.2 in
      let q = pass-fine (within 1 (deepest c.0) (at + 3) (get_or b 3 0)) f x p.2 in
      same-fine (Heard Channel s b) _ x q.2 ((refl, (within-fine _ _ _ _ _ p.1, within-fine _ _ _ _ _ q.1)), λ y. closed 4 (λ l. get_or b 0 0 ∷ get_or b 1 0 ∷ get_or b 2 0 ∷ get_or b 3 0 ∷ l) (eqb-true (length b) 4 h) (open_4 b) ∙ ap₂ (λ v l. v ∷ (l ++ (get_or b 3 0 ∷ []))) (channel-number at (get_or b 0 0) c.0 c.1) (sym (two_of (get_or b 1 0) (get_or b 2 0) (y 1))))
  told Port x h e =
      let d = next_direction s.tables in
      let f = fine (port (get_or b 0 0) d (record { at = at + 2; bytes = drop 2 b })) in
      let p = pass-fine (existing s.partitions at (get_or b 0 0)) (pass (directed d (at + 1) (get_or b 1 0)) f) x e in
      let q = pass-fine (directed d (at + 1) (get_or b 1 0)) f x p.2 in
      let w = and_parts (leb 3 (length b)) (leb (length b) 18) h in
      let l : 3 ≤ length b = leb-true 3 (length b) w.0 in
      let m : length b ≤ 18 = leb-true (length b) 18 w.1 in
      same-fine (Heard Port s b) _ x q.2 ((refl, (existing-fine _ _ _ _ p.1, refl, (omega (arith, length-drop 2 b), omega (arith, length-drop 2 b)))), λ y. open_2 b (omega arith) ∙ ap (λ v. get_or b 0 0 ∷ v ∷ drop 2 b) (direction_number_lem (at + 1) (get_or b 1 0) d q.0 q.1))
  told Ipvi x h e =
      let n = s.partitions in
      let f = fine (ipvi (get_or b 0 0) (get_or b 1 0) (get_or b 2 0)) in
      let m = pass (masked n (get_or b 1 0) (at + 2) (get_or b 2 0)) f in
      let p = pass-fine (within 0 7 at (get_or b 0 0)) (pass (existing n (at + 1) (get_or b 1 0)) m) x e in
      let q = pass-fine (existing n (at + 1) (get_or b 1 0)) m x p.2 in
      let r = pass-fine (masked n (get_or b 1 0) (at + 2) (get_or b 2 0)) f x q.2 in
      same-fine (Heard Ipvi s b) _ x r.2 ((refl, (within-fine _ _ _ _ _ p.1, existing-fine _ _ _ _ q.1, masked-fine n (get_or b 1 0) (at + 2) (get_or b 2 0) r.0 r.1)), λ y. closed 3 (λ l. get_or b 0 0 ∷ get_or b 1 0 ∷ get_or b 2 0 ∷ l) (eqb-true (length b) 3 h) (open_3 b))
  told Line x h e =
      let f = fine (line (get_or b 0 0) (get_or b 1 0)) in
      let p = pass-fine (within 0 15 at (get_or b 0 0)) (pass (existing s.partitions (at + 1) (get_or b 1 0)) f) x e in
      let q = pass-fine (existing s.partitions (at + 1) (get_or b 1 0)) f x p.2 in
      same-fine (Heard Line s b) _ x q.2 ((refl, (within-fine _ _ _ _ _ p.1, existing-fine _ _ _ _ q.1)), λ y. closed 2 (λ l. get_or b 0 0 ∷ get_or b 1 0 ∷ l) (eqb-true (length b) 2 h) (open_2 b))
  told Action x h e =
      let n = s.partitions in
      let c = then-fine (scope_of n at (get_or b 0 0)) (λ c. pass (event_of c (at + 1) (get_or b 1 0)) (then (action_of c (at + 2) (get_or b 2 0)) (λ a. then (flag_of (at + 3) (get_or b 3 0)) (λ l. fine (action c (get_or b 1 0) a l))))) x e in
      let p = pass-fine (event_of c.0 (at + 1) (get_or b 1 0)) (then (action_of c.0 (at + 2) (get_or b 2 0)) (λ a. then (flag_of (at + 3) (get_or b 3 0)) (λ l. fine (action c.0 (get_or b 1 0) a l)))) x c.2 in
      let a = then-fine (action_of c.0 (at + 2) (get_or b 2 0)) (λ a. then (flag_of (at + 3) (get_or b 3 0)) (λ l. fine (action c.0 (get_or b 1 0) a l))) x p.2 in
      let l = then-fine (flag_of (at + 3) (get_or b 3 0)) (λ l. fine (action c.0 (get_or b 1 0) a.0 l)) x a.2 in
      same-fine (Heard Action s b) _ x l.2 ((refl, (event_in_lem n at (get_or b 0 0) (at + 1) (get_or b 1 0) c.0 p.0 c.1 p.1, allows c.0 (at + 2) (get_or b 2 0) a.0 a.1)), λ y. closed 4 (λ l. get_or b 0 0 ∷ get_or b 1 0 ∷ get_or b 2 0 ∷ get_or b 3 0 ∷ l) (eqb-true (length b) 4 h) (open_4 b) ∙ written (scope-number at (get_or b 0 0) n c.0 c.1) (action-number (at + 2) (get_or b 2 0) c.0 a.0 a.1) (flag_number_lem (at + 3) (get_or b 3 0) l.0 l.1))
