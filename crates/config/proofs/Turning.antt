-- The turn at an offset, found from the first slot that may not have ended.
use Rattle.std.proofs.Common.{◌≡◌, ℕ, zero, suc, ◌+◌, ◌<◌, ◌≤◌, min, true, false, ◌||◌, eqb, List, [], ◌∷◌, length, get_or, drop, Some, None, Option, inl, inr, sym, refl, ap, ap₂, ◌∙◌, arith}
use Rattle.std.proofs.lemmas.List.{drop_more, drop_all, length-drop, length-take, get_or-drop, get_or-take}
use Rattle.std.proofs.Math.Nat.{min-le_left, min-le_right, min-eq_left, min-eq_right}
use Rattle.std.proofs.lemmas.Bool.{cases_lt, cond-true, cond-false, lt-ltb, le-ltb, lt-leb, le-leb}
use Rattle.std.proofs.lemmas.Bool.Decides.{nat_tests}
use Rattle.tables.specs.declared.plan.Plan.{Plan}
use Rattle.tables.specs.declared.plan.Slot.{Slot}
use Rattle.tables.specs.Blank.{slot0}
use Rattle.tables.specs.Rows.{slot_end}
use Rattle.tables.specs.Fair.{Within}
use Rattle.tables.specs.Laws.{slot_at}
use Rattle.machine.specs.Searches.{Apart}
use Rattle.machine.specs.Questions.{slots_of, covers, holder}
use Rattle.config.specs.Turns.{edges, Calm, edge, first_edge, ended, Past, turn_of, Turned}
use Rattle.config.specs.declared.turn.Turn.{Turn}

-- the edge found is not after the bound, and the slot has none before it
edge-in : (s : Slot) (o u : ℕ) → (edge s o u ≤ u) × ((x : ℕ) → o < x → x < edge s o u → (eqb s.start x || eqb (s.start + s.duration) x) ≡ false)
edge-in s o u =
    let b = s.start in
    let e = s.start + s.duration in
    elim (cases_lt o b) [
      | inl p ↦ let f : edge s o u ≡ min u b = cond-true _ _ _ (lt-ltb o b p) in (omega (arith, f, min-le_left u b), λ x l m. grind (arith, nat_tests, f, min-le_right u b))
      | inr p ↦ elim (cases_lt o e) [
        | inl q ↦ let f : edge s o u ≡ min u e = cond-false _ _ _ (le-ltb o b p) ∙ cond-true _ _ _ (lt-ltb o e q) in (omega (arith, f, min-le_left u e), λ x l m. grind (arith, nat_tests, f, min-le_right u e))
        | inr q ↦ let f : edge s o u ≡ u = cond-false _ _ _ (le-ltb o b p) ∙ cond-false _ _ _ (le-ltb o e q) in (omega (arith, f), λ x l m. grind (arith, nat_tests))
      ]
    ]

-- .. and none of many slots has one before the first edge
first-calm : (ss : List Slot) (o u : ℕ) → (first_edge ss o u ≤ u) × Calm ss o (first_edge ss o u)
unfolding first_edge edges
first-calm [] o u = (omega arith, λ x l m. refl)
first-calm (s ∷ ss) o u =
    let j = edge-in s o u in
    let i = first-calm ss o (edge s o u) in
    (omega (arith, i.0, j.0), λ x l m. ap₂ ◌||◌ (j.1 x l (omega (arith, m, i.0))) (i.1 x l m))

abbrev pub nth : List Slot → ℕ → Slot
nth ss i = get_or ss i slot0

past_at : (s : Slot) (ss : List Slot) (o n : ℕ) → slot_end s ≤ o → Past ss o n → (j : ℕ) → j < suc n → slot_end (nth (s ∷ ss) j) ≤ o
past_at s ss o n l h zero m = l
past_at s ss o n l h (suc j) m = h.ended j (omega (arith, m))

-- the slots that are counted have ended
ended-past : (ss : List Slot) (o : ℕ) → Past ss o (ended ss o)
unfolding ended
ended-past [] o = record { there = omega arith; ended = λ j l. absurd (omega (arith, l)) }
ended-past (s ∷ ss) o =
    elim (cases_lt o (slot_end s)) [
      | inl p ↦ let e : ended (s ∷ ss) o ≡ 0 = cond-false _ _ _ (lt-leb (slot_end s) o p) in record { there = omega (arith, e); ended = λ j l. absurd (omega (arith, l, e)) }
      | inr p ↦
          let i = ended-past ss o in
          let e : ended (s ∷ ss) o ≡ suc (ended ss o) = cond-true _ _ _ (le-leb (slot_end s) o p) in
          record { there = omega (arith, e, i.there); ended = λ j l. past_at s ss o (ended ss o) p i j (omega (arith, l, e)) }
    ]

pub turned : (p : Plan) (o : ℕ) → Turned p o (turn_of p o)
turned p o =
    let f = first-calm (slots_of p) o p.frame in
    record { holder = refl; calm = f.1; within = f.0; past = ended-past (slots_of p) o }

-- whose slot of a list runs at the offset o, where that may change before u, and which has not ended; they are numbered from n on
abbrev pub turn_in : ℕ → List Slot → ℕ → ℕ → Turn
turn_in n ss o u = record { holder = holder ss o; until = first_edge ss o u; slot = n + ended ss o }

abbrev turn : Option ℕ → ℕ → ℕ → Turn
turn p u n = record { holder = p; until = u; slot = n }

same_turn : {p q : Option ℕ} {u v m n : ℕ} → p ≡ q → u ≡ v → m ≡ n → turn p u m ≡ turn q v n
same_turn e f g = cc

-- every slot starts at b or later
abbrev From : ℕ → List Slot → Type 0
From b ss = (j : ℕ) → j < length ss → b ≤ (nth ss j).start

-- no slot begins before those in front of it have ended, and none goes beyond f
abbrev pub Ordered : ℕ → List Slot → Type 0
Ordered f ss = ((i j : ℕ) → i < j → j < length ss → slot_end (nth ss i) ≤ (nth ss j).start) × ((j : ℕ) → j < length ss → slot_end (nth ss j) ≤ f)

-- before all slots nobody runs, and nothing changes before the first one
none-later : (ss : List Slot) (o b : ℕ) → From b ss → o < b → holder ss o ≡ None
unfolding holder
none-later [] o b h l = refl
none-later (s ∷ ss) o b h l =
    let c : covers s o ≡ false = grind (arith, nat_tests, h 0 (omega arith)) in
    cond-false _ _ _ c ∙ none-later ss o b (λ j m. h (suc j) (omega arith)) l

edge-later : (ss : List Slot) (o u b : ℕ) → From b ss → o < b → u ≤ b → first_edge ss o u ≡ u
unfolding first_edge
edge-later [] o u b h l m = refl
edge-later (s ∷ ss) o u b h l m =
    let n : b ≤ s.start = h 0 (omega arith) in
    let e : edge s o u ≡ u = cond-true _ _ _ (lt-ltb o s.start (omega arith)) ∙ min-eq_left (omega arith) in
    ap (first_edge ss o) e ∙ edge-later ss o u b (λ j k. h (suc j) (omega arith)) l m

module _ (s : Slot) (ss : List Slot) (o f n : ℕ) where
  open_now : o < slot_end s → n + ended (s ∷ ss) o ≡ n
  unfolding ended
  open_now l = let e : ended (s ∷ ss) o ≡ 0 = cond-false _ _ _ (lt-leb (slot_end s) o l) in omega (arith, e)

  -- in the gap before a slot
  gap : From (slot_end s) ss → slot_end s ≤ f → o < s.start → turn_in n (s ∷ ss) o f ≡ record { holder = None; until = s.start; slot = n }
  unfolding holder first_edge
  gap h e l =
      let g : From s.start ss = λ j m. omega (arith, h j m) in
      let c : covers s o ≡ false = grind (arith, nat_tests) in
      let b : edge s o f ≡ s.start = cond-true _ _ _ (lt-ltb o s.start l) ∙ min-eq_right (omega arith) in
      same_turn (cond-false _ _ _ c ∙ none-later ss o s.start g l) (ap (first_edge ss o) b ∙ edge-later ss o s.start s.start g l (omega arith)) (open_now (omega (arith, l)))

  -- in a slot
  inside : From (slot_end s) ss → slot_end s ≤ f → s.start ≤ o → o < slot_end s → turn_in n (s ∷ ss) o f ≡ record { holder = Some s.partition; until = slot_end s; slot = n }
  unfolding holder first_edge
  inside h e l m =
      let c : covers s o ≡ true = grind (arith, nat_tests) in
      let b : edge s o f ≡ slot_end s = cond-false _ _ _ (le-ltb o s.start l) ∙ cond-true _ _ _ (lt-ltb o (slot_end s) m) ∙ min-eq_right (omega arith) in
      same_turn (cond-true _ _ _ c) (ap (first_edge ss o) b ∙ edge-later ss o (slot_end s) (slot_end s) h m (omega arith)) (open_now m)

  -- after it
  passed : slot_end s ≤ o → turn_in n (s ∷ ss) o f ≡ turn_in (n + 1) ss o f
  unfolding holder first_edge ended
  passed m =
      let l : s.start ≤ o = omega (arith, m) in
      let c : covers s o ≡ false = grind (arith, nat_tests) in
      let b : edge s o f ≡ f = cond-false _ _ _ (le-ltb o s.start l) ∙ cond-false _ _ _ (le-ltb o (slot_end s) m) in
      let e : ended (s ∷ ss) o ≡ suc (ended ss o) = cond-true _ _ _ (le-leb (slot_end s) o m) in
      same_turn (cond-false _ _ _ c) (ap (first_edge ss o) b) (omega (arith, e))

-- turns of the loop over the slots
module _ (ss : List Slot) (o f : ℕ) (d : Ordered f ss) where
  module _ (i : ℕ) where
    split : i < length ss → turn_in i (drop i ss) o f ≡ turn_in i (nth ss i ∷ drop (i + 1) ss) o f
    split h = ap (λ xs. turn_in i xs o f) (drop_more ss i slot0 h)

    behind : i < length ss → From (slot_end (nth ss i)) (drop (i + 1) ss)
    behind h j l = omega (arith, d.0 i (i + 1 + j) (omega arith) (omega (arith, l, length-drop (i + 1) ss)), ap (λ (s : Slot). s.start) (get_or-drop (i + 1) ss j slot0))

    pub before_slot : i < length ss → o < (nth ss i).start → turn_in i (drop i ss) o f ≡ record { holder = None; until = (nth ss i).start; slot = i }
    before_slot h l = split h ∙ gap (nth ss i) (drop (i + 1) ss) o f i (behind h) (d.1 i h) l

    pub in_slot : i < length ss → (nth ss i).start ≤ o → o < slot_end (nth ss i) → turn_in i (drop i ss) o f ≡ record { holder = Some (nth ss i).partition; until = slot_end (nth ss i); slot = i }
    in_slot h l m = split h ∙ inside (nth ss i) (drop (i + 1) ss) o f i (behind h) (d.1 i h) l m

    pub after_slot : i < length ss → slot_end (nth ss i) ≤ o → turn_in i (drop i ss) o f ≡ turn_in (i + 1) (drop (i + 1) ss) o f
    after_slot h m = split h ∙ passed (nth ss i) (drop (i + 1) ss) o f i m

    pub after_all : length ss ≤ i → turn_in i (drop i ss) o f ≡ record { holder = None; until = f; slot = i }
    unfolding holder first_edge ended
    after_all h = ap (λ xs. turn_in i xs o f) (drop_all i ss h) ∙ same_turn refl refl (omega arith)

  -- the first slot that may not have ended gives what all give
  from_first : (n : ℕ) → Past ss o n → turn_in n (drop n ss) o f ≡ turn_in 0 ss o f
  from_first zero h = refl
  from_first (suc n) h =
      let e : suc n ≡ n + 1 = omega arith in
      ap (λ k. turn_in k (drop k ss) o f) e
      ∙ sym (after_slot n (omega (arith, h.there)) (h.ended n (omega arith)))
      ∙ from_first n (record { there = omega (arith, h.there); ended = λ j l. h.ended j (omega (arith, l)) })

-- the slots of a plan are so
pub ordered : (p : Plan) → Apart p → Within p → Ordered p.frame (slots_of p)
ordered p a w =
    let same : (j : ℕ) → j < length (slots_of p) → (j < p.slots.count) × (nth (slots_of p) j ≡ slot_at j p) = λ j h.
    let n : j < p.slots.count = omega (arith, h, length-take p.slots.count p.slots.rows) in
    (n, get_or-take p.slots.count p.slots.rows j slot0 n) in (
      λ i j l m.
          let x = same i (omega arith) in
          let y = same j m in
          omega (arith, a i j l y.0, ap slot_end x.1, ap (λ (s : Slot). s.start) y.1),
      λ j m. let y = same j m in omega (arith, w j y.0, ap slot_end y.1),
    )

-- the slots from the number n on give the turn
pub record Left (p : Plan) (ss : List Slot) (o n : ℕ) : Type 0 where
  pub there : n ≤ length ss
  pub turn : turn_in n (drop n ss) o p.frame ≡ turn_of p o

-- .. where those before it have ended
pub started : (p : Plan) (o n : ℕ) → Apart p → Within p → Past (slots_of p) o n → Left p (slots_of p) o n
started p o n a w h = record {
  there = h.there;
  turn = from_first (slots_of p) o p.frame (ordered p a w) n h ∙ same_turn refl refl (omega arith);
}
