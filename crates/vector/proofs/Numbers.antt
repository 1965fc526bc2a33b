-- Numbers as they stand in bytes, read and written.
use Rattle.std.proofs.Common.{◌≡◌, ℕ, ◌+◌, ◌*◌, ◌/◌, ◌%◌, ◌<◌, ◌≤◌, Bool, true, false, cond, eqb, ltb, List, [], ◌∷◌, ◌++◌, length, get_or, drop, Some, None, Option, refl, ap, ◌∙◌, ap₂, arith, drop-cons}
use Rattle.std.proofs.lemmas.Bool.{eqb-true}
use Rattle.vector.specs.Reasons.{Reason, unknown_kind, out_of_range}
use Rattle.vector.specs.Out.{Out, fine, bad}
use Rattle.vector.specs.Frames.{kind_of}
use Rattle.vector.specs.Turns.{kind_number}
use Rattle.vector.specs.Fields.{standing, class_of, channel_kind_of, scope_of, any_action, systems, action_of, flag_of, directed}
use Rattle.tables.specs.Numbers.{direction_number, class_number, channel_number, scope_number, action_number}
use Rattle.vector.specs.Encoding.{two, four, flag_number}
use Rattle.vector.specs.declared.kind.Kind.{Kind}
use Rattle.vector.specs.declared.kind.Kind.TheVariants as kinds
use Rattle.tables.specs.declared.response.Scope.{Scope}
use Rattle.tables.specs.declared.response.Scope.TheVariants as scopes
use Rattle.tables.specs.declared.response.Action.{Action}
use Rattle.tables.specs.declared.response.Action.TheVariants.{Ignore, Signal, Suspend, Halt, WarmReset, ColdReset}
use Rattle.tables.specs.declared.channel.ChannelKind.{ChannelKind}
use Rattle.tables.specs.declared.partition.Class.{Class}
use Rattle.tables.specs.declared.port.Direction.{Direction}
use Rattle.tables.proofs.Numbers.{class_by-number, channel_kind_by-number, action_by-number}
use Rattle.vector.proofs.Outs.{cond-fine, then-fine}

-- a choice by tests gives a value with a number, if each test tells the number
module _ {X : Type 0} (number : X → ℕ) (v : ℕ) (x : X) where
  pub last-choice : (b : Bool) (y : X) (r : Reason) → (b ≡ true → v ≡ number y) → cond b (fine y) (bad r) ≡ fine x → v ≡ number x
  last-choice true y r n e = let q : y ≡ x = cc in n refl ∙ ap number q
  last-choice false y r n e = absurd cc

  pub choice : (b : Bool) (y : X) (o : Out X) → (b ≡ true → v ≡ number y) → (o ≡ fine x → v ≡ number x) → cond b (fine y) o ≡ fine x → v ≡ number x
  choice true y o n m e = let q : y ≡ x = cc in n refl ∙ ap number q
  choice false y o n m e = m e

module _ {X : Type 0} where
  standing-some : (at : ℕ) (o : Option X) (x : X) → standing at o ≡ fine x → o ≡ Some x
  standing-some at None x e = absurd cc
  standing-some at (Some y) x e = let q : y ≡ x = cc in ap Some q

-- what the system may be given is given as it is
systems-same : (at : ℕ) (a b : Action) → systems at a ≡ fine b → a ≡ b
systems-same at Ignore b e = cc
systems-same at Signal b e = absurd cc
systems-same at Suspend b e = absurd cc
systems-same at Halt b e = cc
systems-same at WarmReset b e = cc
systems-same at ColdReset b e = cc

module _ (at v : ℕ) where
  pub class-number : (c : Class) → class_of at v ≡ fine c → v ≡ class_number c
  class-number c e = class_by-number v c (standing-some at _ c e)

  pub channel-number : (k : ChannelKind) → channel_kind_of at v ≡ fine k → v ≡ channel_number k
  channel-number k e = channel_kind_by-number v k (standing-some at _ k e)

  pub flag_number_lem : (l : Bool) → flag_of at v ≡ fine l → v ≡ flag_number l
  flag_number_lem l = choice flag_number v l (eqb v 0) false _ (eqb-true v 0) (last-choice flag_number v l (eqb v 1) true (out_of_range at) (eqb-true v 1))

  pub scope-number : (n : ℕ) (c : Scope) → scope_of n at v ≡ fine c → v ≡ scope_number c
  scope-number n c = choice scope_number v c (ltb v n) (scopes.Partition v) _ (λ _. refl) (last-choice scope_number v c (eqb v 255) scopes.System (out_of_range at) (eqb-true v 255))

  any-number : (a : Action) → any_action at v ≡ fine a → v ≡ action_number a
  any-number a e = action_by-number v a (standing-some at _ a e)

  pub action-number : (c : Scope) (a : Action) → action_of c at v ≡ fine a → v ≡ action_number a
  action-number (scopes.Partition p) a e = any-number a e
  action-number scopes.System a e =
      let f = then-fine (any_action at v) (systems at) a e in
      any-number f.0 f.1 ∙ ap action_number (systems-same at f.0 a f.2)

  pub kind-number : (k : Kind) → kind_of at v ≡ fine k → v ≡ kind_number k
  kind-number k =
      choice kind_number v k (eqb v 1) kinds.Header _ (eqb-true v 1)
      (choice kind_number v k (eqb v 2) kinds.Partition _ (eqb-true v 2)
      (choice kind_number v k (eqb v 3) kinds.Plan _ (eqb-true v 3)
      (choice kind_number v k (eqb v 4) kinds.Slot _ (eqb-true v 4)
      (choice kind_number v k (eqb v 5) kinds.Channel _ (eqb-true v 5)
      (choice kind_number v k (eqb v 6) kinds.Port _ (eqb-true v 6)
      (choice kind_number v k (eqb v 7) kinds.Ipvi _ (eqb-true v 7)
      (choice kind_number v k (eqb v 8) kinds.Line _ (eqb-true v 8)
      (last-choice kind_number v k (eqb v 9) kinds.Action (unknown_kind at) (eqb-true v 9)))))))))

  pub direction_number_lem : (d : Direction) (u : Unit {0}) → directed d at v ≡ fine u → v ≡ direction_number d
  direction_number_lem d u e = eqb-true v (direction_number d) (cond-fine (eqb v (direction_number d)) (fine tt) (out_of_range at) u e).0

-- two bytes make a number, and the number makes the two bytes
pub two_of : (a b : ℕ) → a < 256 → two (a + 256 * b) ≡ a ∷ b ∷ []
two_of a b h =
    let low : (a + 256 * b) % 256 ≡ a = omega arith in
    let high : (a + 256 * b) / 256 ≡ b = omega arith in
    cc

pub four_of : (a b c d : ℕ) → a < 256 → b < 256 → c < 256 → four ((a + 256 * b) + 65536 * (c + 256 * d)) ≡ a ∷ b ∷ c ∷ d ∷ []
four_of a b c d h j k =
    let low : ((a + 256 * b) + 65536 * (c + 256 * d)) % 65536 ≡ a + 256 * b = omega arith in
    let high : ((a + 256 * b) + 65536 * (c + 256 * d)) / 65536 ≡ c + 256 * d = omega arith in
    ap₂ (λ x y. two x ++ two y) low high ∙ ap₂ (λ x y. x ++ y) (two_of a b h) (two_of c d k)

-- a list, byte by byte
module _ (b : List ℕ) where
  pub open_2 : 2 ≤ length b → b ≡ get_or b 0 0 ∷ get_or b 1 0 ∷ drop 2 b
  open_2 h =
      let x = drop-cons b 0 0 (omega arith) in
      let y = drop-cons b 1 0 (omega arith) in
      cc

  pub open_3 : 3 ≤ length b → b ≡ get_or b 0 0 ∷ get_or b 1 0 ∷ get_or b 2 0 ∷ drop 3 b
  open_3 h =
      let x = open_2 (omega arith) in
      let y = drop-cons b 2 0 (omega arith) in
      cc

  pub open_4 : 4 ≤ length b → b ≡ get_or b 0 0 ∷ get_or b 1 0 ∷ get_or b 2 0 ∷ get_or b 3 0 ∷ drop 4 b
  open_4 h =
      let x = open_3 (omega arith) in
      let y = drop-cons b 3 0 (omega arith) in
      cc

  pub open_9 : 9 ≤ length b → b ≡ get_or b 0 0 ∷ get_or b 1 0 ∷ get_or b 2 0 ∷ get_or b 3 0 ∷ get_or b 4 0 ∷ get_or b 5 0 ∷ get_or b 6 0 ∷ get_or b 7 0 ∷ get_or b 8 0 ∷ drop 9 b
  open_9 h =
      let x = open_4 (omega arith) in
      let y4 = drop-cons b 4 0 (omega arith) in
      let y5 = drop-cons b 5 0 (omega arith) in
      let y6 = drop-cons b 6 0 (omega arith) in
      let y7 = drop-cons b 7 0 (omega arith) in
      let y8 = drop-cons b 8 0 (omega arith) in
      cc
