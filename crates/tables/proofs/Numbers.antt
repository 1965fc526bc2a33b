-- The number that stands for a value is the one that the value has.
use Rattle.std.proofs.Common.{◌≡◌, ℕ, Bool, true, false, cond, eqb, Some, None, Option, refl, ap, ◌∙◌}
use Rattle.std.proofs.lemmas.Bool.{eqb-true}
use Rattle.tables.specs.Numbers.{class_number, class_by, channel_number, channel_kind_by, action_number, action_by}
use Rattle.tables.specs.declared.response.Action.{Action}
use Rattle.tables.specs.declared.response.Action.TheVariants.{Ignore, Signal, Suspend, Halt, WarmReset, ColdReset}
use Rattle.tables.specs.declared.channel.ChannelKind.{ChannelKind}
use Rattle.tables.specs.declared.channel.ChannelKind.TheVariants.{Sampling, Queuing}
use Rattle.tables.specs.declared.partition.Class.{Class}
use Rattle.tables.specs.declared.partition.Class.TheVariants.{Standard, System}

-- a choice by tests gives a value with a number, if each test tells the number
module _ {X : Type 0} (number : X → ℕ) (v : ℕ) (x : X) where
  no_choice : ◌≡◌ {A = Option X} None (Some x) → v ≡ number x
  no_choice e = absurd cc

  choice : (b : Bool) (y : X) (o : Option X) → (b ≡ true → v ≡ number y) → (o ≡ Some x → v ≡ number x) → cond b (Some y) o ≡ Some x → v ≡ number x
  choice true y o n m e = let q : y ≡ x = cc in n refl ∙ ap number q
  choice false y o n m e = m e

module _ (v : ℕ) where
  pub class_by-number : (c : Class) → class_by v ≡ Some c → v ≡ class_number c
  class_by-number c =
      choice class_number v c (eqb v 0) Standard _ (eqb-true v 0)
      (choice class_number v c (eqb v 1) System _ (eqb-true v 1)
      (no_choice class_number v c))

  pub channel_kind_by-number : (k : ChannelKind) → channel_kind_by v ≡ Some k → v ≡ channel_number k
  channel_kind_by-number k =
      choice channel_number v k (eqb v 0) Sampling _ (eqb-true v 0)
      (choice channel_number v k (eqb v 1) Queuing _ (eqb-true v 1)
      (no_choice channel_number v k))

  pub action_by-number : (a : Action) → action_by v ≡ Some a → v ≡ action_number a
  action_by-number a =
      choice action_number v a (eqb v 0) Ignore _ (eqb-true v 0)
      (choice action_number v a (eqb v 1) Signal _ (eqb-true v 1)
      (choice action_number v a (eqb v 2) Suspend _ (eqb-true v 2)
      (choice action_number v a (eqb v 3) Halt _ (eqb-true v 3)
      (choice action_number v a (eqb v 4) WarmReset _ (eqb-true v 4)
      (choice action_number v a (eqb v 5) ColdReset _ (eqb-true v 5)
      (no_choice action_number v a))))))
