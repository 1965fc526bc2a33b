-- What a test of the vector answers: a value, or the reason of a refusal.
use Rattle.std.specs.Prelude.{◌≡◌, ℕ, Ok, Err, Result}
use Rattle.vector.specs.Reasons.{Reason}

pub data Out (X : Type 0) : Type 0 where
  fine : X → Out X
  bad : Reason → Out X

module _ {X Y E : Type 0} where
  -- a result of the code, by the reason of its fault and a view of its value
  abbrev pub out : (E → Reason) → (X → Y) → Result X E → Out Y
  out reason view (Ok x) = fine (view x)
  out reason view (Err e) = bad (reason e)

module _ {X Y : Type 0} where
  -- what follows a test that passed, with its value; `?` in the code
  abbrev pub then : Out X → (X → Out Y) → Out Y
  then (fine x) f = f x
  then (bad r) f = bad r

  -- the same, where the value does not matter
  abbrev pub pass : Out X → Out Y → Out Y
  pass (fine x) o = o
  pass (bad r) o = bad r

module _ {X E : Type 0} where
  -- what a number stands for, as the test at any place answers; where it stands for nothing, the test has this fault
  abbrev pub Reads : (ℕ → ℕ → Out X) → (ℕ → Reason) → ℕ → Result X E → Type 0
  Reads test fault n r = (at : ℕ) → out (λ _. fault at) (λ x. x) r ≡ test at n
