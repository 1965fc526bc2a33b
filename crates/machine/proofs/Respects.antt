-- What isolation asks of a call, by a member and by an outsider.
use Rattle.std.proofs.Common.{◌≡◌, ℕ, Bool, true, false, List}
use Rattle.tables.specs.declared.Tables.{Tables}
use Rattle.machine.specs.declared.partition.Partition.{Partition}
use Rattle.machine.specs.Questions.{exists}
use Rattle.machine.specs.State.{Core, done, with_parts, modify}
use Rattle.machine.specs.Management.{Call}
use Rattle.machine.proofs.Alike.{Alike, Matched, Quiet, within, without}

pub record Respects (k : Tables) (M C : ℕ → Bool) (f : Call) : Type 0 where
  pub inside : (q : ℕ) → M q ≡ true → (x y : Core) (a g : List ℕ) → Alike M C x y → Matched k M C q (f k x a q g) (f k y a q g)
  pub outside : (q : ℕ) → M q ≡ false → exists k q ≡ true → (x : Core) (a g : List ℕ) → Quiet M C x (f k x a q g)

-- a call that changes the caller's record alone, and does not look at it
pub own_respects : (k : Tables) (M C : ℕ → Bool) (f : List ℕ → Partition → Partition) →
    Respects k M C (λ k x a q g. done (with_parts x (modify x.parts q (f g))))
own_respects k M C f = record { inside = λ q m x y a g r. search within depth 8; outside = λ q o h x a g. search without depth 8 }
