-- What a print promises.
use Rattle.std.specs.Prelude.{ℕ, List, Option, Result, OnOk}
use Rattle.std.specs.Io.KnownBytes.{Appends}

module _ {W E : Type 0} where
  -- where it succeeds, the writer's contents have grown by a text
  abbrev pub Prints : (W → Option (List ℕ)) → W → W → Result (Unit {0}) E → List ℕ → Type 0
  Prints contents old new result text = OnOk result (Appends (contents old) (contents new) text)
