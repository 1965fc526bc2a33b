-- The fault events of a scope.
use Rattle.std.specs.Prelude.{ℕ, ◌<◌, ◌≤◌}
use Rattle.std.specs.Coded.{×_prop, le_prop}
use Rattle.tables.specs.declared.response.Scope.{Scope}
use Rattle.tables.specs.declared.response.Scope.TheVariants.{Partition, System}

-- the event is one of the scope's, and the partition's number is below 8
abbrev pub InScope : Scope → ℕ → Type 0
InScope (Partition p) e = (p < 8) × (e < 8)
InScope System e = (8 ≤ e) × (e < 12)

-- That an event is one of its scope's is a fact: it has one proof at most.
pub InScope-prop : (c : Scope) (e : ℕ) → IsProp (InScope c e)
InScope-prop (Partition p) e = ×_prop le_prop le_prop
InScope-prop System e = ×_prop le_prop le_prop
