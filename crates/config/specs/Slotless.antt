-- The microseconds of a plan's frame that no slot has.
use Rattle.std.specs.Prelude.{◌≡◌, ℕ, List, if◌then◌else◌, nat_lt, slice_index}
use Rattle.tables.specs.Tables.{Plans, Offset}
use Rattle.tables.specs.declared.Tables.{Tables}
use Rattle.machine.specs.Management.{gaps}
use Rattle.machine.specs.Questions.{slots_of}
use Rattle.machine.specs.Time.{plan_at}

-- those of the plan of a number; 0 past the last plan
abbrev pub slotless_in : Plans → ℕ → Offset
slotless_in ps p = if nat_lt p ps.count then gaps 0 (slots_of (plan_at ps p)) (plan_at ps p).frame else 0

abbrev pub slotless_of : Tables → ℕ → Offset
slotless_of k p = slotless_in k.plans p

-- the sum at each number's place
abbrev pub Gapped : Plans → List ℕ → Type 0
Gapped ps gs = (p : ℕ) → slice_index gs p ≡ slotless_in ps p
