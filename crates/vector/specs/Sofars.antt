-- What the records so far have said, and what one more makes of it.
use Rattle.std.specs.Prelude.{ℕ, ◌-◌, Bool, true, false, [], replicate, Some, None, slice_index_or, slice_set}
use Rattle.tables.specs.Rows.{blank}
use Rattle.vector.specs.declared.kind.Kind.{Kind}
use Rattle.vector.specs.declared.kind.Kind.TheVariants as kinds
use Rattle.tables.specs.declared.response.Scope.{Scope}
use Rattle.tables.specs.declared.response.Scope.TheVariants.{Partition, System}
use Rattle.vector.specs.declared.given.Given.{Given}
use Rattle.vector.specs.declared.sofar.Sofar.{Sofar}
use Rattle.tables.specs.declared.Tables.{Tables}

-- before any record
abbrev pub nothing : Sofar
nothing = record {
  last = None;
  partitions = 0;
  plans = 0;
  given = record { partitions = replicate 8 (replicate 8 false); system = replicate 4 false };
  tables = blank;
}

-- the header promises n partitions and m plans
abbrev pub with_header : ℕ → ℕ → Sofar → Sofar
with_header n m s = record s { last = Some kinds.Header; partitions = n; plans = m }

-- a record of another kind gives these tables
abbrev pub with_tables : Kind → Tables → Sofar → Sofar
with_tables k t s = record s { last = Some k; tables = t }

-- the vector has given the event of this scope an action
abbrev pub is_given : Scope → ℕ → Given → Bool
is_given (Partition p) e g = slice_index_or (slice_index_or g.partitions p []) e false
is_given System e g = slice_index_or g.system (e - 8) false

abbrev pub giving : Scope → ℕ → Given → Given
giving (Partition p) e g = record g { partitions = slice_set g.partitions p (slice_set (slice_index_or g.partitions p []) e true) }
giving System e g = record g { system = slice_set g.system (e - 8) true }

abbrev pub with_given : Given → Sofar → Sofar
with_given g s = record s { given = g }
