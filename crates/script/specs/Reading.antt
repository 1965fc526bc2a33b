-- What the functions of the reader promise of their results.
use Rattle.std.specs.Prelude.{◌≡◌, ℕ, true, false, List, Some, None, Ok, Err, vec_items, Option, Result, Vec}
use Rattle.std.specs.declared.alloc.Global.{Global}
use Rattle.machine.specs.declared.event.Exchange.{Exchange}
use Rattle.script.specs.Format.{opens, vector_of, records_of, history_of, saying, said}
use Rattle.script.specs.declared.Script.{Script}
use Rattle.script.specs.declared.opening.Opening.{Opening}
use Rattle.script.specs.declared.error.ScriptError.{ScriptError}
use Rattle.script.specs.declared.error.ScriptError.TheVariants.{Malformed, OutOfMemory}

-- a script falls into its vector and its records
abbrev pub Divides : List ℕ → Option Opening → Type 0
Divides bs None = opens bs ≡ false
Divides bs (Some o) = (opens bs ≡ true) × (o.vector.now ≡ vector_of bs) × (o.records.now ≡ records_of bs)

-- the records are read as they say, and malformed where they say nothing; no memory says nothing
abbrev pub Lists : List ℕ → Result (Vec Exchange Global) ScriptError → Type 0
Lists bs (Ok v) = history_of bs ≡ Some (vec_items v)
Lists bs (Err Malformed) = history_of bs ≡ None
Lists bs (Err OutOfMemory) = Unit {0}

-- a script is read as it says, and malformed where it says nothing; no memory says only that it opens
abbrev pub Reads : List ℕ → Result Script ScriptError → Type 0
Reads bs (Ok s) = said bs ≡ Some (saying s.vector.now (vec_items s.history))
Reads bs (Err Malformed) = said bs ≡ None
Reads bs (Err OutOfMemory) = opens bs ≡ true
