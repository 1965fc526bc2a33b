-- How a script that is not read is told.
use Rattle.std.specs.Prelude.{ℕ, List, codes}
use Rattle.script.specs.declared.error.ScriptError.{ScriptError}
use Rattle.script.specs.declared.error.ScriptError.TheVariants.{Malformed, OutOfMemory}

abbrev pub error_text : ScriptError → List ℕ
error_text Malformed = codes "bad"
error_text OutOfMemory = codes "no memory for the script"
