-- What the program prints for an input: one of three things.
use Rattle.std.specs.Prelude.{ℕ, List, codes, IfSome, Some, None, Option}
use Rattle.std.specs.Io.KnownBytes.{Appends}
use Rattle.vector.specs.Reading.{Verdict, taken, refused, verdict, tables}
use Rattle.machine.specs.declared.event.Event.{Event}
use Rattle.machine.specs.Runs.{events_of}
use Rattle.script.specs.Format.{Said, said}
use Rattle.script.specs.Lines.{refusal}
use Rattle.xmscript.specs.declared.Wanted.{Wanted}
use Rattle.xmscript.specs.Lines.{ended}
use Rattle.xmscript.specs.Boards.{boards_text}

-- the refusal of the vector, or the answers where it is taken
abbrev pub verdict_text : Verdict → List ℕ → List Event → Wanted → List ℕ
verdict_text (refused l n p) vector events wanted = ended (refusal (record { layer = l; number = n; place = p }))
verdict_text taken vector events wanted = boards_text (tables vector) events wanted

-- `bad` where the input is no script
abbrev pub script_text : Option Said → Wanted → List ℕ
script_text None wanted = ended (codes "bad")
script_text (Some s) wanted = verdict_text (verdict s.vector) s.vector (events_of s.history) wanted

abbrev pub output_of : List ℕ → Wanted → List ℕ
output_of input wanted = script_text (said input) wanted

-- what is written has grown by the output for the input, where the input is known
abbrev pub Replies : Option (List ℕ) → Wanted → Option (List ℕ) → Option (List ℕ) → Type 0
Replies input wanted old new = IfSome input (λ bytes. Appends old new (output_of bytes wanted))
