-- How an answer and a refusal are written.
use Rattle.std.specs.Prelude.{ℕ, List, ◌++◌, codes, decimal}
use Rattle.std.specs.Fmt.{signed_decimal}
use Rattle.vector.specs.Reasons.{Reason, reason}
use Rattle.machine.specs.declared.answer.Reply.{Reply}
use Rattle.machine.specs.Answers.{reply_of}
use Rattle.script.specs.declared.line.Line.{Line}
use Rattle.script.specs.declared.line.Refused.{Refused}

-- the code, a and b in decimal digits, with a space between them
abbrev pub spaced : Reply → List ℕ
spaced r = signed_decimal r.code ++ (codes " " ++ (decimal r.a ++ (codes " " ++ decimal r.b)))

-- the text of an answer's line
abbrev pub text : Line → List ℕ
text l = spaced (reply_of l.0)

-- a reason's number and place in decimal digits, behind the word
abbrev pub refusal : Reason → List ℕ
refusal r = codes "refused " ++ (decimal r.number ++ (codes " " ++ decimal r.place))

-- the text of a refusal's line
abbrev pub refused_text : Refused → List ℕ
refused_text r = refusal (reason r.0)
