-- The bytes of answers.
use Rattle.std.specs.Prelude.{ℕ, ◌/◌, ◌%◌, List, [], ◌∷◌, ◌++◌, length, take, drop}
use Rattle.std.specs.Int.{w32}
use Rattle.std.proofs.Common.{of_z}
use Rattle.machine.specs.declared.answer.Reply.{Reply}
use Rattle.machine.specs.Runs.{Line}

-- a number in four bytes, the low byte first
abbrev pub long : ℕ → List ℕ
long n = (n % 256) ∷ (n / 256 % 256) ∷ (n / 65536 % 256) ∷ (n / 16777216 % 256) ∷ []

-- how many bytes an answer has
abbrev pub answer_bytes : ℕ
answer_bytes = 12

-- an answer in its bytes: its code (a negative one counted from 2 ^ 32 down), a and b
abbrev pub bytes_of : Reply → List ℕ
bytes_of r = long (of_z w32 r.code) ++ (long r.a ++ long r.b)

-- the answers of lines, one after another
unfoldable pub encoded : List Line → List ℕ
encoded [] = []
encoded (l ∷ ls) = bytes_of l.reply ++ encoded ls

-- bytes laid over the front of others
abbrev pub laid : List ℕ → List ℕ → List ℕ
laid new old = new ++ drop (length new) old

-- bytes put at a place among others
abbrev pub put : ℕ → List ℕ → List ℕ → List ℕ
put at new old = take at old ++ laid new (drop at old)
