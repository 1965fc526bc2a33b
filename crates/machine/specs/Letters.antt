-- What a channel's cell holds, as a message of the machine.
use Rattle.std.specs.Prelude.{ℕ, List, take, replicate}
use Rattle.machine.specs.declared.message.Message.{Message}
use Rattle.machine.specs.Time.{Time}

-- a message: its bytes, and when it was sent
pub record Letter : Type 0 where
  pub bytes : List ℕ
  pub time : Time

-- the bytes past its length do not count
abbrev pub letter_of : Message → Letter
letter_of m = record { bytes = take m.length m.bytes; time = m.time }

abbrev pub blank : Message
blank = record { bytes = replicate 64 0; length = 0; time = 0 }
