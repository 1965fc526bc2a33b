-- The numbers of each answer: a code and the values a and b, 0 where the answer names none.
use Rattle.std.specs.Prelude.{ℕ, ◌+◌, ◌*◌, ℤ, pos, negsuc, Result, Ok, Err}
use Rattle.tables.specs.Numbers.{scope_number, action_number}
use Rattle.machine.specs.declared.partition.Status.{Status}
use Rattle.machine.specs.declared.partition.Status.TheVariants.{Halted, Ready, Idle, Suspended}
use Rattle.machine.specs.declared.log.Entry.{Entry}
use Rattle.machine.specs.declared.answer.Refusal.{Refusal}
use Rattle.machine.specs.declared.answer.Refusal.TheVariants.{NoAction, UnknownHypercall, InvalidParam, PermError, InvalidConfig, InvalidMode, NotAvailable, OpNotAllowed, NotOnProcessor, SystemHalted}
use Rattle.machine.specs.declared.answer.Answer.{Answer}
use Rattle.machine.specs.declared.answer.Answer.TheVariants.{Done, Time, State, Plans, Port, Received, Waiting, Words, Logged, Byte, Outside, Responded}
use Rattle.machine.specs.declared.answer.Reply.{Reply}

-- -1 to -10
abbrev pub refusal_code : Refusal → ℤ
refusal_code NoAction = negsuc 0
refusal_code UnknownHypercall = negsuc 1
refusal_code InvalidParam = negsuc 2
refusal_code PermError = negsuc 3
refusal_code InvalidConfig = negsuc 4
refusal_code InvalidMode = negsuc 5
refusal_code NotAvailable = negsuc 6
refusal_code OpNotAllowed = negsuc 7
refusal_code NotOnProcessor = negsuc 8
refusal_code SystemHalted = negsuc 9

abbrev pub status_number : Status → ℕ
status_number Halted = 4
status_number Ready = 1
status_number Idle = 2
status_number Suspended = 3

-- a log entry in one word: scope, event and action, a byte each, by the numbers that a vector has for them
abbrev pub packed : Entry → ℕ
packed e = scope_number e.scope + 256 * e.event + 65536 * action_number e.action

abbrev pub reply : ℤ → ℕ → ℕ → Reply
reply z m n = record { code = z; a = m; b = n }

-- the numbers of each answer
abbrev pub answer_reply : Answer → Reply
answer_reply Done = reply (pos 0) 0 0
answer_reply (Time t) = reply (pos 0) t 0
answer_reply (State s) = reply (pos (status_number s)) 0 0
answer_reply (Plans p n m) = reply (pos p) n m
answer_reply (Port i) = reply (pos i) 0 0
answer_reply (Received n t m) = reply (pos n) t m
answer_reply (Waiting n) = reply (pos 0) n 0
answer_reply (Words p m) = reply (pos 0) p m
answer_reply (Logged n e) = reply (pos n) e.time (packed e)
answer_reply (Byte v) = reply (pos 0) v 0
answer_reply Outside = reply (pos 1) 0 0
answer_reply (Responded r) = reply (pos (action_number r)) 0 0

-- .. and of each outcome
abbrev pub reply_of : Result Answer Refusal → Reply
reply_of (Ok x) = answer_reply x
reply_of (Err r) = reply (refusal_code r) 0 0
