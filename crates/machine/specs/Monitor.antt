-- The calls on the health monitor and the system: 21 to 24.
use Rattle.std.specs.Prelude.{true, [], length, pos, Some, None, Option, ◌==◌, nat_lt}
use Rattle.queue.specs.Ring.{first, rest}
use Rattle.machine.specs.declared.log.Entry.{Entry}
use Rattle.machine.specs.declared.answer.Refusal.TheVariants.{InvalidParam, PermError, NotAvailable}
use Rattle.machine.specs.Answers.{packed, reply}
use Rattle.machine.specs.Questions.{is_system}
use Rattle.machine.specs.Management.{Call, arg}
use Rattle.machine.specs.Faults.{faulted, restarted}
use Rattle.machine.specs.State.{Core, clears_all, Out, told, done, refused, guard, with_log, with_halted}

-- 21: fault 7 of the caller
abbrev pub raise_partition_error : Call
raise_partition_error k x a q g = faulted k x q 7

-- the oldest entry leaves the log: the code is the number left, a its time, b the rest of it
abbrev pub read : Core → Option Entry → Out
read x None = refused x NotAvailable
read x (Some e) = told (with_log x (rest x.log)) (length (rest x.log)) e.time (packed e)

-- 22: takes the oldest entry of the log
abbrev pub read_log : Call
read_log k x a q g = guard (is_system k q) (read x (first x.log)) (refused x PermError)

-- 23: a system reset; mode 1 is cold
abbrev pub reset_system : Call
reset_system k x a q g =
    guard (nat_lt (arg g 0) 2)
    (guard (is_system k q)
    (guard (arg g 0 == 1)
    (record { core = with_log (restarted x) []; effect = clears_all k.partitions.count; reply = reply (pos 0) 0 0 })
    (done (restarted x)))
    (refused x PermError))
    (refused x InvalidParam)

-- 24: halts the system
abbrev pub halt_system : Call
halt_system k x a q g = guard (is_system k q) (done (with_halted x true)) (refused x PermError)
