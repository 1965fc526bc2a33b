-- The health monitor: its log, and what each response does.
use Rattle.std.specs.Prelude.{ℕ, ◌-◌, Bool, true, ◌&&◌, cond, [], replicate, pos, nat_le, nat_lt, slice_index_or}
use Rattle.queue.specs.Ring.{over}
use Rattle.tables.specs.declared.Tables.{Tables}
use Rattle.tables.specs.declared.response.Response.{Response}
use Rattle.tables.specs.declared.response.Action.{Action}
use Rattle.tables.specs.declared.response.Action.TheVariants.{Ignore, Signal, Suspend, Halt, WarmReset, ColdReset}
use Rattle.tables.specs.declared.response.Scope.{Scope}
use Rattle.tables.specs.declared.response.Scope.TheVariants.{Partition, System}
use Rattle.tables.specs.Blank.{response0}
use Rattle.machine.specs.declared.log.Entry.{Entry}
use Rattle.machine.specs.Partitions.{halted, suspended, fresh, signalled}
use Rattle.tables.specs.Numbers.{action_number}
use Rattle.machine.specs.Answers.{reply}
use Rattle.machine.specs.Questions.{response}
use Rattle.machine.specs.Time.{Time}
use Rattle.machine.specs.State.{Core, Effect, keeps, clears, clears_all, Out, replied, with_clock, with_parts, with_chans, with_log, with_halted, modify}

-- the bit that signals a fault
abbrev pub fault_bit : ℕ
fault_bit = 512

abbrev pub entry : Scope → ℕ → Action → Time → Entry
entry c e a t = record { action = a; scope = c; event = e; time = t }

-- one entry more in the log of 32, where the oldest gives way
abbrev pub noted : Entry → Core → Core
noted e x = with_log x (over 32 x.log e)

-- the entry of a fault event, if the response says so
abbrev pub logged : Scope → ℕ → Response → Core → Core
logged c e r x = cond r.log (noted (entry c e r.action x.clock.time) x) x

-- an outcome whose code is the action
abbrev pub acted : Action → Core → Effect → Out
acted a x f = record { core = x; effect = f; reply = reply (pos (action_number a)) 0 0 }

-- what an action does to a partition
abbrev pub carried : Action → ℕ → Core → Out
carried Ignore q x = acted Ignore x keeps
carried Signal q x = acted Signal (with_parts x (modify x.parts q (signalled fault_bit))) keeps
carried Suspend q x = acted Suspend (with_parts x (modify x.parts q suspended)) keeps
carried Halt q x = acted Halt (with_parts x (modify x.parts q halted)) keeps
carried WarmReset q x = acted WarmReset (with_parts x (modify x.parts q (λ _. fresh))) keeps
carried ColdReset q x = acted ColdReset (with_parts x (modify x.parts q (λ _. fresh))) (clears q)

-- a fault event of a partition: the log entry comes before the action
abbrev pub faulted : Tables → Core → ℕ → ℕ → Out
faulted k x q e = carried (response k q e).action q (logged (Partition q) e (response k q e) x)

-- a load or store outside the area: fault 6, and the code is 1
abbrev pub strayed : Tables → Core → ℕ → Out
strayed k x q = replied (reply (pos 1) 0 0) (faulted k x q 6)

-- a system reset: every partition reset, the channels empty, both plans 0, a frame begins now
abbrev pub restarted : Core → Core
restarted x =
    with_chans (with_parts (with_clock x (record x.clock { plan = 0; next = 0; start = x.clock.time })) (replicate 8 fresh)) (replicate 8 [])

-- what an action does to the system; a cold reset also empties the log and the partitions' areas
abbrev pub system_carried : Tables → Action → Core → Out
system_carried k Ignore x = acted Ignore x keeps
system_carried k Signal x = acted Signal x keeps
system_carried k Suspend x = acted Suspend x keeps
system_carried k Halt x = acted Halt (with_halted x true) keeps
system_carried k WarmReset x = acted WarmReset (restarted x) keeps
system_carried k ColdReset x = acted ColdReset (with_log (restarted x) []) (clears_all k.partitions.count)

-- the fault events of the system are 8 to 11
abbrev pub is_systems : ℕ → Bool
is_systems e = nat_le 8 e && nat_lt e 12

abbrev pub system_response : Tables → ℕ → Response
system_response k e = slice_index_or k.system (e - 8) response0

abbrev pub system_faulted : Tables → Core → ℕ → Out
system_faulted k x e = system_carried k (system_response k e).action (logged System e (system_response k e) x)
