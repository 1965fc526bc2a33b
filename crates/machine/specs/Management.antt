-- The calls on time, partitions and plans: 0 to 8.
use Rattle.std.specs.Prelude.{ℕ, ◌+◌, ◌-◌, cond, List, [], ◌∷◌, Result, Ok, Err, pos, ◌==◌, nat_lt, slice_index, slice_index_or, slice_set}
use Rattle.board.specs.Areas.{Area}
use Rattle.tables.specs.declared.Tables.{Tables}
use Rattle.tables.specs.declared.plan.Slot.{Slot}
use Rattle.tables.specs.Tables.{Offset}
use Rattle.machine.specs.declared.answer.Refusal.{Refusal}
use Rattle.machine.specs.declared.answer.Refusal.TheVariants.{NoAction, InvalidParam, PermError}
use Rattle.machine.specs.declared.event.ResetMode.{ResetMode}
use Rattle.machine.specs.declared.event.ResetMode.TheVariants.{Warm, Cold}
use Rattle.machine.specs.Answers.{reply, status_number}
use Rattle.machine.specs.Partitions.{nobody, fresh, halted, suspended, resumed, idled, is_active, is_suspended}
use Rattle.machine.specs.Questions.{exists, manages, is_system, plan, slots_of}
use Rattle.machine.specs.State.{Core, clears, Out, answered, told, done, refused, guard, with_clock, with_parts, modify}

-- a call: tables, core, the caller's own area, the caller, the arguments
abbrev pub Call : Type 0
Call = Tables → Core → Area → ℕ → List ℕ → Out

-- an argument by its place
abbrev pub arg : List ℕ → ℕ → ℕ
arg g i = slice_index g i

-- 0: the time in a
abbrev pub get_time : Call
get_time k x a q g = answered x x.clock.time 0

-- a target that exists, and that the caller manages
abbrev pub on_target : Tables → Core → ℕ → ℕ → Out → Out
on_target k x q t o = guard (exists k t) (guard (manages k q t) o (refused x PermError)) (refused x InvalidParam)

-- 1: the target's state as code
abbrev pub get_partition_status : Call
get_partition_status k x a q g = on_target k x q (arg g 0) (told x (status_number (slice_index_or x.parts (arg g 0) nobody).status) 0 0)

-- 2: the target is HALTED and cleared
abbrev pub halt_partition : Call
halt_partition k x a q g = on_target k x q (arg g 0) (done (with_parts x (modify x.parts (arg g 0) halted)))

-- 3: a READY or IDLE target is SUSPENDED
abbrev pub suspend_partition : Call
suspend_partition k x a q g =
    on_target k x q (arg g 0)
    (guard (is_active (slice_index_or x.parts (arg g 0) nobody).status) (done (with_parts x (modify x.parts (arg g 0) suspended))) (refused x NoAction))

-- 4: a SUSPENDED target is READY
abbrev pub resume_partition : Call
resume_partition k x a q g =
    on_target k x q (arg g 0)
    (guard (is_suspended (slice_index_or x.parts (arg g 0) nobody).status) (done (with_parts x (modify x.parts (arg g 0) resumed))) (refused x NoAction))

abbrev pub renewed : Core → ℕ → Core
renewed x t = with_parts x (slice_set x.parts t fresh)

-- a reset of mode 0 is warm, of mode 1 cold
abbrev pub mode_of : ℕ → Result ResetMode Refusal
mode_of n = cond (n == 0) (Ok Warm) (cond (n == 1) (Ok Cold) (Err InvalidParam))

-- 5: the target is cleared and READY; mode 1, cold, also zeroes its area
abbrev pub reset_partition : Call
reset_partition k x a q g =
    guard (nat_lt (arg g 1) 2)
    (on_target k x q (arg g 0)
    (guard (arg g 1 == 1)
    (record { core = renewed x (arg g 0); effect = clears (arg g 0); reply = reply (pos 0) 0 0 })
    (done (renewed x (arg g 0)))))
    (refused x InvalidParam)

-- 6: the caller goes IDLE, unless an unmasked bit is pending
abbrev pub idle_self : Call
idle_self k x a q g = done (with_parts x (modify x.parts q idled))

-- 7: the plan that follows at the frame's end
abbrev pub switch_plan : Call
switch_plan k x a q g =
    guard (nat_lt (arg g 0) k.plans.count)
    (guard (is_system k q)
    (done (with_clock x (record x.clock { next = arg g 0 })))
    (refused x PermError))
    (refused x InvalidParam)

-- the microseconds without a slot from e to the frame's end f, gap by gap
unfoldable pub gaps : Offset → List Slot → Offset → Offset
gaps e [] f = f - e
gaps e (s ∷ ss) f = (s.start - e) + gaps (s.start + s.duration) ss f

-- 8: the plan as code, the next plan in a, the frame's slotless microseconds in b
abbrev pub get_plan_status : Call
get_plan_status k x a q g =
    told x x.clock.plan x.clock.next (gaps 0 (slots_of (plan k x.clock.plan)) (plan k x.clock.plan).frame)
