-- The calls by their numbers.
use Rattle.std.specs.Prelude.{ℕ, cond, List, [], ◌∷◌, length, nat_lt, slice_index_or, Result, Ok, Err}
use Rattle.machine.specs.declared.event.Hypercall.{Hypercall}
use Rattle.machine.specs.declared.event.Hypercall.TheVariants.{GetTime, GetPartitionStatus, HaltPartition, SuspendPartition, ResumePartition, ResetPartition, IdleSelf, SwitchPlan, GetPlanStatus, CreateSamplingPort, WriteSamplingMessage, ReadSamplingMessage, CreateQueuingPort, SendQueuingMessage, ReceiveQueuingMessage, GetQueuingStatus, RaiseIpvi, GetIrqs, SetIrqMask, ClearIrqMask, ClearIrqPending, RaisePartitionError, ReadLog, ResetSystem, HaltSystem}
use Rattle.machine.specs.declared.answer.Refusal.{Refusal}
use Rattle.machine.specs.declared.answer.Refusal.TheVariants.{UnknownHypercall}
use Rattle.machine.specs.State.{refused}
use Rattle.machine.specs.Management.{Call, get_time, get_partition_status, halt_partition, suspend_partition, resume_partition, reset_partition, idle_self, switch_plan, get_plan_status}
use Rattle.machine.specs.Ports.{create_sampling_port, write_sampling_message, read_sampling_message, create_queuing_port, send_queuing_message, receive_queuing_message, get_queuing_status}
use Rattle.machine.specs.Interrupts.{raise_ipvi, get_irqs, set_irq_mask, clear_irq_mask, clear_irq_pending}
use Rattle.machine.specs.Monitor.{raise_partition_error, read_log, reset_system, halt_system}

abbrev pub perform : Hypercall → Call
perform GetTime = get_time
perform GetPartitionStatus = get_partition_status
perform HaltPartition = halt_partition
perform SuspendPartition = suspend_partition
perform ResumePartition = resume_partition
perform ResetPartition = reset_partition
perform IdleSelf = idle_self
perform SwitchPlan = switch_plan
perform GetPlanStatus = get_plan_status
perform CreateSamplingPort = create_sampling_port
perform WriteSamplingMessage = write_sampling_message
perform ReadSamplingMessage = read_sampling_message
perform CreateQueuingPort = create_queuing_port
perform SendQueuingMessage = send_queuing_message
perform ReceiveQueuingMessage = receive_queuing_message
perform GetQueuingStatus = get_queuing_status
perform RaiseIpvi = raise_ipvi
perform GetIrqs = get_irqs
perform SetIrqMask = set_irq_mask
perform ClearIrqMask = clear_irq_mask
perform ClearIrqPending = clear_irq_pending
perform RaisePartitionError = raise_partition_error
perform ReadLog = read_log
perform ResetSystem = reset_system
perform HaltSystem = halt_system

-- the calls by their numbers, from 0
abbrev pub calls : List Hypercall
calls =
    GetTime ∷ GetPartitionStatus ∷ HaltPartition ∷ SuspendPartition ∷ ResumePartition ∷ ResetPartition
    ∷ IdleSelf ∷ SwitchPlan ∷ GetPlanStatus
    ∷ CreateSamplingPort ∷ WriteSamplingMessage ∷ ReadSamplingMessage
    ∷ CreateQueuingPort ∷ SendQueuingMessage ∷ ReceiveQueuingMessage ∷ GetQueuingStatus
    ∷ RaiseIpvi ∷ GetIrqs ∷ SetIrqMask ∷ ClearIrqMask ∷ ClearIrqPending
    ∷ RaisePartitionError ∷ ReadLog ∷ ResetSystem ∷ HaltSystem ∷ []

-- how many there are: a call's number is below this
abbrev pub call_count : ℕ
call_count = length calls

-- the call of a number, if there is one
abbrev pub call_of : ℕ → Result Hypercall Refusal
call_of n = cond (nat_lt n call_count) (Ok (slice_index_or calls n GetTime)) (Err UnknownHypercall)

-- what such a call does
abbrev pub attempted : Result Hypercall Refusal → Call
attempted (Ok h) k x a q g = perform h k x a q g
attempted (Err r) k x a q g = refused x r

abbrev pub called : ℕ → Call
called n k x a q g = attempted (call_of n) k x a q g
