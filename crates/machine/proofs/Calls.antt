-- Each call by its number, by a member and by an outsider.
use Rattle.std.proofs.Common.{ℕ, Bool, Result, Ok, Err}
use Rattle.tables.specs.declared.Tables.{Tables}
use Rattle.tables.specs.declared.channel.ChannelKind.TheVariants.{Sampling, Queuing}
use Rattle.machine.specs.declared.answer.Refusal.{Refusal}
use Rattle.machine.specs.declared.event.Hypercall.{Hypercall}
use Rattle.machine.specs.declared.event.Hypercall.TheVariants.{GetTime, GetPartitionStatus, HaltPartition, SuspendPartition, ResumePartition, ResetPartition, IdleSelf, SwitchPlan, GetPlanStatus, CreateSamplingPort, WriteSamplingMessage, ReadSamplingMessage, CreateQueuingPort, SendQueuingMessage, ReceiveQueuingMessage, GetQueuingStatus, RaiseIpvi, GetIrqs, SetIrqMask, ClearIrqMask, ClearIrqPending, RaisePartitionError, ReadLog, ResetSystem, HaltSystem}
use Rattle.machine.specs.State.{keeps}
use Rattle.machine.specs.Calls.{perform, call_of, attempted, called}
use Rattle.machine.proofs.Alike.{alike_refl, matched_same, quiet_core}
use Rattle.machine.proofs.Sealed.{Sealed}
use Rattle.machine.proofs.Respects.{Respects}
use Rattle.machine.proofs.Targets.{get_time_respects, get_partition_status_respects, halt_partition_respects, suspend_partition_respects, resume_partition_respects, reset_partition_respects, idle_self_respects, switch_plan_respects, get_plan_status_respects}
use Rattle.machine.proofs.Ports.{create_respects, write_sampling_message_respects, read_sampling_message_respects, send_queuing_message_respects, receive_queuing_message_respects, get_queuing_status_respects}
use Rattle.machine.proofs.Signals.{raise_ipvi_respects, get_irqs_respects, set_irq_mask_respects, clear_irq_mask_respects, clear_irq_pending_respects}
use Rattle.machine.proofs.Responses.{raise_partition_error_respects, read_log_respects, reset_system_respects, halt_system_respects}

module _ (k : Tables) (M C : ℕ → Bool) (w : Sealed k M C) where
  perform_respects : (h : Hypercall) → Respects k M C (perform h)
  perform_respects GetTime = get_time_respects k M C w
  perform_respects GetPartitionStatus = get_partition_status_respects k M C w
  perform_respects HaltPartition = halt_partition_respects k M C w
  perform_respects SuspendPartition = suspend_partition_respects k M C w
  perform_respects ResumePartition = resume_partition_respects k M C w
  perform_respects ResetPartition = reset_partition_respects k M C w
  perform_respects IdleSelf = idle_self_respects k M C w
  perform_respects SwitchPlan = switch_plan_respects k M C w
  perform_respects GetPlanStatus = get_plan_status_respects k M C w
  perform_respects CreateSamplingPort = create_respects k M C w Sampling
  perform_respects WriteSamplingMessage = write_sampling_message_respects k M C w
  perform_respects ReadSamplingMessage = read_sampling_message_respects k M C w
  perform_respects CreateQueuingPort = create_respects k M C w Queuing
  perform_respects SendQueuingMessage = send_queuing_message_respects k M C w
  perform_respects ReceiveQueuingMessage = receive_queuing_message_respects k M C w
  perform_respects GetQueuingStatus = get_queuing_status_respects k M C w
  perform_respects RaiseIpvi = raise_ipvi_respects k M C w
  perform_respects GetIrqs = get_irqs_respects k M C w
  perform_respects SetIrqMask = set_irq_mask_respects k M C w
  perform_respects ClearIrqMask = clear_irq_mask_respects k M C w
  perform_respects ClearIrqPending = clear_irq_pending_respects k M C w
  perform_respects RaisePartitionError = raise_partition_error_respects k M C w
  perform_respects ReadLog = read_log_respects k M C w
  perform_respects ResetSystem = reset_system_respects k M C w
  perform_respects HaltSystem = halt_system_respects k M C w

  attempted_respects : (c : Result Hypercall Refusal) → Respects k M C (attempted c)
  attempted_respects (Ok h) = perform_respects h
  attempted_respects (Err r) =
      record {
        inside = λ q m x y a g s. matched_same k M C q keeps _ s;
        outside = λ q o h x a g. quiet_core M C x _ (alike_refl M C x);
      }

  pub called_respects : (n : ℕ) → Respects k M C (called n)
  called_respects n = attempted_respects (call_of n)
