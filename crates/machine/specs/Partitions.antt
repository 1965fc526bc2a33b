-- What can happen to a partition's record.
use Rattle.std.specs.Prelude.{ℕ, ◌-◌, ◌^◌, Bool, true, false, cond, not, ◌==◌, bit_and, bit_or}
use Rattle.machine.specs.declared.partition.Status.{Status}
use Rattle.machine.specs.declared.partition.Status.TheVariants.{Halted, Ready, Idle, Suspended}
use Rattle.machine.specs.declared.partition.Partition.{Partition}

-- a row that is not there
abbrev pub nobody : Partition
nobody = record { status = Halted; pending = 0; mask = 0; ports = 0 }

-- cleared: nothing pending, everything masked, no port open
abbrev pub cleared : Status → Partition
cleared s = record { status = s; pending = 0; mask = 4294967295; ports = 0 }

-- as the boot and a reset leave it
abbrev pub fresh : Partition
fresh = cleared Ready

abbrev pub halted : Partition → Partition
halted p = cleared Halted

abbrev pub with_status : Status → Partition → Partition
with_status s p = record p { status = s }

abbrev pub with_pending : ℕ → Partition → Partition
with_pending n p = record p { pending = n }

abbrev pub with_mask : ℕ → Partition → Partition
with_mask n p = record p { mask = n }

abbrev pub suspended : Partition → Partition
suspended p = with_status Suspended p

abbrev pub resumed : Partition → Partition
resumed p = with_status Ready p

-- is the bit of this number set in a word
abbrev pub bit : ℕ → ℕ → Bool
bit w i = not (bit_and w (2 ^ i) == 0)

-- a word without these bits
abbrev pub without : ℕ → ℕ → ℕ
without bits w = bit_and w (4294967295 - bits)

abbrev pub is_open : ℕ → Partition → Bool
is_open i p = bit p.ports i

abbrev pub opened : ℕ → Partition → Partition
opened i p = record p { ports = bit_or p.ports (2 ^ i) }

-- bits set in the mask, cleared in the mask, cleared in the pending word
abbrev pub masked : ℕ → Partition → Partition
masked bits p = with_mask (bit_or p.mask bits) p

abbrev pub unmasked : ℕ → Partition → Partition
unmasked bits p = with_mask (without bits p.mask) p

abbrev pub acknowledged : ℕ → Partition → Partition
acknowledged bits p = with_pending (without bits p.pending) p

abbrev pub is_ready : Status → Bool
is_ready Ready = true
is_ready _ = false

abbrev pub is_idle : Status → Bool
is_idle Idle = true
is_idle _ = false

-- READY or IDLE
abbrev pub is_active : Status → Bool
is_active Ready = true
is_active Idle = true
is_active _ = false

abbrev pub is_suspended : Status → Bool
is_suspended Suspended = true
is_suspended _ = false

-- does the mask hide every pending bit; a mask bit that is 1 hides the bit of its number
abbrev pub hidden : Partition → Bool
hidden p = bit_and p.pending p.mask == p.pending

-- an idle partition becomes READY
abbrev pub roused : Status → Status
roused Halted = Halted
roused Ready = Ready
roused Idle = Ready
roused Suspended = Suspended

-- .. where it is due
abbrev pub woken : Bool → Partition → Partition
woken due p = cond due (with_status (roused p.status) p) p

-- what the start of its slot does to a partition: an IDLE one becomes READY
abbrev pub slot_started : Partition → Partition
slot_started p = woken true p

-- to go idle, unless an unmasked bit is pending
abbrev pub idled : Partition → Partition
idled p = cond (hidden p) (with_status Idle p) p

-- an idle partition with a pending bit that is not masked becomes READY
abbrev pub noticed : Partition → Partition
noticed p = woken (not (hidden p)) p

-- to signal bits sets them in the pending word, unless the partition is HALTED
abbrev pub signalled_at : Status → ℕ → Partition → Partition
signalled_at Halted bits p = p
signalled_at Ready bits p = noticed (with_pending (bit_or p.pending bits) p)
signalled_at Idle bits p = noticed (with_pending (bit_or p.pending bits) p)
signalled_at Suspended bits p = noticed (with_pending (bit_or p.pending bits) p)

abbrev pub signalled : ℕ → Partition → Partition
signalled bits p = signalled_at p.status bits p
