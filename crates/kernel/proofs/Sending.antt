-- A send that is refused.
use Rattle.std.proofs.Common.{◌≡◌, ℕ, Bool, true, false, cond, List, Ok, Err, Result, ap}
use Rattle.tables.specs.declared.channel.ChannelKind.{ChannelKind}
use Rattle.tables.specs.declared.Tables.{Tables}
use Rattle.machine.specs.declared.answer.Refusal.{Refusal}
use Rattle.machine.specs.declared.answer.Refusal.TheVariants.{InvalidMode, InvalidParam}
use Rattle.machine.specs.Ports.{sending}
use Rattle.machine.specs.State.{Core, Out, guard, refused}
use Rattle.kernel.specs.Targets.{source_of}

refusals : (d e : Refusal) → ◌≡◌ {A = Result ℕ Refusal} (Err d) (Err e) → d ≡ e
refusals d e h = cc

ways : (x : Core) (o : Out) (n : ℕ) (e : Refusal) (a b : Bool) → cond a (cond b (Ok n) (Err InvalidMode)) (Err InvalidParam) ≡ Err e →
    guard a (guard b o (refused x InvalidMode)) (refused x InvalidParam) ≡ refused x e
ways x o n e true true h = absurd cc
ways x o n e true false h = ap (refused x) (refusals InvalidMode e h)
ways x o n e false b h = ap (refused x) (refusals InvalidParam e h)

-- where there is no channel to send on, the call is refused as the search for one was
pub unsent : (t : ChannelKind) (k : Tables) (x : Core) (a : List ℕ) (q : ℕ) (g : List ℕ) (o : Out) (e : Refusal) →
    source_of t k x a q g ≡ Err e → sending t k x a q g o ≡ refused x e
unsent t k x a q g o e h = ways x o _ e _ _ h
