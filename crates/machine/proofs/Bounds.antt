-- What no event leaves: plans that are there, calm partitions, a log of at most 32 entries, channels within their room.
use Rattle.std.proofs.Common.{List, [], ◌∷◌}
use Rattle.board.specs.Areas.{Area}
use Rattle.tables.specs.declared.Tables.{Tables}
use Rattle.machine.specs.declared.event.Event.{Event}
use Rattle.machine.specs.State.{Core, State}
use Rattle.machine.specs.Step.{step, boot}
use Rattle.machine.specs.Runs.{after}
use Rattle.machine.specs.Laws.{Steady, Lasting}
use Rattle.machine.proofs.Sane.{Sane, boot_sane}
use Rattle.machine.proofs.Outcomes.{tamed}

steady-sane : (k : Tables) (x : Core) → Steady k x → Sane k x
steady-sane k x r =
    let b = r.bounded in
    record {
      plans = r.plans;
      parts = record { at = λ q. record { none = b.halted q; idle = b.idle q; own = b.own q; absent = λ w. r.absent w q } };
      log = record { few = b.log; order = b.order; past = b.past };
      chans = λ c. (b.chans c, b.sized c);
    }

sane-steady : (k : Tables) (x : Core) → Sane k x → Steady k x
sane-steady k x r =
    record {
      bounded =
          record {
            halted = λ q. (r.parts.at q).none;
            idle = λ q. (r.parts.at q).idle;
            own = λ q. (r.parts.at q).own;
            log = r.log.few;
            order = r.log.order;
            past = r.log.past;
            chans = λ c. (r.chans c).0;
            sized = λ c. (r.chans c).1;
          };
      plans = r.plans;
      absent = λ w q. (r.parts.at q).absent w;
    }

pub lasting : (k : Tables) (s : State) (e : Event) → Lasting k s e
lasting k s e r = sane-steady k _ ((tamed k s e).sane (steady-sane k s.core r))

-- the boot has it, and so has every history from there on
pub booted : (k : Tables) (ms : List Area) → Steady k (boot k ms).core
booted k ms = sane-steady k _ (boot_sane k ms)

after-steady : (k : Tables) (s : State) → Steady k s.core → (h : List Event) → Steady k (after k s h).core
unfolding after
after-steady k s r [] = r
after-steady k s r (e ∷ es) = after-steady k (step k s e).state (lasting k s e r) es

pub steady : (k : Tables) (ms : List Area) (h : List Event) → Steady k (after k (boot k ms) h).core
steady k ms h = after-steady k (boot k ms) (booted k ms) h
