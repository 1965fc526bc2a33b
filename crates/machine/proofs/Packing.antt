-- The word of a log entry gives back what went into it.
use Rattle.std.proofs.Common.{◌≡◌, ℕ, ◌<◌, [], ◌∷◌, get_or, sym, refl, ap, ◌∙◌, arith}
use Rattle.tables.specs.Numbers.{scope_number, action_number}
use Rattle.tables.specs.declared.response.Scope.{Scope}
use Rattle.tables.specs.declared.response.Scope.TheVariants.{Partition, System}
use Rattle.tables.specs.declared.response.Action.{Action}
use Rattle.tables.specs.declared.response.Action.TheVariants.{Ignore, Signal, Suspend, Halt, WarmReset, ColdReset}
use Rattle.machine.specs.declared.log.Entry.{Entry}
use Rattle.machine.specs.Answers.{packed}
use Rattle.machine.specs.Packing.{Below, Noted, Unpacks, Telling}

byte : (c : Scope) → Below c → scope_number c < 256
byte (Partition p) h = omega arith
byte System h = omega arith

pub unpacks : (e : Entry) → Noted e → Unpacks e (packed e)
unpacks e h =
    let s = byte e.scope h.0 in
    let v = h.1 in
    record { scope = omega arith; event = omega arith; action = omega arith }

scope-back : (c d : Scope) → Below c → Below d → scope_number c ≡ scope_number d → c ≡ d
scope-back (Partition p) (Partition q) g h e = ap Partition e
scope-back (Partition p) System g h e = absurd (omega arith)
scope-back System (Partition q) g h e = absurd (omega arith)
scope-back System System g h e = refl

-- the action of a number
abbrev action_back : ℕ → Action
action_back n = get_or (Ignore ∷ Signal ∷ Suspend ∷ Halt ∷ WarmReset ∷ ColdReset ∷ []) n Ignore

back : (a : Action) → action_back (action_number a) ≡ a
back Ignore = refl
back Signal = refl
back Suspend = refl
back Halt = refl
back WarmReset = refl
back ColdReset = refl

pub telling : Telling
telling e f g h w =
    let u = unpacks e g in
    let v = unpacks f h in (
      scope-back e.scope f.scope g.0 h.0 (omega (arith, u.scope, v.scope, w)),
      omega (arith, u.event, v.event, w),
      sym (back e.action) ∙ (ap action_back (omega (arith, u.action, v.action, w)) ∙ back f.action),
    )
