-- The records say what a script's say.
use Rattle.std.proofs.Common.{◌≡◌, ℕ, zero, suc, ◌+◌, Bool, true, false, cond, List, [], ◌∷◌, Some, None, Option, refl, ap, ◌∙◌}
use Rattle.machine.specs.declared.event.Event.{Event}
use Rattle.events.specs.Records.{short_at, first, followed, events_after, events_of}
use Rattle.entrance.specs.Session.{Read, before, read_after, read_of, events_in}

followed-whole : (e : Event) (es : List Event) (w : Bool) → followed (Some e) (cond w (Some es) None) ≡ cond w (Some (e ∷ es)) None
followed-whole e es true = refl
followed-whole e es false = refl

followed-read : (o : Option Event) (r : Read) → followed o (events_in r) ≡ events_in (before o r)
followed-read None r = refl
followed-read (Some e) r = followed-whole e r.events r.whole

read-joined : (skip : ℕ) (bs : List ℕ) → events_after skip bs ≡ events_in (read_after skip bs)
unfolding events_after read_after
read-joined skip [] = refl
read-joined (suc k) (b ∷ bs) = read-joined k bs
read-joined zero (b ∷ bs) =
    let n = 3 + short_at (b ∷ bs) 0 in
    ap (followed (first (b ∷ bs))) (read-joined n bs) ∙ followed-read (first (b ∷ bs)) (read_after n bs)

pub events_read : (bs : List ℕ) → events_of bs ≡ events_in (read_of bs)
events_read bs = read-joined 0 bs
