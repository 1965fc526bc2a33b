-- The records one by one: what is read so far, and what the bytes that are left say.
use Rattle.std.proofs.Common.{◌≡◌, ℕ, List, [], ◌∷◌, ◌++◌, map, length, Some, None, Option, sym, refl, ap, ◌∙◌, append_assoc, append-nil, arith, nat_eq, true, false, true-eqb}
use Rattle.std.specs.Option.{option_map}
use Rattle.machine.specs.declared.event.Event.{Event}
use Rattle.machine.specs.declared.event.Exchange.{Exchange}
use Rattle.events.specs.Records.{beyond, first, followed, events_after, events_of}
use Rattle.events.proofs.Records.{record_then}
use Rattle.script.specs.Format.{unanswered, history_of}

-- the history so far, and the rest of it
abbrev pub joined : List Exchange → Option (List Exchange) → Option (List Exchange)
joined xs None = None
joined xs (Some ys) = Some (xs ++ ys)

joined-one : (xs : List Exchange) (x : Exchange) (o : Option (List Exchange)) → joined (xs ++ x ∷ []) o ≡ joined xs (joined (x ∷ []) o)
joined-one xs x None = refl
joined-one xs x (Some ys) = ap Some (append_assoc xs (x ∷ []) ys)

pub at_end : (xs : List Exchange) (bs : List ℕ) → true ≡ nat_eq (length bs) 0 → joined xs (history_of bs) ≡ Some xs
unfolding events_after
at_end xs [] h = ap Some (append-nil xs)
at_end xs (b ∷ bs) h = absurd (omega (arith, true-eqb (length (b ∷ bs)) 0 h))

pub malformed : (xs : List Exchange) (bs : List ℕ) → false ≡ nat_eq (length bs) 0 → first bs ≡ None → joined xs (history_of bs) ≡ None
malformed xs bs h e = rw (record_then bs h, e)

taken : (e : Event) (o : Option (List Event)) → option_map (map unanswered) (followed (Some e) o) ≡ joined (unanswered e ∷ []) (option_map (map unanswered) o)
taken e None = refl
taken e (Some es) = refl

pub next : (xs : List Exchange) (e : Event) (bs rest : List ℕ) → false ≡ nat_eq (length bs) 0 → first bs ≡ Some e → rest ≡ beyond 4 bs → joined (xs ++ unanswered e ∷ []) (history_of rest) ≡ joined xs (history_of bs)
next xs e bs rest h f r =
    joined-one xs (unanswered e) (history_of rest) ∙ ap (joined xs) (sym (rw (record_then bs h, f, sym r) (taken e (events_of rest))))
