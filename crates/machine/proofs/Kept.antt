-- A log of at most 32 entries, in the order of their times and none from the future.
use Rattle.std.proofs.Common.{◌≡◌, ℕ, ◌<◌, ◌≤◌, eqb, List, [], ◌∷◌, ◌++◌, length, arith, length-append}
use Rattle.std.proofs.lemmas.Bool.{eqb-true, eqb-false, cond_both}
use Rattle.queue.specs.Ring.{rest, over}
use Rattle.machine.specs.declared.log.Entry.{Entry}
use Rattle.machine.specs.Laws.{Since, Until, InOrder}

-- a log as it stands at the time t
pub record Kept (t : ℕ) (es : List Entry) : Type 0 where
  pub few : length es ≤ 32
  pub order : InOrder es
  pub past : Until t es

-- one entry more at the end, from the time t
since_push : (s : ℕ) (es : List Entry) (e : Entry) → s ≤ e.time → Since s es → Since s (es ++ e ∷ [])
since_push s [] e h r = (h, tt)
since_push s (f ∷ fs) e h r = (r.0, since_push s fs e h r.1)

order-push : (t : ℕ) (es : List Entry) (e : Entry) → e.time ≡ t → Until t es → InOrder es → InOrder (es ++ e ∷ [])
order-push t [] e h u r = (tt, tt)
order-push t (f ∷ fs) e h u r = (since_push f.time fs e (omega (arith, u.0, h)) r.0, order-push t fs e h u.1 r.1)

until_push : (t : ℕ) (es : List Entry) (e : Entry) → e.time ≤ t → Until t es → Until t (es ++ e ∷ [])
until_push t [] e h u = (h, tt)
until_push t (f ∷ fs) e h u = (u.0, until_push t fs e h u.1)

until_later : (t s : ℕ) (es : List Entry) → t ≤ s → Until t es → Until s es
until_later t s [] h u = tt
until_later t s (e ∷ es) h u = (omega (arith, u.0), until_later t s es h u.1)

pub rest-kept : {t : ℕ} (es : List Entry) → Kept t es → Kept t (rest es)
rest-kept [] r = r
rest-kept (e ∷ es) r = record { few = let l = r.few in omega arith; order = r.order.1; past = r.past.1 }

pub none_kept : {t : ℕ} → Kept t []
none_kept = record { few = omega arith; order = tt; past = tt }

pub later-kept : {t : ℕ} (s : ℕ) {es : List Entry} → t ≤ s → Kept t es → Kept s es
later-kept {t} s {es} h r = record { few = r.few; order = r.order; past = until_later t s es h r.past }

push_kept : (t : ℕ) (es : List Entry) (e : Entry) → e.time ≡ t → length es < 32 → Kept t es → Kept t (es ++ e ∷ [])
push_kept t es e h l r =
    record {
      few = omega (arith, length-append es (e ∷ []));
      order = order-push t es e h r.past r.order;
      past = until_push t es e (omega (arith, h)) r.past;
    }

rest-shorter : (es : List Entry) → length es ≡ 32 → length (rest es) < 32
rest-shorter [] j = absurd (omega arith)
rest-shorter (e ∷ es) j = omega arith

-- the log stays within 32
pub over-kept : (t : ℕ) (es : List Entry) (e : Entry) → e.time ≡ t → Kept t es → Kept t (over 32 es e)
over-kept t es e h r =
    cond_both (eqb (length es) 32) _ _ (Kept t)
    (λ i. push_kept t (rest es) e h (rest-shorter es (eqb-true _ _ i)) (rest-kept es r))
    (λ i. push_kept t es e h (let n = eqb-false _ _ i in let l = r.few in omega arith) r)
