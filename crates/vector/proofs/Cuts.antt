-- The cut of a record.
use Rattle.std.proofs.Common.{◌≡◌, ℕ, ◌+◌, ◌≤◌, true, cond, ltb, List, ◌∷◌, ◌++◌, length, get_or, take, drop, sym, refl, ap, ◌∙◌, subst, ap₂, arith, length-drop, take-append-drop, length-take-le, drop-drop}
use Rattle.std.proofs.lemmas.Bool.{le-ltb, ltb-false}
use Rattle.vector.specs.Reasons.{past_end, wrong_length}
use Rattle.vector.specs.Encoding.{Bytes, two}
use Rattle.vector.specs.Out.{fine, bad, then}
use Rattle.frame.specs.Frames.{word16}
use Rattle.vector.specs.Frames.{suits, kind_of, cut_at, Framed, framed}
use Rattle.vector.specs.Turns.{kind_number}
use Rattle.vector.specs.declared.kind.Kind.{Kind}
use Rattle.vector.proofs.Numbers.{kind-number, two_of, open_4}
use Rattle.vector.proofs.Outs.{then-fine, cond-fine, cond-bad}

pub framed-fine : (at : ℕ) (bs : List ℕ) (k : Kind) → 4 ≤ length bs → 4 + word16 bs 0 ≤ length bs → fine k ≡ kind_of at (word16 bs 2) → true ≡ suits k (word16 bs 0) → framed at bs ≡ fine (record { kind = k; body = take (word16 bs 0) (drop 4 bs); rest = drop (4 + word16 bs 0) bs })
framed-fine at bs k h j is s =
    let a = le-ltb (length bs) 4 h in
    let b = le-ltb (length bs) (4 + word16 bs 0) j in
    simp (a, b, sym is, sym s)

-- what is known of a record that was cut off
pub record CutOff (bs : List ℕ) (f : Framed) : Type 0 where
  pub rest : f.rest ≡ drop (4 + length f.body) bs
  pub size : 4 + length f.body + length f.rest ≡ length bs
  pub suited : suits f.kind (length f.body) ≡ true
  pub bytes : Bytes bs → bs ≡ two (length f.body) ++ (two (kind_number f.kind) ++ (f.body ++ f.rest))

-- the bytes of a record with a body of n bytes
head : (bs : List ℕ) (n k : ℕ) → 4 + n ≤ length bs → word16 bs 0 ≡ n → word16 bs 2 ≡ k → Bytes bs → bs ≡ two n ++ (two k ++ (take n (drop 4 bs) ++ drop (4 + n) bs))
head bs n k h e f y =
    let l = sym (two_of (get_or bs 0 0) (get_or bs 1 0) (y 0)) ∙ ap two e in
    let m = sym (two_of (get_or bs 2 0) (get_or bs 3 0) (y 2)) ∙ ap two f in
    let d : drop 4 bs ≡ take n (drop 4 bs) ++ drop (4 + n) bs = sym (take-append-drop n (drop 4 bs)) ∙ ap (λ r. take n (drop 4 bs) ++ r) (drop-drop n 4 bs) in
    open_4 bs (omega arith) ∙ (ap (λ r. get_or bs 0 0 ∷ get_or bs 1 0 ∷ get_or bs 2 0 ∷ get_or bs 3 0 ∷ r) d ∙ ap₂ (λ x z. x ++ (z ++ (take n (drop 4 bs) ++ drop (4 + n) bs))) l m)

pub cut_off : (at : ℕ) (bs : List ℕ) (f : Framed) → framed at bs ≡ fine f → CutOff bs f
cut_off at bs f e =
    let n = word16 bs 0 in
    let a = cond-bad (ltb (length bs) 4) (cond (ltb (length bs) (4 + n)) (bad (past_end at)) (then (kind_of at (word16 bs 2)) (cut_at at n bs))) (past_end at) f e in
    let b = cond-bad (ltb (length bs) (4 + n)) (then (kind_of at (word16 bs 2)) (cut_at at n bs)) (past_end at) f a.1 in
    let k = then-fine (kind_of at (word16 bs 2)) (cut_at at n bs) f b.1 in
    let g : Framed = record { kind = k.0; body = take n (drop 4 bs); rest = drop (4 + n) bs } in
    let c = cond-fine (suits k.0 n) (fine g) (wrong_length at) f k.2 in
    let q : g ≡ f = cc in
    let long : 4 + n ≤ length bs = ltb-false (length bs) (4 + n) b.0 in
    let l : length (take n (drop 4 bs)) ≡ n = length-take-le n (drop 4 bs) (omega (arith, length-drop 4 bs)) in
    let z : 4 + length (take n (drop 4 bs)) + length (drop (4 + n) bs) ≡ length bs = omega (arith, length-drop (4 + n) bs) in
    subst (CutOff bs) q (record { rest = ap (λ m. drop (4 + m) bs) (sym l); size = z; suited = ap (suits k.0) l ∙ c.0; bytes = λ y. head bs n (kind_number k.0) long refl (kind-number at (word16 bs 2) k.0 k.1) y ∙ ap (λ m. two m ++ (two (kind_number k.0) ++ (take n (drop 4 bs) ++ drop (4 + n) bs))) (sym l) })
