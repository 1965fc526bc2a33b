-- Bytes that are put among others.
use Rattle.std.proofs.Common.{◌≡◌, ℕ, ◌+◌, ◌≤◌, List, ◌++◌, length, take, drop, sym, refl, ap, ◌∙◌, ap₂, arith}
use borrow.Rule.Slice.PartMut.{put_mid}
use Rattle.std.proofs.lemmas.List.{append_assoc, length-append, drop-drop}
use Rattle.std.proofs.lemmas.Slice.{take-put_mid, drop-put_mid}
use Rattle.entrance.specs.Encoding.{laid, put}

-- what a write to a part of a slice leaves
pub put-part : (at n : ℕ) (old new b : List ℕ) → n ≡ length b → new ≡ b → put_mid at n old new ≡ put at b old
put-part at n old new b e f = ap₂ (λ (n : ℕ) (b : List ℕ). take at old ++ (b ++ drop n (drop at old))) e f

drop_on : (at : ℕ) (b f old : List ℕ) → drop (length f) (drop (at + length b) old) ≡ drop (length (b ++ f)) (drop at old)
drop_on at b f old =
    let n : at + length b + length f ≡ at + length (b ++ f) = omega (arith, length-append b f) in
    drop-drop (length f) (at + length b) old ∙ ap (λ (n : ℕ). drop n old) n ∙ sym (drop-drop (length (b ++ f)) at old)

-- what is laid after it is laid together with it
pub put_on : (at : ℕ) (b f old : List ℕ) → at + length b ≤ length old →
    take (at + length b) (put at b old) ++ laid f (drop (at + length b) (put at b old)) ≡ take at old ++ laid (b ++ f) (drop at old)
put_on at b f old h =
    let m : at ≤ length old = omega arith in
    ap₂ (λ (x y : List ℕ). x ++ laid f y)
    (take-put_mid at (length b) old b (at + length b) refl m)
    (drop-put_mid at (length b) old b (at + length b) (omega arith) m refl)
    ∙ (append_assoc (take at old) b (laid f (drop (at + length b) old))
    ∙ ap (λ (x : List ℕ). take at old ++ x)
    (sym (append_assoc b f (drop (length f) (drop (at + length b) old))) ∙ ap (λ (x : List ℕ). (b ++ f) ++ x) (drop_on at b f old)))
