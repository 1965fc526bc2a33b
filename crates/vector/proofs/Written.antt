-- What the reader shows of a record gives back its bytes.
use Rattle.std.proofs.Common.{◌≡◌, ℕ, zero, suc, List, [], ◌∷◌, ◌++◌, length, ◌∙◌, subst, ap₂, arith}
use Rattle.vector.specs.Out.{fine}
use Rattle.vector.specs.Encoding.{Bytes, two, bytes_of}
use Rattle.vector.specs.Frames.{Framed, framed}
use Rattle.vector.specs.Bodies.{Said}
use Rattle.vector.specs.Laws.{RecordsWritten}
use Rattle.vector.specs.Points.{Step}
use Rattle.vector.specs.Reading.{heard}
use Rattle.vector.specs.Turns.{kind_number}
use Rattle.vector.specs.declared.kind.Kind.{Kind}
use Rattle.vector.specs.declared.sofar.Sofar.{Sofar}
use Rattle.vector.proofs.Cuts.{cut_off}
use Rattle.vector.proofs.Heard.{was_told, body-written}
use Rattle.vector.proofs.Scans.{stepped}

pub bytes_left : (xs ys : List ℕ) → Bytes (xs ++ ys) → Bytes xs
bytes_left [] ys y i = omega arith
bytes_left (x ∷ xs) ys y zero = y 0
bytes_left (x ∷ xs) ys y (suc i) = bytes_left xs ys (λ j. y (suc j)) i

-- the front of the bytes is the record, and the rest is left
pub front-written : (at : ℕ) (s : Sofar) (bs : List ℕ) (f : Framed) (x : Said) → framed at bs ≡ fine f → heard at s f.kind f.body ≡ fine x → Bytes bs → bs ≡ bytes_of x ++ f.rest
front-written at s bs f x c h y =
    let o = cut_off at bs f c in
    let e = o.bytes y in
    let z = subst Bytes e y in
    let b = body-written at s f.kind f.body x o.suited h (bytes_left f.body f.rest (λ i. z (suc (suc (suc (suc i)))))) in
    let k = (was_told at s f.kind f.body x o.suited h).1.0 in
    e ∙ ap₂ (λ (b : List ℕ) (k : Kind). two (length b) ++ (two (kind_number k) ++ (b ++ f.rest))) b k

pub records_written : RecordsWritten
records_written p x y e =
    let w = stepped p x e in
    subst (λ (x : Step). p.rest ≡ bytes_of x.shown.said ++ x.point.rest) w.is (front-written p.at p.sofar p.rest w.front w.said w.cut w.hears y)
