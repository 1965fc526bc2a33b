-- Bytes that come to lie in an area, one stretch of the memory after another.
use Rattle.std.proofs.Common.{◌≡◌, ℕ, zero, suc, ◌+◌, ◌-◌, ◌<◌, ◌≤◌, false, List, [], ◌++◌, length, get_or, take, drop, set, replicate, take-add, refl, sym, ap, ◌∙◌, arith}
use lib.Seq.{paste, paste-zero, paste-suc, length-paste}
use Rattle.std.proofs.Math.Dec.{eqb}
use Rattle.std.proofs.lemmas.Bool.{eqb-false}
use Rattle.std.proofs.lemmas.List.{get_or-set_same, set-set, set-get_or, get_or-take, get_or-drop, length-take, length-drop, length-replicate, take-replicate, drop-replicate, append-nil, drop_all, take_all, drop-drop, ext_get_or}
use Rattle.std.proofs.lemmas.List.Edits.{paste_all}
use Rattle.std.proofs.lemmas.Slice.{put_mid-paste, take-put_mid}
use borrow.Rule.Slice.PartMut.{put_mid}
use Rattle.board.specs.Areas.{area, wiped, Area}
use Rattle.boards.specs.Places.{LayoutLaws}
use Rattle.boards.proofs.Storing.{there, lies_at}

-- the areas when the first d of the bytes s lie in area i from o on
abbrev pub laid : List Area → ℕ → ℕ → List ℕ → ℕ → List Area
laid ms i o s d = set ms i (paste (area ms i) o s d)

-- how far a loop has laid bytes in an area: d of n
pub record Laying (ms ns : List Area) (i o : ℕ) (s : List ℕ) (n d : ℕ) : Type 0 where
  pub within : d ≤ n
  pub areas : ns ≡ laid ms i o s d

-- how far a loop has read the bytes of an area from o on: d of n
pub record Reading (a into : List ℕ) (o n d : ℕ) : Type 0 where
  pub within : d ≤ n
  pub bytes : take d into ≡ take d (drop o a)

pub begun : (ms : List Area) (i o : ℕ) (s : List ℕ) → ms ≡ laid ms i o s 0
begun ms i o s = sym (ap (set ms i) (sym (paste-zero (area ms i) o s)) ∙ set-get_or ms i [])

module _ {n : ℕ} {view : List ℕ → List Area} {size : ℕ → ℕ} {place stretch : ℕ → ℕ → ℕ} (w : LayoutLaws n view size place stretch)
    (memory : List ℕ) (e : length memory ≡ n) (i o : ℕ) (s : List ℕ) where
  -- one byte more
  one_more : (m : List ℕ) (d p b : ℕ) → length m ≡ n → view m ≡ laid (view memory) i o s d → p ≡ place i (o + d) → b ≡ get_or s d 0 →
      d < length s → o + d < size i → view (set m p b) ≡ laid (view memory) i o s (suc d)
  one_more m d p b l q f g h k =
      let a = w.long memory e i in
      let c = w.long m l i in
      let old = paste (area (view memory) i) o s d in
      let z = lies_at w m l i (o + d) (omega arith) in
      ap (λ x. view (set m x b)) f
      ∙ z.written b
      ∙ ap (λ v. set v i (set (area v i) (o + d) b)) q
      ∙ ap (λ x. set (laid (view memory) i o s d) i (set x (o + d) b)) (get_or-set_same (view memory) i old [] (there w memory e i (o + d) k))
      ∙ set-set (view memory) i old (set old (o + d) b)
      ∙ ap (λ x. set (view memory) i (set old (o + d) x)) g
      ∙ ap (set (view memory) i) (paste-suc (area (view memory) i) o s d 0 (omega arith) h)

  -- k bytes more, all in one stretch
  stretch_more : (m bs : List ℕ) (d a k : ℕ) → length m ≡ n → view m ≡ laid (view memory) i o s d → ((j : ℕ) → j < k → get_or bs j 0 ≡ get_or s (d + j) 0) →
      k ≤ length bs → d + k ≤ length s → a ≡ o + d → a < size i → k ≤ stretch i a → view (paste m (place i a) bs k) ≡ laid (view memory) i o s (d + k)
  stretch_more m bs d a zero l q f x y z h k =
      let e : d ≡ d + 0 = omega arith in
      ap view (sym (paste-zero m (place i a) bs)) ∙ q ∙ ap (laid (view memory) i o s) e
  stretch_more m bs d a (suc j) l q f x y z h k =
      let p = place i a in
      let ends = w.ends i a h in
      let here : a + j ≡ o + (d + j) = omega arith in
      let on : suc (d + j) ≡ d + suc j = omega arith in
      let row = w.straight i a j h (omega arith) in
      let low = w.within i (a + j) (omega arith) in
      let r = stretch_more m bs d a j l q (λ x b. f x (omega arith)) (omega arith) (omega arith) z h (omega arith) in
      ap view (sym (paste-suc m p bs j 0 (omega arith) (omega arith)))
      ∙ one_more (paste m p bs j) (d + j) (p + j) (get_or bs j 0) (length-paste m p bs j (omega arith) (omega arith) ∙ l) r (sym row ∙ ap (place i) here) (f j (omega arith)) (omega arith) (omega arith)
      ∙ ap (laid (view memory) i o s) on

  -- the memory with a stretch replaced, as a slice of it leaves it
  pub put_more : (m bs : List ℕ) (d a p k r : ℕ) → length m ≡ n → view m ≡ laid (view memory) i o s d → bs ≡ take k (drop d s) → d + k ≤ length s → a ≡ o + d → a < size i →
      p ≡ place i a → k ≤ stretch i a → r ≡ k → view (put_mid p r m bs) ≡ laid (view memory) i o s (d + k)
  put_more m bs d a p k r l q b y z h f g e =
      let t : length bs ≡ k = ap length b ∙ simp (length-take, length-drop) (omega arith) in
      ap view (put_mid-paste p r m bs bs k refl (sym e) (sym t))
      ∙ ap (λ x. view (paste m x bs k)) f
      ∙ stretch_more m bs d a k l q (λ j u. ap (λ x. get_or x j 0) b ∙ get_or-take k (drop d s) j 0 u ∙ get_or-drop d s j 0) (omega arith) y z h g

-- a stretch lies within the memory
pub room : {n : ℕ} {view : List ℕ → List Area} {size : ℕ → ℕ} {place stretch : ℕ → ℕ → ℕ} (w : LayoutLaws n view size place stretch) (i at : ℕ) →
    at < size i → place i at + stretch i at ≤ n
room {n} {view} {size} {place} {stretch} w i at h =
    let some = w.some i at h in
    let ends = w.ends i at h in
    let last = w.straight i at (stretch i at - 1) h (omega arith) in
    let within = w.within i (at + (stretch i at - 1)) (omega arith) in
    omega arith

-- a range that is not empty begins at a byte of the area
pub begins : (at k size : ℕ) → at + k ≤ size → false ≡ eqb k 0 → at < size
begins at k size h e =
    let some : k ≡ 0 → ⊥ = eqb-false k 0 (sym e) in
    omega arith

abbrev pub zeros : ℕ → List ℕ
zeros n = replicate n 0

-- zeros from the midst of zeros
pub zeros_of : (n d k : ℕ) → d + k ≤ n → zeros k ≡ take k (drop d (zeros n))
zeros_of n d k h = sym (ap (take k) (drop-replicate d n 0) ∙ take-replicate k (n - d) 0 (omega arith))

-- an area that zeros have been laid over from end to end is wiped
pub all_zeros : (ms ns : List Area) (i n d : ℕ) → ns ≡ laid ms i 0 (zeros n) d → d ≡ n → n ≡ length (area ms i) → ns ≡ wiped ms i
all_zeros ms ns i n d r q e =
    let l : length (zeros n) ≡ n = length-replicate {A = ℕ} n 0 in
    r
    ∙ ap (laid ms i 0 (zeros n)) q
    ∙ ap (set ms i)
    (ap (λ x. x ++ drop (0 + n) (area ms i)) (take_all n (zeros n) (omega arith))
    ∙ ap (λ x. zeros n ++ x) (drop_all (0 + n) (area ms i) (omega arith))
    ∙ append-nil (zeros n)
    ∙ ap zeros e)

-- an area that all of the bytes have been laid in
pub all_laid : (ms ns : List Area) (i o d : ℕ) (s : List ℕ) → ns ≡ laid ms i o s d → d ≡ length s →
    ns ≡ set ms i (take o (area ms i) ++ (s ++ drop (o + length s) (area ms i)))
all_laid ms ns i o d s r q = r ∙ ap (laid ms i o s) q ∙ ap (set ms i) (paste_all (area ms i) o s (length s) refl)

-- a stretch holds the bytes of its area
pub stretch_is : {n : ℕ} {view : List ℕ → List Area} {size : ℕ → ℕ} {place stretch : ℕ → ℕ → ℕ} (w : LayoutLaws n view size place stretch)
    (memory : List ℕ) → length memory ≡ n → (i a k : ℕ) → a < size i → k ≤ stretch i a → take k (drop (place i a) memory) ≡ take k (drop a (area (view memory) i))
stretch_is {n} {view} {size} {place} {stretch} w memory e i a k h q =
    let long = w.long memory e i in
    let ends = w.ends i a h in
    let fits = room w i a h in
    let here : length (take k (drop (place i a) memory)) ≡ k = simp (length-take, length-drop) (omega arith) in
    let there : length (take k (drop a (area (view memory) i))) ≡ k = simp (length-take, length-drop) (omega arith) in
    ext_get_or 0 (take k (drop (place i a) memory)) (take k (drop a (area (view memory) i))) (here ∙ sym there)
    (λ j u.
    let b : j < k = omega arith in
    get_or-take k (drop (place i a) memory) j 0 b
    ∙ get_or-drop (place i a) memory j 0
    ∙ ap (λ x. get_or memory x 0) (sym (w.straight i a j h (omega arith)))
    ∙ sym (w.byte memory i (a + j) (omega arith))
    ∙ sym (get_or-drop a (area (view memory) i) j 0)
    ∙ sym (get_or-take k (drop a (area (view memory) i)) j 0 b))

-- a buffer that has the first d bytes from o on, with the next k put behind them
pub read_more : (a into bs : List ℕ) (o d k r x : ℕ) → take d into ≡ take d (drop o a) → bs ≡ take k (drop x a) → length bs ≡ k → x ≡ o + d → d ≤ length into →
    take (d + k) (put_mid d r into bs) ≡ take (d + k) (drop o a)
read_more a into bs o d k r x e f l q h =
    take-put_mid d r into bs (d + k) (omega arith) h
    ∙ ap (λ y. y ++ bs) e
    ∙ ap (λ y. take d (drop o a) ++ y) (f ∙ ap (λ y. take k (drop y a)) q ∙ ap (take k) (sym (drop-drop d o a)))
    ∙ sym (take-add d k (drop o a))
