-- Areas that lie in one memory, no two bytes at one place: what a load and a store at a place are to the areas.
use Rattle.std.proofs.Common.{◌≡◌, ℕ, ◌<◌, ◌≤◌, List, [], length, get_or, set, sym, ap, ◌∙◌, ⊎_elim, arith, length-set}
use Rattle.std.proofs.lemmas.List.{ext_get_or, get_or-set_same, get_or-set_other, get_or_past}
use Rattle.std.proofs.lemmas.Bool.{cases_eq, lt-ltb}
use Rattle.board.specs.Areas.{area, Area}
use Rattle.boards.specs.Places.{LayoutLaws, LiesAt}

module _ {n : ℕ} {view : List ℕ → List Area} {size : ℕ → ℕ} {place stretch : ℕ → ℕ → ℕ} (w : LayoutLaws n view size place stretch)
    (memory : List ℕ) (e : length memory ≡ n) (i at : ℕ) where
  -- an area that has a byte is there
  pub there : at < size i → i < length (view memory)
  there l =
      let past : length (view memory) ≤ i → length (area (view memory) i) ≡ 0 = λ k. ap length (get_or_past (view memory) i [] k) in
      let s = w.long memory e i in
      grind arith

  long_after : (b k : ℕ) → length (area (view (set memory (place i at) b)) k) ≡ size k
  long_after b k = w.long (set memory (place i at) b) (length-set memory (place i at) b ∙ e) k

  byte_here : (b a : ℕ) → at < size i → a < size i →
      get_or (set memory (place i at) b) (place i a) 0 ≡ get_or (set (area (view memory) i) at b) a 0
  byte_here b a l q =
      let s = w.long memory e i in
      let p = w.within i at l in
      ⊎_elim
      (λ (z : a ≡ at).
      ap (λ (x : ℕ). get_or (set memory (place i at) b) (place i x) 0) z
      ∙ get_or-set_same memory (place i at) b 0 (omega arith)
      ∙ sym (get_or-set_same (area (view memory) i) at b 0 (omega arith))
      ∙ ap (λ (x : ℕ). get_or (set (area (view memory) i) at b) x 0) (sym z))
      (λ (z : a ≡ at → ⊥).
      get_or-set_other memory (place i at) (place i a) b 0 (λ y. z (w.apart i i a at q l y).1)
      ∙ sym (w.byte memory i a q)
      ∙ sym (get_or-set_other (area (view memory) i) at a b 0 z))
      (cases_eq a at)

  -- the area that was written
  area_here : (b : ℕ) → at < size i → area (view (set memory (place i at) b)) i ≡ set (area (view memory) i) at b
  area_here b l =
      let s = long_after b i in
      ext_get_or 0 (area (view (set memory (place i at) b)) i) (set (area (view memory) i) at b)
      (s ∙ sym (length-set (area (view memory) i) at b ∙ w.long memory e i))
      (λ a q. let r : a < size i = omega arith in w.byte (set memory (place i at) b) i a r ∙ byte_here b a l r)

  -- another area
  area-there : (b k : ℕ) → at < size i → (k ≡ i → ⊥) → area (view (set memory (place i at) b)) k ≡ area (view memory) k
  area-there b k l z =
      let s = long_after b k in
      ext_get_or 0 (area (view (set memory (place i at) b)) k) (area (view memory) k)
      (s ∙ sym (w.long memory e k))
      (λ a q.
      let r : a < size k = omega arith in
      w.byte (set memory (place i at) b) k a r
      ∙ get_or-set_other memory (place i at) (place k a) b 0 (λ y. z (w.apart k i a at r l y).0)
      ∙ sym (w.byte memory k a r))

  -- a write at the place of a byte replaces that byte of that area, and nothing else
  written : (b : ℕ) → at < size i → view (set memory (place i at) b) ≡ set (view memory) i (set (area (view memory) i) at b)
  written b l =
      ext_get_or [] (view (set memory (place i at) b)) (set (view memory) i (set (area (view memory) i) at b))
      (w.eight (set memory (place i at) b) ∙ sym (length-set (view memory) i (set (area (view memory) i) at b) ∙ w.eight memory))
      (λ k _.
      ⊎_elim
      (λ (z : k ≡ i).
      ap (area (view (set memory (place i at) b))) z
      ∙ area_here b l
      ∙ sym (get_or-set_same (view memory) i (set (area (view memory) i) at b) [] (there l))
      ∙ ap (area (set (view memory) i (set (area (view memory) i) at b))) (sym z))
      (λ (z : k ≡ i → ⊥).
      area-there b k l z ∙ sym (get_or-set_other (view memory) i k (set (area (view memory) i) at b) [] z))
      (cases_eq k i))

  -- so a byte of an area lies at its place
  pub lies_at : at < length (area (view memory) i) → LiesAt view memory i at (place i at)
  lies_at h =
      let s = w.long memory e i in
      let l : at < size i = omega arith in
      let p = w.within i at l in
      record {
        within = omega arith;
        there = lt-ltb at (length (area (view memory) i)) h;
        byte = sym (w.byte memory i at l);
        written = λ b. written b l;
      }
