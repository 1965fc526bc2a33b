-- A ring of cells, seen as the list of its entries.
use Rattle.std.proofs.Common.{◌≡◌, ◌∙◌, Some, ℕ, ◌+◌, ◌-◌, ◌<◌, ◌≤◌, List, [], ◌∷◌, ◌++◌, length, get_or, set, sym, ap, ap₂, arith}
use Rattle.std.proofs.lemmas.List.{places, same_lists, length-set, get_or-set_other}
use Rattle.std.proofs.lemmas.Grind.{get_or-set_at}
use Rattle.queue.specs.Ring.{entries, first, rest, next, spot}

module _ {X : Type 0} where
  pub counted : (h n : ℕ) (cells : List X) → n ≤ length cells → length (entries h n cells) ≡ n
  unfolding entries
  counted h n cells l = grind (arith, places)

  -- an entry more
  pub put_at : (h n : ℕ) (cells : List X) (x : X) → h < length cells → n < length cells →
      entries h (n + 1) (set cells (spot h n (length cells)) x) ≡ entries h n cells ++ x ∷ []
  unfolding entries
  put_at h n cells x l m = same_lists _ _ (grind (arith, places, length-set)) (λ k e q. grind (arith, places, length-set, get_or-set_at, get_or-set_other))

  -- the oldest entry and the others
  took_one : (h n : ℕ) (cells : List X) (d : X) → h < length cells → 0 < n → n ≤ length cells →
      entries h n cells ≡ get_or cells h d ∷ entries (next h (length cells)) (n - 1) cells
  unfolding entries
  took_one h n cells d l m r = same_lists _ _ (grind (arith, places)) (λ k e q. grind (arith, places))

  -- so what stands in the cell of the head is the oldest
  pub oldest_is : (h n : ℕ) (cells : List X) (x : X) → h < length cells → 0 < n → n ≤ length cells → x ≡ get_or cells h x → Some x ≡ first (entries h n cells)
  oldest_is h n cells x l m r e = ap Some e ∙ sym (ap first (took_one h n cells x l m r))

  -- and what follows it are the others
  pub others_are : (h n : ℕ) (cells : List X) → h < length cells → 0 < n → n ≤ length cells →
      entries (next h (length cells)) (n - 1) cells ≡ rest (entries h n cells)
  others_are h n [] l m r = absurd (omega arith)
  others_are h n (x ∷ cells) l m r = sym (ap rest (took_one h n (x ∷ cells) x l m r))

  -- where all cells are taken, another entry in the oldest one's cell comes after the others
  pub over_oldest : (h n : ℕ) (cells : List X) (x : X) → h < length cells → n ≡ length cells →
      entries (next h (length cells)) n (set cells h x) ≡ rest (entries h n cells) ++ x ∷ []
  over_oldest h n cells x l e =
      let z = length cells in
      let s : spot (next h z) (n - 1) z ≡ h = grind arith in
      let b : next h z < z = grind arith in
      ap₂ (λ i m. entries (next h z) m (set cells i x)) (sym s) (omega (arith, e, l))
      ∙ put_at (next h z) (n - 1) cells x b (omega arith)
      ∙ ap (λ es. es ++ x ∷ []) (others_are h n cells l (omega arith) (omega arith))
