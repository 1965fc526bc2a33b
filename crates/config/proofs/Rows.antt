-- The rows of a table that are there.
use Rattle.std.proofs.Common.{◌≡◌, ℕ, ◌<◌, List, get_or, take, ap, ◌∙◌}
use Rattle.std.proofs.lemmas.List.{get_or-take}

module _ {A : Type 0} (n : ℕ) (rows there : List A) where
  -- a row that is there, by its number
  pub row : there ≡ take n rows → (i : ℕ) (d : A) → i < n → get_or there i d ≡ get_or rows i d
  row e i d h = ap (λ xs. get_or xs i d) e ∙ get_or-take n rows i d h
