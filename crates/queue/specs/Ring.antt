-- A queue is the list of its entries, the oldest first; in memory they lie in a ring of cells.
use Rattle.std.specs.Prelude.{ℕ, ◌+◌, ◌-◌, cond, List, [], ◌∷◌, ◌++◌, length, take, drop, Some, None, Option, ◌==◌, nat_lt}

-- the entries in the cells: n of them from the cell h on, round the end
unfoldable pub entries : {X : Type 0} → ℕ → ℕ → List X → List X
entries h n cells = take n (drop h cells ++ take h cells)

abbrev pub first : {X : Type 0} → List X → Option X
first [] = None
first (x ∷ xs) = Some x

abbrev pub rest : {X : Type 0} → List X → List X
rest [] = []
rest (x ∷ xs) = xs

-- one entry more where there is room for n
abbrev pub pushed : {X : Type 0} → ℕ → List X → X → List X
pushed n xs x = cond (nat_lt (length xs) n) (xs ++ x ∷ []) xs

-- one entry more, where the oldest of n gives way
abbrev pub over : {X : Type 0} → ℕ → List X → X → List X
over n xs x = cond (length xs == n) (rest xs ++ x ∷ []) (xs ++ x ∷ [])

-- the cell after i of n, round the end
abbrev pub next : ℕ → ℕ → ℕ
next i n = cond (i + 1 == n) 0 (i + 1)

-- the cell n on from h, round the end z
abbrev pub spot : ℕ → ℕ → ℕ → ℕ
spot h n z = cond (nat_lt n (z - h)) (h + n) (n - (z - h))
