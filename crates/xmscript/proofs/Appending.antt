-- Known bytes that grow by one text after another.
use Rattle.std.proofs.Common.{◌≡◌, ℕ, zero, suc, ◌+◌, ◌<◌, List, [], ◌∷◌, ◌++◌, take, length, get_or, Option, Some, None, sym, ap, ◌∙◌, subst, append_assoc, arith}
use Rattle.std.specs.List.{flat_map, range_with_len}
use Rattle.std.specs.Io.KnownBytes.{Appends}
use Rattle.std.proofs.lemmas.List.{take_more, flat_map_more}

pub appends-then : (u v w : Option (List ℕ)) (a b : List ℕ) → Appends u v a → Appends v w b → Appends u w (a ++ b)
appends-then None v w a b x y = tt
appends-then (Some xs) None w a b x y = absurd x
appends-then (Some xs) (Some ys) None a b x y = y
appends-then (Some xs) (Some ys) (Some zs) a b x y = y ∙ ap (λ (t : List ℕ). t ++ b) x ∙ append_assoc xs a b

flat_map-last : {X : Type 0} (f : X → List ℕ) (xs : List X) (x : X) → flat_map f (xs ++ x ∷ []) ≡ flat_map f xs ++ f x
flat_map-last f xs x = sym (flat_map_more f [] xs x)

-- the texts of the elements so far, and the next one's
pub appends-next : {X : Type 0} (f : X → List ℕ) (u v w : Option (List ℕ)) (xs : List X) (i : ℕ) (d : X) → i < length xs →
    Appends u v (flat_map f (take i xs)) → Appends v w (f (get_or xs i d)) → Appends u w (flat_map f (take (i + 1) xs))
appends-next f u v w xs i d h x y =
    rw (take_more xs i d h, flat_map-last f (take i xs) (get_or xs i d))
    (appends-then u v w (flat_map f (take i xs)) (f (get_or xs i d)) x y)

range-last : (a n : ℕ) → range_with_len a (n + 1) ≡ range_with_len a n ++ (a + n) ∷ []
range-last a zero = ap (λ (x : ℕ). x ∷ []) (omega arith)
range-last a (suc n) =
    let e : a + 1 + n ≡ a + suc n = omega arith in
    let m : suc n + 1 ≡ suc (n + 1) = omega arith in
    ap (range_with_len a) m ∙ ap (λ (xs : List ℕ). a ∷ xs) (range-last (a + 1) n ∙ ap (λ (x : ℕ). range_with_len (a + 1) n ++ x ∷ []) e)

-- the same of numbers
pub appends-number : (f : ℕ → List ℕ) (u v w : Option (List ℕ)) (i : ℕ) →
    Appends u v (flat_map f (range_with_len 0 i)) → Appends v w (f i) → Appends u w (flat_map f (range_with_len 0 (i + 1)))
appends-number f u v w i x y =
    let e : range_with_len 0 (i + 1) ≡ range_with_len 0 i ++ i ∷ [] = range-last 0 i ∙ ap (λ (n : ℕ). range_with_len 0 i ++ n ∷ []) (omega arith) in
    subst (λ (text : List ℕ). Appends u w text) (sym (ap (flat_map f) e ∙ flat_map-last f (range_with_len 0 i) i))
    (appends-then u v w (flat_map f (range_with_len 0 i)) (f i) x y)
