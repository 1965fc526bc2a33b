-- A message sent into a channel.
use Rattle.std.proofs.Common.{◌≡◌, refl, ◌∙◌, ℕ, zero, suc, ◌+◌, ◌<◌, List, [], ◌∷◌, ◌++◌, map, length, get_or, set, take, replicate, sym, ap, arith}
use Rattle.std.proofs.lemmas.List.{length-map, map_push, map-set, get_or-map, take_all, take_more_set, replicate-append-replicate}
use Rattle.std.proofs.lemmas.Bool.{cond-true, lt-ltb}
use Rattle.queue.specs.Ring.{pushed}
use Rattle.machine.specs.declared.message.Message.{Message}
use Rattle.machine.specs.Letters.{Letter, letter_of}
use Rattle.kernel.specs.Channels.{chan_of}

-- where there is room, a push is one letter more
sent : (q : List Message) (m : Message) → length (map letter_of q) < 8 → map letter_of (pushed 8 q m) ≡ map letter_of q ++ (letter_of m ∷ [])
sent q m l = ap (map letter_of) (cond-true _ _ _ (lt-ltb (length q) 8 (omega (arith, length-map q letter_of)))) ∙ map_push letter_of q m

pub appended : (qs : List (List Message)) (i : ℕ) (q p : List Message) (m : Message) → i < length qs → q ≡ get_or qs i q → p ≡ pushed 8 q m →
    length (chan_of (map (map letter_of) qs) i) < 8 →
    map (map letter_of) (set qs i p) ≡ set (map (map letter_of) qs) i (chan_of (map (map letter_of) qs) i ++ (letter_of m ∷ []))
appended qs i q p m b e f l =
    let g : chan_of (map (map letter_of) qs) i ≡ map letter_of q = get_or-map (map letter_of) qs i q [] b ∙ ap (map letter_of) (sym e) in
    let h = sent q m (omega (arith, ap length g, l)) in
    map-set (map letter_of) qs i p ∙ cc

-- a message appended to a channel that was just emptied is its only one
pub only_one : (cs : List (List Letter)) (c : ℕ) (m : Letter) → set (set cs c []) c (chan_of (set cs c []) c ++ (m ∷ [])) ≡ set cs c (m ∷ [])
only_one [] c m = refl
only_one (q ∷ qs) zero m = refl
only_one (q ∷ qs) (suc c) m = ap (λ l. q ∷ l) (only_one qs c m)

-- one list more is emptied
pub emptied-more : {X : Type 0} (qs : List (List X)) (n : ℕ) → n < length qs → take n qs ≡ replicate n [] → take (n + 1) (set qs n []) ≡ replicate (n + 1) []
emptied-more qs n b e = take_more_set qs n [] b ∙ ap (λ l. l ++ ([] ∷ [])) e ∙ replicate-append-replicate n 1 []

-- all of them are
pub emptied : (qs : List (List Message)) → length qs ≡ 8 → take 8 qs ≡ replicate 8 [] → map (map letter_of) qs ≡ replicate 8 []
emptied qs n e = ap (map (map letter_of)) (sym (take_all 8 qs (omega (arith, n))) ∙ e)
