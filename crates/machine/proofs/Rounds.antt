-- Eight rounds give the circle.
use Rattle.std.proofs.Common.{◌≡◌, ℕ, zero, suc, ◌+◌, ◌^◌, ◌<◌, ◌≤◌, Bool, true, false, cond, not, ◌&&◌, eqb, ltb, ◌⊎◌, sym, refl, ap, ◌∙◌, inl, inr, arith}
use lib.Bits.{bit_and}
use Rattle.std.proofs.lemmas.Bool.{both_ways, and_parts, and_from, not-true, not_from_false, ltb-true, lt-ltb, cases_lt}
use Rattle.tables.specs.declared.Tables.{Tables}
use Rattle.machine.specs.Partitions.{bit}
use Rattle.machine.specs.Questions.{exists, is_system, link}
use Rattle.machine.specs.Circle.{port_owner, is_queuing, feeds, Closed, joined, turns, with_system, with_writer, with_reader, with_pair, with_port, with_raiser, with_links, with_round, Fine, Circled}
use Rattle.machine.proofs.Bits.{or_stays, or_sets, or_bit, pow_own, pow_bit, common, in_common}

-- all of m is in N
abbrev Inside : ℕ → (ℕ → Bool) → Type 0
Inside m N = (q : ℕ) → bit m q ≡ true → N q ≡ true

joined_keeps : (b : Bool) (q m : ℕ) → Inside m (bit (joined b q m))
joined_keeps true q m i e = or_stays m (2 ^ q) i e
joined_keeps false q m i e = e

joined_in : (b : Bool) (q m : ℕ) → b ≡ true → bit (joined b q m) q ≡ true
joined_in true q m h = or_sets m q
joined_in false q m h = absurd (both_ways false refl h)

joined-within : (N : ℕ → Bool) (b : Bool) (q m : ℕ) → Inside m N → (b ≡ true → N q ≡ true) → Inside (joined b q m) N
joined-within N true q m h f i e = elim (or_bit m q i e) [ inl g ↦ h i g | inr g ↦ ap N g ∙ f refl ]
joined-within N false q m h f i e = h i e

-- a turn only adds
abbrev Grows : (ℕ → ℕ → ℕ) → Type 0
Grows f = (i m : ℕ) → Inside m (bit (f i m))

turns_keep : (f : ℕ → ℕ → ℕ) → Grows f → (n m : ℕ) → Inside m (bit (turns f n m))
unfolding turns
turns_keep f g zero m q e = e
turns_keep f g (suc n) m q e = g n (turns f n m) q (turns_keep f g n m q e)

-- what the turn i adds to every mask that has m in it, the loop adds
turns_in : (f : ℕ → ℕ → ℕ) → Grows f → (n m i q : ℕ) → i < n → ((w : ℕ) → Inside m (bit w) → bit (f i w) q ≡ true) →
    bit (turns f n m) q ≡ true
unfolding turns
turns_in f g zero m i q b h = absurd (omega arith)
turns_in f g (suc n) m i q b h =
    elim (cases_lt i n) [
      | inl l ↦ g n (turns f n m) q (turns_in f g n m i q l h)
      | inr l ↦ let e : i ≡ n = omega arith in ap (λ j. bit (f j (turns f n m)) q) (sym e) ∙ h (turns f n m) (turns_keep f g n m)
    ]

turns-within : (N : ℕ → Bool) (f : ℕ → ℕ → ℕ) (n m : ℕ) → ((i w : ℕ) → i < n → Inside w N → Inside (f i w) N) → Inside m N → Inside (turns f n m) N
unfolding turns
turns-within N f zero m h s = s
turns-within N f (suc n) m h s = h n (turns f n m) (omega arith) (turns-within N f n m (λ i w b. h i w (omega arith)) s)

module _ (k : Tables) where
  writer_grows : (i : ℕ) → Grows (with_writer k i)
  writer_grows i j m = joined_keeps (feeds k i j && bit m (port_owner k j)) (port_owner k i) m

  reader_grows : (i : ℕ) → Grows (with_reader k i)
  reader_grows i j m = joined_keeps (feeds k i j && (is_queuing k i && bit m (port_owner k i))) (port_owner k j) m

  pair_grows : (i : ℕ) → Grows (with_pair k i)
  pair_grows i j m q e = reader_grows i j (with_writer k i j m) q (writer_grows i j m q e)

  port_grows : Grows (with_port k)
  port_grows i m = turns_keep (with_pair k i) (pair_grows i) k.ports.count m

  raiser_grows : (q : ℕ) → Grows (with_raiser k q)
  raiser_grows q n m = joined_keeps (not (eqb (bit_and (link k q n) m) 0)) q m

  links_grows : Grows (with_links k)
  links_grows q m = turns_keep (with_raiser k q) (raiser_grows q) 8 m

  round_grows : Grows (with_round k)
  round_grows r m q e =
      turns_keep (with_links k) links_grows k.partitions.count (turns (with_port k) k.ports.count m) q
      (turns_keep (with_port k) port_grows k.ports.count m q e)

  -- a round adds whom the rules ask for
  module _ (r m : ℕ) where
    by-pair : (i j q : ℕ) → i < k.ports.count → j < k.ports.count → ((w : ℕ) → Inside m (bit w) → bit (with_pair k i j w) q ≡ true) →
        bit (with_round k r m) q ≡ true
    by-pair i j q b c h =
        turns_keep (with_links k) links_grows k.partitions.count (turns (with_port k) k.ports.count m) q
        (turns_in (with_port k) port_grows k.ports.count m i q b
        (λ w s. turns_in (with_pair k i) (pair_grows i) k.ports.count w j q c (λ v t. h v (λ p e. t p (s p e)))))

    adds_writer : (i j : ℕ) → i < k.ports.count → j < k.ports.count → feeds k i j ≡ true → bit m (port_owner k j) ≡ true →
        bit (with_round k r m) (port_owner k i) ≡ true
    adds_writer i j b c f e =
        by-pair i j (port_owner k i) b c
        (λ w s. reader_grows i j (with_writer k i j w) (port_owner k i)
        (joined_in (feeds k i j && bit w (port_owner k j)) (port_owner k i) w (and_from (feeds k i j) _ f (s (port_owner k j) e))))

    adds_reader : (i j : ℕ) → i < k.ports.count → j < k.ports.count → feeds k i j ≡ true → is_queuing k i ≡ true →
        bit m (port_owner k i) ≡ true → bit (with_round k r m) (port_owner k j) ≡ true
    adds_reader i j b c f h e =
        by-pair i j (port_owner k j) b c
        (λ w s. joined_in (feeds k i j && (is_queuing k i && bit (with_writer k i j w) (port_owner k i))) (port_owner k j) (with_writer k i j w)
        (and_from (feeds k i j) _ f (and_from (is_queuing k i) _ h (writer_grows i j w (port_owner k i) (s (port_owner k i) e)))))

    adds_raiser : (q n d : ℕ) → exists k q ≡ true → n < 8 → bit (link k q n) d ≡ true → bit m d ≡ true → bit (with_round k r m) q ≡ true
    adds_raiser q n d x b h e =
        turns_in (with_links k) links_grows k.partitions.count (turns (with_port k) k.ports.count m) q q (ltb-true _ _ x)
        (λ w s. turns_in (with_raiser k q) (raiser_grows q) 8 w n q b
        (λ v t. joined_in (not (eqb (bit_and (link k q n) v) 0)) q v (not_from_false _
        (in_common (link k q n) v d h (t d (s d (turns_keep (with_port k) port_grows k.ports.count m d e)))))))

  -- and no other
  module _ (N : ℕ → Bool) (c : Closed k N) where
    pair-within : (i j w : ℕ) → i < k.ports.count → j < k.ports.count → Inside w N → Inside (with_pair k i j w) N
    pair-within i j w b d s =
        let u = joined-within N (feeds k i j && bit w (port_owner k j)) (port_owner k i) w s
        (λ e. let v = and_parts (feeds k i j) _ e in c.writers i j b d v.0 (s (port_owner k j) v.1)) in
        joined-within N (feeds k i j && (is_queuing k i && bit (with_writer k i j w) (port_owner k i))) (port_owner k j) (with_writer k i j w) u
        (λ e.
        let v = and_parts (feeds k i j) _ e in
        let z = and_parts (is_queuing k i) _ v.1 in
        c.readers i j b d v.0 z.0 (u (port_owner k i) z.1))

    raiser_within : (q n w : ℕ) → exists k q ≡ true → n < 8 → Inside w N → Inside (with_raiser k q n w) N
    raiser_within q n w x b s =
        joined-within N (not (eqb (bit_and (link k q n) w) 0)) q w s
        (λ e. let u = common (link k q n) w (not-true _ e) in c.raisers q n u.place x b u.left (s u.place u.right))

    round_within : (r m : ℕ) → Inside m N → Inside (with_round k r m) N
    round_within r m s =
        turns-within N (with_links k) k.partitions.count _
        (λ q w b t. turns-within N (with_raiser k q) 8 w (λ n v d z. raiser_within q n v (lt-ltb _ _ b) d z) t)
        (turns-within N (with_port k) k.ports.count m
        (λ i w b t. turns-within N (with_pair k i) k.ports.count w (λ j v d z. pair-within i j v b d z) t) s)

-- how many of the first n bits are set
count : ℕ → ℕ → ℕ
count zero m = 0
count (suc n) m = cond (bit m n) 1 0 + count n m

one_more : (b : Bool) (a n : ℕ) → a ≤ n → cond b 1 0 + a ≤ suc n
one_more true a n h = omega arith
one_more false a n h = omega arith

count_most : (n m : ℕ) → count n m ≤ n
unfolding count
count_most zero m = omega arith
count_most (suc n) m = one_more (bit m n) (count n m) n (count_most n m)

no_fewer : (c d : Bool) (x y : ℕ) → (c ≡ true → d ≡ true) → x ≤ y → cond c 1 0 + x ≤ cond d 1 0 + y
no_fewer true true x y h l = omega arith
no_fewer true false x y h l = absurd (both_ways false refl (h refl))
no_fewer false true x y h l = omega arith
no_fewer false false x y h l = omega arith

count_grows : (a b : ℕ) → Inside a (bit b) → (n : ℕ) → count n a ≤ count n b
unfolding count
count_grows a b s zero = omega arith
count_grows a b s (suc n) = no_fewer (bit a n) (bit b n) (count n a) (count n b) (s n) (count_grows a b s n)

-- a has all the bits of b below n
abbrev Covers : ℕ → ℕ → ℕ → Type 0
Covers n a b = (q : ℕ) → q < n → bit b q ≡ true → bit a q ≡ true

covers_more : (n a b : ℕ) → Covers n a b → (bit b n ≡ true → bit a n ≡ true) → Covers (suc n) a b
covers_more n a b s h q l e =
    elim (cases_lt q n) [ inl g ↦ s q g e | inr g ↦ let d : q ≡ n = omega arith in ap (bit a) d ∙ h (ap (bit b) (sym d) ∙ e) ]

-- a mask that only gains has the same bits, or more
gains : (a b : ℕ) → Inside a (bit b) → (n : ℕ) → Covers n a b ⊎ (count n a < count n b)
unfolding count
gains a b s zero = inl (λ q h e. absurd (omega arith))
gains a b s (suc n) = go (bit a n) (bit b n) refl refl (gains a b s n)
  where
    go : (c d : Bool) → bit a n ≡ c → bit b n ≡ d → Covers n a b ⊎ (count n a < count n b) →
        Covers (suc n) a b ⊎ (cond c 1 0 + count n a < cond d 1 0 + count n b)
    go true true f g (inl e) = inl (covers_more n a b e (λ _. f))
    go true true f g (inr l) = inr (omega arith)
    go true false f g h = absurd (both_ways (bit b n) g (s n f))
    go false true f g h = inr (let l = count_grows a b s n in omega arith)
    go false false f g (inl e) = inl (covers_more n a b e (λ i. absurd (both_ways (bit b n) g i)))
    go false false f g (inr l) = inr (omega arith)

module _ (k : Tables) (v : Fine k) where
  -- the partitions below 8 are a closed set
  eight : Closed k (λ q. ltb q 8)
  eight =
      record {
        systems = λ q x s. let b = ltb-true _ _ x in lt-ltb q 8 (omega (arith, v.0));
        writers = λ i j b c f e. lt-ltb _ 8 (v.1 i b);
        readers = λ i j b c f h e. lt-ltb _ 8 (v.1 j c);
        raisers = λ q n d x b h e. let l = ltb-true _ _ x in lt-ltb q 8 (omega (arith, v.0));
      }

  -- a round adds nothing
  abbrev Fixed : ℕ → Type 0
  Fixed m = (r : ℕ) → Inside (with_round k r m) (bit m)

  closed : (m : ℕ) → ((q : ℕ) → exists k q ≡ true → is_system k q ≡ true → bit m q ≡ true) → Fixed m → Closed k (bit m)
  closed m s f =
      record {
        systems = s;
        writers = λ i j b c h e. f 0 (port_owner k i) (adds_writer k 0 m i j b c h e);
        readers = λ i j b c h g e. f 0 (port_owner k j) (adds_reader k 0 m i j b c h g e);
        raisers = λ q n d x b h e. f 0 q (adds_raiser k 0 m q n d x b h e);
      }

  abbrev begun : ℕ → ℕ
  begun p = turns (with_system k) k.partitions.count (2 ^ p)

  begun_grows : Grows (with_system k)
  begun_grows q m = joined_keeps (is_system k q) q m

  begun-systems : (p q : ℕ) → exists k q ≡ true → is_system k q ≡ true → bit (begun p) q ≡ true
  begun-systems p q x s =
      turns_in (with_system k) begun_grows k.partitions.count (2 ^ p) q q (ltb-true _ _ x) (λ w t. joined_in (is_system k q) q w s)

  begun-within : (N : ℕ → Bool) → Closed k N → (p : ℕ) → N p ≡ true → Inside (begun p) N
  begun-within N c p h =
      turns-within N (with_system k) k.partitions.count (2 ^ p)
      (λ q w b s. joined-within N (is_system k q) q w s (λ e. c.systems q (lt-ltb _ _ b) e))
      (λ q e. ap N (pow_bit p q e) ∙ h)

  module _ (p : ℕ) (x : exists k p ≡ true) where
    abbrev mask : ℕ → ℕ
    mask n = turns (with_round k) n (begun p)

    mask-begun : (n : ℕ) → Inside (begun p) (bit (mask n))
    mask-begun n = turns_keep (with_round k) (round_grows k) n (begun p)

    mask-within : (N : ℕ → Bool) → Closed k N → N p ≡ true → (n : ℕ) → Inside (mask n) N
    mask-within N c h n = turns-within N (with_round k) n (begun p) (λ r w b s. round_within k N c r w s) (begun-within N c p h)

    mask_small : (n q : ℕ) → bit (mask n) q ≡ true → q < 8
    mask_small n q e = ltb-true _ _ (mask-within (λ q. ltb q 8) eight (lt-ltb p 8 (let b = ltb-true _ _ x in omega (arith, v.0))) n q e)

    mask-closed : (n : ℕ) → Fixed (mask n) → Closed k (bit (mask n))
    mask-closed n f = closed (mask n) (λ q y s. mask-begun n q (begun-systems p q y s)) f

    -- what stands fixed stays so
    still : (n : ℕ) → Fixed (mask n) → Fixed (mask (suc n))
    unfolding turns
    still n f r q e =
        round_grows k n (mask n) q
        (round_within k (bit (mask n)) (mask-closed n f) r (mask (suc n)) (f n) q e)

    -- a round that covers no more below 8 adds nothing
    settles : (n : ℕ) → Covers 8 (mask n) (mask (suc n)) → Fixed (mask n)
    unfolding turns
    settles n h r q e = h q (mask_small (suc n) q e) e

    mask_grows : (n : ℕ) → Inside (mask n) (bit (mask (suc n)))
    unfolding turns
    mask_grows n = round_grows k n (mask n)

    -- each round that is not the last adds a bit
    progress : (n : ℕ) → Fixed (mask n) ⊎ (n ≤ count 8 (mask n))
    progress zero = inr (omega arith)
    progress (suc n) = go (progress n)
      where
        go : Fixed (mask n) ⊎ (n ≤ count 8 (mask n)) → Fixed (mask (suc n)) ⊎ (suc n ≤ count 8 (mask (suc n)))
        go (inl f) = inl (still n f)
        go (inr l) =
            elim (gains (mask n) (mask (suc n)) (mask_grows n) 8) [ inl h ↦ inl (still n (settles n h)) | inr g ↦ inr (omega arith) ]

    -- after eight there is none left to add
    fixed : Fixed (mask 8)
    fixed =
        elim (progress 8) [
          | inl f ↦ f
          | inr l ↦ elim (gains (mask 8) (mask (suc 8)) (mask_grows 8) 8) [
            | inl h ↦ settles 8 h
            | inr g ↦ absurd (let m = count_most 8 (mask (suc 8)) in omega arith)
          ]
        ]

    pub circled : Circled k p
    circled =
        record {
          itself = mask-begun 8 p (turns_keep (with_system k) begun_grows k.partitions.count (2 ^ p) p (pow_own p));
          closed = mask-closed 8 fixed;
          least = λ N h c q e. mask-within N c h 8 q e;
        }
