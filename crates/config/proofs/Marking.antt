-- The words of the index, made port by port.
use Rattle.std.proofs.Common.{◌≡◌, ◌==◌, ℕ, ◌+◌, ◌^◌, ◌<◌, Bool, true, false, ◌&&◌, eqb, ltb, List, length, get_or, set, replicate, sym, ap, ◌∙◌, subst, inl, inr, refl, arith, eq-eqb}
use Rattle.std.specs.Int.{bit_at}
use Rattle.std.specs.Int.Bits.{bit_or}
use Rattle.std.proofs.lemmas.Bool.{cases_eq, cases_lt, ne_eqb, lt-ltb, le-ltb}
use Rattle.std.proofs.lemmas.List.{get_or-replicate, get_or-set_same, get_or-set_other, length-set}
use Rattle.std.proofs.lemmas.Nat.Bits.{bit_at_or, bit_at-zero, bit_at-pow_same, bit_at-pow_other, bit_at-lt}
use Rattle.std.proofs.Math.Bool.{and-false}
use Rattle.std.proofs.Math.ListN.{get_or-eq_default}
use Rattle.tables.specs.Bits.{has_bit}
use Rattle.tables.specs.declared.Tables.{Tables}
use Rattle.tables.specs.declared.channel.ChannelKind.{ChannelKind}
use Rattle.tables.specs.declared.channel.ChannelKind.TheVariants.{Sampling, Queuing}
use Rattle.machine.specs.Questions.{port, channel, same_kind, owns, hears}
use Rattle.tables.specs.Sound.{SoundPorts}
use Rattle.config.specs.Index.{marked, added, owned, Indexed}
use Rattle.config.specs.declared.index.Index.{Index}

-- is port i of q, on a channel of this type
abbrev pub kept : Tables → ChannelKind → ℕ → ℕ → Bool
kept k t q i = (port k i).partition == q && same_kind (channel k i).kind t

-- what the first n ports have marked: bit j of row r, where j is below n and the test holds of both
pub record Marks (g : ℕ → ℕ → Bool) (n : ℕ) (ws : List ℕ) : Type 0 where
  pub rows : length ws ≡ 8
  pub bits : (r j : ℕ) → has_bit (get_or ws r 0) j ≡ (ltb j n && g r j)

-- none yet
pub blank : (g : ℕ → ℕ → Bool) → Marks g 0 (replicate 8 0)
blank g =
    record {
      rows = refl;
      bits = λ r j.
          let z : get_or (replicate 8 0) r 0 ≡ 0 =
          elim (cases_lt r 8) [
            | inl l ↦ get_or-replicate 8 r 0 0 l
            | inr m ↦ get_or-eq_default (replicate 8 0) 0 m
          ] in
          ap (λ w. has_bit w j) z
          ∙ ne_eqb _ _ (omega (arith, bit_at-zero j))
          ∙ sym (ap (λ b. b && g r j) (le-ltb j 0 (omega arith)));
    }

module _ (g : ℕ → ℕ → Bool) (n : ℕ) where
  -- the bit of the port n itself
  own : (r v : ℕ) (b : Bool) → g r n ≡ b → has_bit v n ≡ b → has_bit v n ≡ (ltb n (n + 1) && g r n)
  own r v b e h = h ∙ sym e ∙ sym (ap (λ t. t && g r n) (lt-ltb n (n + 1) (omega arith)))

  below : (j : ℕ) → (j ≡ n → ⊥) → ltb j n ≡ ltb j (n + 1)
  below j d =
      elim (cases_lt j n) [
        | inl l ↦ lt-ltb j n l ∙ sym (lt-ltb j (n + 1) (omega arith))
        | inr m ↦ le-ltb j n m ∙ sym (le-ltb j (n + 1) (omega arith))
      ]

  -- the bits of the others
  other : (r j v w : ℕ) → (j ≡ n → ⊥) → has_bit v j ≡ has_bit w j → has_bit w j ≡ (ltb j n && g r j) → has_bit v j ≡ (ltb j (n + 1) && g r j)
  other r j v w d e h = e ∙ h ∙ ap (λ t. t && g r j) (below j d)

  module _ (ws : List ℕ) (m : Marks g n ws) where
    unset : (r : ℕ) → has_bit (get_or ws r 0) n ≡ false
    unset r = m.bits r n ∙ ap (λ t. t && g r n) (le-ltb n n (omega arith))

    -- a row that stays
    same : (r j : ℕ) → g r n ≡ false → has_bit (get_or ws r 0) j ≡ (ltb j (n + 1) && g r j)
    same r j e =
        elim (cases_eq j n) [
          | inl s ↦ subst (λ i. has_bit (get_or ws r 0) i ≡ (ltb i (n + 1) && g r i)) (sym s) (own r (get_or ws r 0) false e (unset r))
          | inr d ↦ other r j _ (get_or ws r 0) d refl (m.bits r j)
        ]

    -- the row that gets the bit
    set_own : (r j : ℕ) → g r n ≡ true → has_bit (bit_or (get_or ws r 0) (2 ^ n)) j ≡ (ltb j (n + 1) && g r j)
    set_own r j e =
        let w = get_or ws r 0 in
        let v : ℕ = bit_or w (2 ^ n) in
        elim (cases_eq j n) [
          | inl s ↦
              subst (λ i. has_bit v i ≡ (ltb i (n + 1) && g r i)) (sym s)
              (own r v true e (eq-eqb _ _ (omega (arith, bit_at_or w (2 ^ n) n, bit_at-pow_same n, bit_at-lt w n))))
          | inr d ↦
              let h : bit_at v j ≡ bit_at w j = omega (arith, bit_at_or w (2 ^ n) j, bit_at-pow_other n j d) in
              other r j v w d (ap (λ b. b == 1) h) (m.bits r j)
        ]

-- one port more
pub more : (g : ℕ → ℕ → Bool) (n row : ℕ) (test : Bool) (ws : List ℕ) → row < 8 → ((r : ℕ) → g r n ≡ (eqb row r && test)) →
    Marks g n ws → Marks g (n + 1) (marked test row n ws)
more g n row false ws inside at m = record { rows = m.rows; bits = λ r j. same g n ws m r j (at r ∙ and-false _) }
more g n row true ws inside at m =
    let v : ℕ = bit_or (get_or ws row 0) (2 ^ n) in
    record {
      rows = length-set ws row v ∙ m.rows;
      bits = λ r j.
          elim (cases_eq r row) [
            | inl e ↦
                let here : row < length ws = omega (arith, m.rows) in
                subst (λ r. has_bit (get_or (set ws row v) r 0) j ≡ (ltb j (n + 1) && g r j)) (sym e)
                (ap (λ w. has_bit w j) (get_or-set_same ws row v 0 here)
                ∙ set_own g n ws m row j (at row ∙ ap (λ b. b && true) (eq-eqb row row refl)))
            | inr d ↦
                ap (λ w. has_bit w j) (get_or-set_other ws row r v 0 d)
                ∙ same g n ws m r j (at r ∙ ap (λ b. b && true) (ne_eqb row r (λ e. d (sym e))))
          ];
    }

-- what the first n ports have marked in the index
pub record Partly (k : Tables) (n : ℕ) (x : Index) : Type 0 where
  pub sampling : Marks (kept k Sampling) n x.sampling
  pub queuing : Marks (kept k Queuing) n x.queuing
  pub hearing : Marks (hears k) n x.hearing

pub none : (k : Tables) (x : Index) → x ≡ record { sampling = replicate 8 0; queuing = replicate 8 0; hearing = replicate 8 0 } → Partly k 0 x
none k x e = subst (Partly k 0) (sym e) record { sampling = blank (kept k Sampling); queuing = blank (kept k Queuing); hearing = blank (hears k) }

pub taken : (k : Tables) (n : ℕ) (x y : Index) → SoundPorts k.ports → n < k.ports.count → y ≡ added n (port k n) (channel k n).kind x →
    Partly k n x → Partly k (n + 1) y
taken k n x y j l e m =
    let b = j.each n l in
    subst (Partly k (n + 1)) (sym e)
    record {
      sampling = more (kept k Sampling) n _ _ x.sampling b.partition (λ r. refl) m.sampling;
      queuing = more (kept k Queuing) n _ _ x.queuing b.partition (λ r. refl) m.queuing;
      hearing = more (hears k) n _ _ x.hearing b.channel (λ r. refl) m.hearing;
    }

-- all of them
pub all : (k : Tables) (x : Index) → Partly k k.ports.count x → Indexed k x
all k x m = record { owned = words; hearing = m.hearing.bits }
  where
    words : (t : ChannelKind) (q i : ℕ) → has_bit (get_or (owned x t) q 0) i ≡ owns k q t i
    words Sampling = m.sampling.bits
    words Queuing = m.queuing.bits
