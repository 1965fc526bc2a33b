-- The calls on interrupts, and lines.
use Rattle.std.proofs.Common.{◌≡◌, ℕ, zero, suc, Bool, true, false, cond, eqb, ltb, List, pos, Some, None, Option, refl, ap}
use Rattle.std.proofs.lemmas.Bool.{both_ways, ltb-true}
use Rattle.tables.specs.declared.Tables.{Tables}
use Rattle.machine.specs.declared.partition.Partition.{Partition}
use Rattle.machine.specs.Answers.{reply}
use Rattle.machine.specs.Partitions.{nobody, bit, signalled, masked, unmasked, acknowledged}
use Rattle.machine.specs.Questions.{exists, link, owner}
use Rattle.machine.specs.State.{Core, keeps}
use Rattle.machine.specs.Management.{arg}
use Rattle.machine.specs.Interrupts.{hit, raised, raise_ipvi, get_irqs, set_irq_mask, clear_irq_mask, clear_irq_pending, line_of, line}
use Rattle.machine.specs.Isolation.{stays}
use Rattle.machine.proofs.Agree.{Agree, agree_refl, agree_trans, agree_put}
use Rattle.machine.proofs.Alike.{Alike, Matched, Quiet, alike_refl, matched_guard, matched_same, matched_told, quiet_guard, quiet_core, parts_out, agree_modify, within, without}
use Rattle.machine.proofs.Sealed.{Sealed}
use Rattle.machine.proofs.Respects.{Respects, own_respects}

module _ (M C : ℕ → Bool) where
  agree_raised : (mask bits n : ℕ) {ps rs : List Partition} → Agree M nobody ps rs →
      Agree M nobody (raised mask bits n ps) (raised mask bits n rs)
  unfolding raised
  agree_raised mask bits zero r = r
  agree_raised mask bits (suc n) r = agree_modify M C (agree_raised mask bits n r) n (hit mask bits n)

  -- a partition that the mask does not name
  missed : (mask bits d : ℕ) (p : Partition) → (bit mask d ≡ true → ⊥) → hit mask bits d p ≡ p
  missed mask bits d p h = go (bit mask d) refl
    where
      go : (b : Bool) → bit mask d ≡ b → cond b (signalled bits p) p ≡ p
      go true e = absurd (h e)
      go false e = refl

  -- the mask names no member
  raised-out : (mask bits n : ℕ) (ps : List Partition) → ((d : ℕ) → bit mask d ≡ true → M d ≡ true → ⊥) →
      Agree M nobody ps (raised mask bits n ps)
  unfolding raised
  raised-out mask bits zero ps h = agree_refl M nobody ps
  raised-out mask bits (suc n) ps h =
      agree_trans M nobody (raised-out mask bits n ps h)
      (agree_put M nobody (raised mask bits n ps) n _ (λ m. missed mask bits n _ (λ e. h n e m)))

module _ (k : Tables) (M C : ℕ → Bool) (w : Sealed k M C) where
  -- an outsider's link names no member
  link-out : (q n : ℕ) → M q ≡ false → exists k q ≡ true → ltb n 8 ≡ true → (d : ℕ) → bit (link k q n) d ≡ true → M d ≡ true → ⊥
  link-out q n o h l d e m = both_ways (M q) o (w.raisers q n d h (ltb-true n 8 l) e m)

  pub raise_ipvi_respects : Respects k M C raise_ipvi
  raise_ipvi_respects =
      record {
        inside = λ q m x y a g r. search (within, agree_raised) depth 8;
        outside = λ q o h x a g.
            quiet_guard M C x (ltb (arg g 0) 8)
            (λ l. quiet_guard M C x (eqb (link k q (arg g 0)) 0)
            (λ _. search without)
            (λ _. quiet_core M C x _
            (parts_out M C (alike_refl M C x) (raised-out M C (link k q (arg g 0)) _ 8 x.parts (link-out q (arg g 0) o h l)))))
            (λ _. search without);
      }

  pub get_irqs_respects : Respects k M C get_irqs
  get_irqs_respects =
      record {
        inside = λ q m x y a g r. matched_told k M C q r refl (ap (λ (p : Partition). reply (pos 0) p.pending p.mask) (r.parts.at q m));
        outside = λ q o h x a g. search without;
      }

  pub set_irq_mask_respects : Respects k M C set_irq_mask
  set_irq_mask_respects = own_respects k M C (λ g. masked (arg g 0))

  pub clear_irq_mask_respects : Respects k M C clear_irq_mask
  clear_irq_mask_respects = own_respects k M C (λ g. unmasked (arg g 0))

  pub clear_irq_pending_respects : Respects k M C clear_irq_pending
  clear_irq_pending_respects = own_respects k M C (λ g. acknowledged (arg g 0))

  line_of_matched : (q : ℕ) (o : Option ℕ) (l : ℕ) (x y : Core) → Alike M C x y → Matched k M C q (line_of o x l) (line_of o y l)
  line_of_matched q None l x y r = search within
  line_of_matched q (Some t) l x y r = search within

  pub line_matched : (q l : ℕ) (x y : Core) → Alike M C x y → Matched k M C q (line k x l) (line k y l)
  line_matched q l x y r =
      let h = line_of_matched q (owner k l) l x y r in
      matched_guard k M C q (ltb l 16) _ refl (λ _. h) (λ _. matched_same k M C q keeps _ r)

  line_of_quiet : (o : Option ℕ) (l : ℕ) (x : Core) → stays M o ≡ false → Quiet M C x (line_of o x l)
  line_of_quiet None l x e = search without
  line_of_quiet (Some t) l x e = search without depth 8

  pub line_quiet : (l : ℕ) (x : Core) → (ltb l 16 ≡ true → stays M (owner k l) ≡ false) → Quiet M C x (line k x l)
  line_quiet l x h = quiet_guard M C x (ltb l 16) (λ e. line_of_quiet (owner k l) l x (h e)) (λ _. search without)
