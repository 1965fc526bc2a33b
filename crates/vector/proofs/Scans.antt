-- The scan of a vector, step by step as the reader goes.
use Rattle.std.proofs.Common.{◌≡◌, ℕ, zero, suc, ◌+◌, ◌<◌, eqb, List, [], ◌∷◌, length, drop, Some, None, Option, sym, refl, ap, ◌∙◌, subst, inl, inr, arith}
use Rattle.std.proofs.lemmas.Bool.{ne_eqb, cond-false}
use Rattle.vector.specs.Reasons.{Reason, owed}
use Rattle.vector.specs.Out.{Out, fine, bad, then}
use Rattle.vector.specs.Frames.{Framed, framed}
use Rattle.vector.specs.Bodies.{Said}
use Rattle.vector.specs.Turns.{settled, ending}
use Rattle.vector.specs.Joins.{joined}
use Rattle.vector.specs.Reading.{read_on, heard}
use Rattle.vector.specs.Points.{Point, Shown, Step, step_over, step, next, shown, moved}
use Rattle.vector.specs.declared.sofar.Sofar.{Sofar}
use Rattle.vector.proofs.Outs.{then-fine, pass-fine, cond-fine, then-bad, pass-bad}
use Rattle.vector.proofs.Cuts.{cut_off}

skipped : (k at : ℕ) (s : Sofar) (bs : List ℕ) → read_on k at s bs ≡ read_on 0 at s (drop k bs)
skipped zero at s bs = refl
skipped (suc k) at s [] = refl
skipped (suc k) at s (b ∷ bs) = skipped k at s bs

pub drop_more : (n b : ℕ) (bs : List ℕ) → drop (4 + n) (b ∷ bs) ≡ drop (3 + n) bs
drop_more n b bs = let e : 4 + n ≡ suc (3 + n) = omega arith in ap (λ k. drop k (b ∷ bs)) e

-- a step that was taken: the record was cut off, heard and joined
pub record Stepped (p : Point) (x : Step) : Type 0 where
  pub front : Framed
  pub said : Said
  pub sofar : Sofar
  pub cut : framed p.at p.rest ≡ fine front
  pub hears : heard p.at p.sofar front.kind front.body ≡ fine said
  pub joins : joined p.at p.sofar said ≡ fine sofar
  pub is : step_over p.at front said sofar ≡ x

pub stepped : (p : Point) (x : Step) → step p ≡ fine x → Stepped p x
stepped p x e =
    let at = p.at in
    let s = p.sofar in
    let f = then-fine (framed at p.rest) (λ f. then (heard at s f.kind f.body) (λ y. then (joined at s y) (λ t. fine (step_over at f y t)))) x e in
    let y = then-fine (heard at s f.0.kind f.0.body) (λ y. then (joined at s y) (λ t. fine (step_over at f.0 y t))) x f.2 in
    let t = then-fine (joined at s y.0) (λ t. fine (step_over at f.0 y.0 t)) x y.2 in
    record { front = f.0; said = y.0; sofar = t.0; cut = f.1; hears = y.1; joins = t.1; is = let q : step_over at f.0 y.0 t.0 ≡ x = cc in q }

abbrev pub scan_from : Point → Out Sofar
scan_from p = read_on 0 p.at p.sofar p.rest

-- the scan goes on from where a step leads
pub scan_step : (p : Point) (x : Step) → 0 < length p.rest → Stepped p x → scan_from x.point ≡ scan_from p
scan_step p x h w = subst (λ (y : Step). scan_from y.point ≡ scan_from p) w.is (over p.rest h w.cut)
  where
    over : (bs : List ℕ) → 0 < length bs → framed p.at bs ≡ fine w.front → read_on 0 (p.at + (4 + length w.front.body)) w.sofar w.front.rest ≡ read_on 0 p.at p.sofar bs
    over [] h e = absurd (omega arith)
    over (b ∷ bs) h e =
        let r = (cut_off p.at (b ∷ bs) w.front e).rest in
        sym (rw (e, w.hears, w.joins) (skipped (3 + length w.front.body) (p.at + (4 + length w.front.body)) w.sofar bs
        ∙ ap (read_on 0 (p.at + (4 + length w.front.body)) w.sofar) (sym (r ∙ drop_more (length w.front.body) b bs))))

-- and fewer bytes are left
fewer : (p : Point) (x : Step) → Stepped p x → length x.point.rest < length p.rest
fewer p x w =
    let o = cut_off p.at p.rest w.front w.cut in
    subst (λ (y : Step). length y.point.rest < length p.rest) w.is (omega (arith, o.size))

shown-some : (o : Out (Option Step)) (y : Shown) → fine (Some y) ≡ shown o → (x : Step) × (o ≡ fine (Some x))
shown-some (fine (Some x)) y e = (x, refl)
shown-some (fine None) y e = absurd cc
shown-some (bad r) y e = absurd cc

shown-none : (o : Out (Option Step)) → fine None ≡ shown o → o ≡ fine None
shown-none (fine (Some x)) e = absurd cc
shown-none (fine None) e = refl
shown-none (bad r) e = absurd cc

shown-bad : (o : Out (Option Step)) (r : Reason) → bad r ≡ shown o → o ≡ bad r
shown-bad (fine (Some x)) r e = absurd cc
shown-bad (fine None) r e = absurd cc
shown-bad (bad q) r e = let z : q ≡ r = cc in ap bad z

-- what a point's next step does to its scan
module _ (at : ℕ) (s : Sofar) where
  next_cons : (b : ℕ) (bs : List ℕ) → next (record { at = at; sofar = s; rest = b ∷ bs }) ≡ then (step (record { at = at; sofar = s; rest = b ∷ bs })) (λ x. fine (Some x))
  next_cons b bs = cond-false (eqb (length (b ∷ bs)) 0) _ _ (ne_eqb (length (b ∷ bs)) 0 (λ e. omega arith))

  next-some : (bs : List ℕ) (x : Step) → next (record { at = at; sofar = s; rest = bs }) ≡ fine (Some x) → (scan_from x.point ≡ read_on 0 at s bs) × (length x.point.rest < length bs)
  next-some [] x e = absurd (let p = pass-fine (ending at s) (fine None) (Some x) e in cc)
  next-some (b ∷ bs) x e =
      let p : Point = record { at = at; sofar = s; rest = b ∷ bs } in
      let y = then-fine (step p) (λ x. fine (Some x)) (Some x) (sym (next_cons b bs) ∙ e) in
      let q : y.0 ≡ x = cc in
      let w = subst (Stepped p) q (stepped p y.0 y.1) in
      (scan_step p x (omega arith) w, fewer p x w)

  next-none : (bs : List ℕ) → next (record { at = at; sofar = s; rest = bs }) ≡ fine None → read_on 0 at s bs ≡ fine s
  next-none [] e =
      let p = pass-fine (ending at s) (fine None) None e in
      let c = cond-fine (settled s) (fine s) (owed at) p.0 p.1 in
      p.1 ∙ sym c.1
  next-none (b ∷ bs) e = absurd (let y = then-fine (step (record { at = at; sofar = s; rest = b ∷ bs })) (λ x. fine (Some x)) None (sym (next_cons b bs) ∙ e) in cc)

  scan-bad : (b : ℕ) (bs : List ℕ) (r : Reason) → step (record { at = at; sofar = s; rest = b ∷ bs }) ≡ bad r → read_on 0 at s (b ∷ bs) ≡ bad r
  scan-bad b bs r e =
      elim (then-bad (framed at (b ∷ bs)) (λ f. then (heard at s f.kind f.body) (λ y. then (joined at s y) (λ t. fine (step_over at f y t)))) r e) [
        | inl z ↦ rw z
        | inr f ↦ elim (then-bad (heard at s f.0.kind f.0.body) (λ y. then (joined at s y) (λ t. fine (step_over at f.0 y t))) r f.2) [
          | inl z ↦ rw (f.1, z)
          | inr y ↦ elim (then-bad (joined at s y.0) (λ t. fine (step_over at f.0 y.0 t)) r y.2) [
            | inl z ↦ rw (f.1, y.1, z)
            | inr t ↦ absurd (cc (t.2))
          ]
        ]
      ]

  next-bad : (bs : List ℕ) (r : Reason) → next (record { at = at; sofar = s; rest = bs }) ≡ bad r → read_on 0 at s bs ≡ bad r
  next-bad [] r e = pass-bad (ending at s) None r e
  next-bad (b ∷ bs) r e =
      elim (then-bad (step (record { at = at; sofar = s; rest = b ∷ bs })) (λ x. fine (Some x)) r (sym (next_cons b bs) ∙ e)) [
        | inl z ↦ scan-bad b bs r z
        | inr x ↦ absurd (cc (x.2))
      ]

-- the reader's answers, and where it stands after them
module _ (p q : Point) where
  pub goes_on : (y : Shown) → fine (Some y) ≡ shown (next p) → q ≡ moved p (next p) → record { same : scan_from q ≡ scan_from p; less : length q.rest < length p.rest }
  goes_on y e m =
      let o = shown-some (next p) y e in
      let w = next-some p.at p.sofar p.rest o.0 o.1 in
      let i : o.0.point ≡ q = sym (m ∙ ap (moved p) o.1) in
      record {
        same = subst (λ (q : Point). scan_from q ≡ scan_from p) i w.0;
        less = subst (λ (q : Point). length q.rest < length p.rest) i w.1;
      }

  pub stops : fine None ≡ shown (next p) → q ≡ moved p (next p) → scan_from p ≡ fine q.sofar
  stops e m =
      let o = shown-none (next p) e in
      let i : p ≡ q = sym (m ∙ ap (moved p) o) in
      subst (λ (q : Point). scan_from p ≡ fine q.sofar) i (next-none p.at p.sofar p.rest o)

pub fails : (p : Point) (r : Reason) → bad r ≡ shown (next p) → scan_from p ≡ bad r
fails p r e = next-bad p.at p.sofar p.rest r (shown-bad (next p) r e)
