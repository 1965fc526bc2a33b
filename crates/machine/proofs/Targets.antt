-- The calls on time, partitions and plans.
use Rattle.std.proofs.Common.{◌≡◌, ℕ, Bool, true, false, eqb, get_or, pos, refl, ap, ◌∙◌, inl, inr}
use Rattle.std.proofs.lemmas.Bool.{both_ways, or_cases, eqb-true, cases_Bool}
use Rattle.tables.specs.declared.Tables.{Tables}
use Rattle.machine.specs.declared.clock.Clock.{Clock}
use Rattle.machine.specs.declared.partition.Partition.{Partition}
use Rattle.machine.specs.declared.answer.Refusal.TheVariants.{NoAction}
use Rattle.machine.specs.Answers.{reply, status_number}
use Rattle.machine.specs.Partitions.{nobody, suspended, resumed, idled, is_active, is_suspended}
use Rattle.machine.specs.Questions.{exists, is_system, manages, plan, slots_of}
use Rattle.machine.specs.State.{Core, Out, keeps, done, refused, guard, with_parts, modify}
use Rattle.machine.specs.Time.{clock_of}
use Rattle.machine.specs.Management.{arg, on_target, get_time, get_partition_status, halt_partition, suspend_partition, resume_partition, reset_partition, idle_self, switch_plan, gaps, get_plan_status}
use Rattle.machine.proofs.Agree.{agree_out}
use Rattle.machine.proofs.Alike.{Alike, Matched, Quiet, alike_refl, matched_guard, matched_same, matched_told, matched_system, matched_far, parts_out, within, without}
use Rattle.machine.proofs.Sealed.{Sealed}
use Rattle.machine.proofs.Respects.{Respects, own_respects}

abbrev on_state : (Partition → Bool) → (Partition → Partition) → Core → ℕ → Out
on_state test f x t =
    guard (test (get_or x.parts t nobody)) (done (with_parts x (modify x.parts t f))) (refused x NoAction)

module _ (k : Tables) (M C : ℕ → Bool) (w : Sealed k M C) where
  -- an outsider manages itself alone
  own : (q t : ℕ) → M q ≡ false → exists k q ≡ true → manages k q t ≡ true → M t ≡ false
  own q t o h e =
      elim (or_cases (is_system k q) (eqb t q) e) [
        | inl s ↦ absurd (both_ways (M q) o (w.systems q h s))
        | inr s ↦ ap M (eqb-true t q s) ∙ o
      ]

  pub no_system : (q : ℕ) (x : Core) (u : Out) → M q ≡ false → exists k q ≡ true → is_system k q ≡ true → Quiet M C x u
  no_system q x u o h e = absurd (both_ways (M q) o (w.systems q h e))

  -- a member that manages an outsider is a system partition
  above : (q t : ℕ) → M q ≡ true → M t ≡ false → manages k q t ≡ true → is_system k q ≡ true
  above q t m o e =
      elim (or_cases (is_system k q) (eqb t q) e) [
        | inl s ↦ s
        | inr s ↦ absurd (both_ways (M t) o (ap M (eqb-true t q s) ∙ m))
      ]

  pub get_time_respects : Respects k M C get_time
  get_time_respects =
      record {
        inside = λ q m x y a g r. matched_told k M C q r refl (ap (λ (c : Clock). reply (pos 0) c.time 0) r.clock);
        outside = λ q o h x a g. search without;
      }

  pub halt_partition_respects : Respects k M C halt_partition
  halt_partition_respects =
      record {
        inside = λ q m x y a g r. search within depth 8;
        outside = λ q o h x a g. search (without, own) depth 9;
      }

  pub reset_partition_respects : Respects k M C reset_partition
  reset_partition_respects =
      record {
        inside = λ q m x y a g r. search within depth 10;
        outside = λ q o h x a g. search (without, own) depth 10;
      }

  pub idle_self_respects : Respects k M C idle_self
  idle_self_respects = own_respects k M C (λ _. idled)

  pub get_partition_status_respects : Respects k M C get_partition_status
  get_partition_status_respects =
      record {
        inside = λ q m x y a g r.
            matched_guard k M C q (exists k (arg g 0)) _ refl
            (λ _. matched_guard k M C q (manages k q (arg g 0)) _ refl
            (λ e.
            elim (cases_Bool (M (arg g 0))) [
              | inl t ↦ matched_told k M C q r refl
                  (ap (λ (p : Partition). reply (pos (status_number p.status)) 0 0) (r.parts.at (arg g 0) t))
              | inr o ↦ matched_system k M C q keeps _ _ (above q (arg g 0) m o e) r
            ])
            (λ _. matched_same k M C q keeps _ r))
            (λ _. matched_same k M C q keeps _ r);
        outside = λ q o h x a g. search without;
      }

  -- a target's state is tested, and the target changed; an outsider's state shows in the answer alone
  changed_matched : (test : Partition → Bool) (f : Partition → Partition) (q t : ℕ) → M q ≡ true → manages k q t ≡ true →
      (x y : Core) → Alike M C x y → Matched k M C q (on_state test f x t) (on_state test f y t)
  changed_matched test f q t m e x y r =
      elim (cases_Bool (M t)) [
        | inl s ↦ let same = ap test (r.parts.at t s) in search within depth 8
        | inr o ↦
            matched_far k M C q (test (get_or x.parts t nobody)) (test (get_or y.parts t nobody)) _ _ (above q t m o e) r
            (parts_out M C (alike_refl M C x) (agree_out M nobody x.parts t _ o)) (alike_refl M C x)
            (parts_out M C (alike_refl M C y) (agree_out M nobody y.parts t _ o)) (alike_refl M C y)
      ]

  on_state_respects : (test : Partition → Bool) (f : Partition → Partition) →
      Respects k M C (λ k x a q g. on_target k x q (arg g 0) (on_state test f x (arg g 0)))
  on_state_respects test f =
      record {
        inside = λ q m x y a g r.
            let h = λ (e : manages k q (arg g 0) ≡ true). changed_matched test f q (arg g 0) m e x y r in
            search within depth 8;
        outside = λ q o h x a g. search (without, own) depth 10;
      }

  pub suspend_partition_respects : Respects k M C suspend_partition
  suspend_partition_respects = on_state_respects (λ p. is_active p.status) suspended

  pub resume_partition_respects : Respects k M C resume_partition
  resume_partition_respects = on_state_respects (λ p. is_suspended p.status) resumed

  pub switch_plan_respects : Respects k M C switch_plan
  switch_plan_respects =
      record {
        inside = λ q m x y a g r.
            let e = ap (λ (c : Clock). clock_of c.time c.plan (arg g 0) c.start) r.clock in
            search within depth 8;
        outside = λ q o h x a g. search (without, no_system);
      }

  pub get_plan_status_respects : Respects k M C get_plan_status
  get_plan_status_respects =
      record {
        inside = λ q m x y a g r.
            matched_told k M C q r refl
            (ap (λ (c : Clock). reply (pos c.plan) c.next (gaps 0 (slots_of (plan k c.plan)) (plan k c.plan).frame)) r.clock);
        outside = λ q o h x a g. search without;
      }
