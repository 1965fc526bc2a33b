-- Faults and the health monitor's responses, and the calls on the log and the system.
use Rattle.std.proofs.Common.{◌≡◌, ℕ, Bool, true, false, cond, [], replicate, Some, None, Option, refl, ap}
use Rattle.std.proofs.lemmas.Bool.{cond_both}
use Rattle.queue.specs.Ring.{first}
use Rattle.tables.specs.declared.Tables.{Tables}
use Rattle.tables.specs.declared.response.Response.{Response}
use Rattle.tables.specs.declared.response.Scope.{Scope}
use Rattle.tables.specs.declared.response.Scope.TheVariants.{Partition, System}
use Rattle.tables.specs.declared.response.Action.{Action}
use Rattle.tables.specs.declared.response.Action.TheVariants.{Ignore, Signal, Suspend, Halt, WarmReset, ColdReset}
use Rattle.machine.specs.declared.clock.Clock.{Clock}
use Rattle.machine.specs.declared.log.Entry.{Entry}
use Rattle.machine.specs.Partitions.{fresh, nobody}
use Rattle.machine.specs.Questions.{is_system, response}
use Rattle.machine.specs.State.{Core, keeps}
use Rattle.machine.specs.Time.{clock_of}
use Rattle.machine.specs.Faults.{is_systems, entry, noted, logged, carried, faulted, strayed, restarted, system_carried, system_response}
use Rattle.machine.specs.Monitor.{raise_partition_error, read, read_log, reset_system, halt_system}
use Rattle.machine.specs.Step.{system_fault}
use Rattle.machine.proofs.Agree.{agree_refl}
use Rattle.machine.proofs.Alike.{Alike, Matched, Quiet, alike_refl, alike_log, matched_guard, matched_same, matched_system, within, without}
use Rattle.machine.proofs.Sealed.{Sealed}
use Rattle.machine.proofs.Respects.{Respects}
use Rattle.machine.proofs.Targets.{no_system}

module _ (M C : ℕ → Bool) where
  -- the log is nobody's to see
  logged-out : (c : Scope) (e : ℕ) (r : Response) (x : Core) → Alike M C x (logged c e r x)
  logged-out c e r x = cond_both r.log _ _ (Alike M C x) (λ _. alike_log M C (alike_refl M C x) x.log _) (λ _. alike_refl M C x)

  logged_alike : (c : Scope) (e : ℕ) (r : Response) (x y : Core) → Alike M C x y → Alike M C (logged c e r x) (logged c e r y)
  logged_alike c e r x y s = go r.log
    where
      go : (b : Bool) → Alike M C (cond b (noted (entry c e r.action x.clock.time) x) x) (cond b (noted (entry c e r.action y.clock.time) y) y)
      go true = alike_log M C s _ _
      go false = s

  restarted_alike : (x y : Core) → Alike M C x y → Alike M C (restarted x) (restarted y)
  restarted_alike x y r =
      record {
        clock = ap (λ (c : Clock). clock_of c.time 0 0 c.time) r.clock;
        halted = r.halted;
        parts = agree_refl M nobody (replicate 8 fresh);
        chans = agree_refl C [] (replicate 8 []);
      }

  carried_quiet : (a : Action) (q : ℕ) (x y : Core) → M q ≡ false → Alike M C x y → Quiet M C x (carried a q y)
  carried_quiet Ignore q x y o r = search without depth 8
  carried_quiet Signal q x y o r = search without depth 8
  carried_quiet Suspend q x y o r = search without depth 8
  carried_quiet Halt q x y o r = search without depth 8
  carried_quiet WarmReset q x y o r = search without depth 8
  carried_quiet ColdReset q x y o r = search without depth 8

  pub faulted_quiet : (k : Tables) (q e : ℕ) (x : Core) → M q ≡ false → Quiet M C x (faulted k x q e)
  faulted_quiet k q e x o =
      carried_quiet (response k q e).action q x (logged (Partition q) e (response k q e) x) o (logged-out (Partition q) e (response k q e) x)

  pub strayed_quiet : (k : Tables) (q : ℕ) (x : Core) → M q ≡ false → Quiet M C x (strayed k x q)
  strayed_quiet k q x o = let h = faulted_quiet k q 6 x o in record { core = h.core; effect = h.effect }

module _ (k : Tables) (M C : ℕ → Bool) where
  carried_matched : (a : Action) (q i : ℕ) (x y : Core) → Alike M C x y → Matched k M C i (carried a q x) (carried a q y)
  carried_matched Ignore q i x y r = search within
  carried_matched Signal q i x y r = search within
  carried_matched Suspend q i x y r = search within
  carried_matched Halt q i x y r = search within
  carried_matched WarmReset q i x y r = search within
  carried_matched ColdReset q i x y r = search within

  pub faulted_matched : (q e : ℕ) (x y : Core) → Alike M C x y → Matched k M C q (faulted k x q e) (faulted k y q e)
  faulted_matched q e x y r =
      carried_matched (response k q e).action q q _ _ (logged_alike M C (Partition q) e (response k q e) x y r)

  pub strayed_matched : (q : ℕ) (x y : Core) → Alike M C x y → Matched k M C q (strayed k x q) (strayed k y q)
  strayed_matched q x y r = let h = faulted_matched q 6 x y r in record { core = h.core; effect = h.effect; reply = λ _. refl }

  system_carried_matched : (a : Action) (q : ℕ) (x y : Core) → Alike M C x y → Matched k M C q (system_carried k a x) (system_carried k a y)
  system_carried_matched Ignore q x y r = search within
  system_carried_matched Signal q x y r = search within
  system_carried_matched Suspend q x y r = search within
  system_carried_matched Halt q x y r = search within
  system_carried_matched WarmReset q x y r = matched_same k M C q keeps _ (restarted_alike M C x y r)
  system_carried_matched ColdReset q x y r = matched_same k M C q _ _ (alike_log M C (restarted_alike M C x y r) [] [])

  pub system_fault_matched : (q e : ℕ) (x y : Core) → Alike M C x y → Matched k M C q (system_fault k x e) (system_fault k y e)
  system_fault_matched q e x y r =
      matched_guard k M C q (is_systems e) _ refl
      (λ _. system_carried_matched (system_response k e).action q _ _ (logged_alike M C System e (system_response k e) x y r))
      (λ _. matched_same k M C q keeps _ r)

  read_matched : (q : ℕ) (o p : Option Entry) (x y : Core) → is_system k q ≡ true → Alike M C x y → Matched k M C q (read x o) (read y p)
  read_matched q None None x y s r = matched_system k M C q keeps _ _ s r
  read_matched q None (Some e) x y s r = matched_system k M C q keeps _ _ s (alike_log M C r x.log _)
  read_matched q (Some e) None x y s r = matched_system k M C q keeps _ _ s (alike_log M C r _ y.log)
  read_matched q (Some d) (Some e) x y s r = matched_system k M C q keeps _ _ s (alike_log M C r _ _)

module _ (k : Tables) (M C : ℕ → Bool) (w : Sealed k M C) where
  pub raise_partition_error_respects : Respects k M C raise_partition_error
  raise_partition_error_respects =
      record {
        inside = λ q m x y a g r. faulted_matched k M C q 7 x y r;
        outside = λ q o h x a g. faulted_quiet M C k q 7 x o;
      }

  pub read_log_respects : Respects k M C read_log
  read_log_respects =
      record {
        inside = λ q m x y a g r.
            matched_guard k M C q (is_system k q) _ refl
            (λ s. read_matched k M C q (first x.log) (first y.log) x y s r)
            (λ _. matched_same k M C q keeps _ r);
        outside = λ q o h x a g. search (without, no_system);
      }

  pub reset_system_respects : Respects k M C reset_system
  reset_system_respects =
      record {
        inside = λ q m x y a g r. let e = restarted_alike M C x y r in search within depth 10;
        outside = λ q o h x a g. search (without, no_system) depth 8;
      }

  pub halt_system_respects : Respects k M C halt_system
  halt_system_respects =
      record {
        inside = λ q m x y a g r. search within;
        outside = λ q o h x a g. search (without, no_system);
      }
