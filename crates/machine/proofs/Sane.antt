-- A machine whose plans are there, whose partitions are calm, whose log is kept, and whose channels are within their room.
use Rattle.std.proofs.Common.{◌≡◌, ℕ, suc, ◌+◌, ◌<◌, ◌≤◌, Bool, true, false, ◌&&◌, eqb, ltb, leb, List, [], ◌∷◌, ◌++◌, length, get_or, drop, set, replicate, refl, arith, length-append, length-drop, length-take}
use Rattle.std.proofs.lemmas.Bool.{both_ways, and_parts, leb-true, ltb-true, cond_both}
use Rattle.board.specs.Areas.{Area, ranged}
use Rattle.queue.specs.Ring.{rest}
use Rattle.tables.specs.declared.Tables.{Tables}
use Rattle.tables.specs.declared.response.Scope.{Scope}
use Rattle.tables.specs.declared.response.Response.{Response}
use Rattle.tables.specs.declared.channel.ChannelKind.{ChannelKind}
use Rattle.tables.specs.declared.channel.ChannelKind.TheVariants.{Sampling, Queuing}
use Rattle.machine.specs.declared.log.Entry.{Entry}
use Rattle.machine.specs.declared.partition.Status.TheVariants.{Ready}
use Rattle.machine.specs.declared.partition.Partition.{Partition}
use Rattle.machine.specs.Letters.{Letter}
use Rattle.machine.specs.Partitions.{nobody, fresh}
use Rattle.machine.specs.Questions.{exists, link, channel_of, channel, same_kind, port, owns}
use Rattle.machine.specs.State.{Core, with_clock, with_parts, with_chan, with_log, with_halted, modify}
use Rattle.machine.specs.Time.{timed, clock_of}
use Rattle.machine.specs.Faults.{logged, restarted}
use Rattle.machine.specs.Management.{arg}
use Rattle.machine.specs.Ports.{usable, sendable, letter, queue, left, posted}
use Rattle.machine.specs.Interrupts.{raised}
use Rattle.machine.specs.Step.{later, boot}
use Rattle.machine.specs.Laws.{room_of, room, longest, Sized, PlansThere}
use Rattle.machine.proofs.Calm.{Soothes, AllCalm, calm-begun, calm-fresh, calm-ready, calm-place, calm-modify, calm-raised, calm-alerted, soothing, set-each, replicate-each}
use Rattle.machine.proofs.Kept.{Kept, none_kept, rest-kept, later-kept, over-kept}
use Rattle.machine.proofs.Passing.{micros-calm, micros-later, micros-there}

-- what a channel may hold
abbrev Holds : Tables → ℕ → List Letter → Type 0
Holds k c ms = (length ms ≤ room k c) × Sized (longest k c) ms

pub record Sane (k : Tables) (x : Core) : Type 0 where
  pub plans : 1 ≤ k.plans.count → PlansThere k x
  pub parts : AllCalm k x.parts
  pub log : Kept x.clock.time x.log
  pub chans : (c : ℕ) → Holds k c (get_or x.chans c [])

empty_holds : (k : Tables) (c : ℕ) → Holds k c (get_or (replicate 8 []) c [])
empty_holds k c = replicate-each (Holds k c) [] [] 8 c (omega arith, tt) (λ _. (omega arith, tt))

-- the messages that are left, and one more
rest-holds : (k : Tables) (c : ℕ) (ms : List Letter) → Holds k c ms → Holds k c (rest ms)
rest-holds k c [] h = h
rest-holds k c (m ∷ ms) h = (let l = h.0 in omega arith, h.1.1)

sized-push : (n : ℕ) (ms : List Letter) (m : Letter) → 1 ≤ length m.bytes → length m.bytes ≤ n → Sized n ms → Sized n (ms ++ m ∷ [])
sized-push n [] m h l r = ((h, l), tt)
sized-push n (x ∷ xs) m h l r = (r.0, sized-push n xs m h l r.1)

-- room for a message on a port's channel
room_sampling : (t : ChannelKind) (d : ℕ) → same_kind t Sampling ≡ true → 1 ≤ room_of t d
room_sampling Sampling d e = omega arith
room_sampling Queuing d e = absurd (both_ways false refl e)

room-queuing : (t : ChannelKind) (d n : ℕ) → same_kind t Queuing ≡ true → n < d → suc n ≤ room_of t d
room-queuing Sampling d n e l = absurd (both_ways false refl e)
room-queuing Queuing d n e l = omega arith

-- a port that is used is of the type that was asked for
kind_of_lem : (k : Tables) (x : Core) (q : ℕ) (t : ChannelKind) (i : ℕ) (b : Bool) → (usable k x q t i && b) ≡ true →
    same_kind (channel k i).kind t ≡ true
kind_of_lem k x q t i b e =
    let u = and_parts (owns k q t i) _ (and_parts (usable k x q t i) b e).0 in
    (and_parts (eqb (port k i).partition q) _ (and_parts (ltb i k.ports.count) _ u.0).1).1

-- a message that may be sent has 1 byte to the longest
letter-sized : (k : Tables) (x : Core) (a : List ℕ) (q : ℕ) (t : ChannelKind) (g : List ℕ) →
    (usable k x q t (arg g 0) && sendable k a g) ≡ true →
    (1 ≤ length (letter x a g).bytes) × (length (letter x a g).bytes ≤ (channel k (arg g 0)).longest)
letter-sized k x a q t g e =
    let s = (and_parts (usable k x q t (arg g 0)) (sendable k a g) e).1 in
    let u = and_parts (leb 1 (arg g 2) && leb (arg g 2) (channel k (arg g 0)).longest) (ranged a (arg g 1) (arg g 2)) s in
    let v = and_parts (leb 1 (arg g 2)) (leb (arg g 2) (channel k (arg g 0)).longest) u.0 in
    let m = leb-true 1 (arg g 2) v.0 in
    let n = leb-true (arg g 2) (channel k (arg g 0)).longest v.1 in
    let o = leb-true (arg g 1 + arg g 2) (length a) u.1 in
    let z = length-take (arg g 2) (drop (arg g 1) a) in
    let y = length-drop (arg g 1) a in
    (omega arith, omega arith)

module _ (k : Tables) where
  -- another plan to come
  pub sane_clock : {x : Core} → Sane k x → (n : ℕ) → ltb n k.plans.count ≡ true →
      Sane k (with_clock x (clock_of x.clock.time x.clock.plan n x.clock.start))
  sane_clock r n h = record { plans = λ l. ((r.plans l).0, ltb-true _ _ h); parts = r.parts; log = r.log; chans = r.chans }

  pub sane_halted : {x : Core} → Sane k x → (b : Bool) → Sane k (with_halted x b)
  sane_halted r b = record { plans = r.plans; parts = r.parts; log = r.log; chans = r.chans }

  sane_parts : {x : Core} {ps : List Partition} → Sane k x → AllCalm k ps → Sane k (with_parts x ps)
  sane_parts r h = record { plans = r.plans; parts = h; log = r.log; chans = r.chans }

  pub sane_modify : {x : Core} → Sane k x → (i : ℕ) (f : Partition → Partition) → Soothes k i f → Sane k (with_parts x (modify x.parts i f))
  sane_modify r i f h = sane_parts r (calm-modify k r.parts i f h)

  -- the partition on the processor stays READY, and opens no port
  pub sane_ready : (x : Core) (i : ℕ) (f : Partition → Partition) → exists k i ≡ true →
      (f (get_or x.parts i nobody)).status ≡ Ready → (f (get_or x.parts i nobody)).ports ≡ (get_or x.parts i nobody).ports →
      Sane k x → Sane k (with_parts x (modify x.parts i f))
  sane_ready x i f t s o r = sane_parts r (calm-place k r.parts i (calm-ready k i (λ _. t) (r.parts.at i) o s))

  pub sane_fresh : {x : Core} → Sane k x → (i : ℕ) → Sane k (with_parts x (set x.parts i fresh))
  sane_fresh r i = sane_parts r (calm-place k r.parts i (calm-fresh k i))

  pub sane_raised : {x : Core} → Sane k x → (q n bits m : ℕ) → Sane k (with_parts x (raised (link k q n) bits m x.parts))
  sane_raised r q n bits m = sane_parts r (calm-raised k q n bits m r.parts)

  sane_log : {x : Core} {es : List Entry} → Sane k x → Kept x.clock.time es → Sane k (with_log x es)
  sane_log r h = record { plans = r.plans; parts = r.parts; log = h; chans = r.chans }

  sane_chan : {x : Core} → Sane k x → (c : ℕ) (ms : List Letter) → Holds k c ms → Sane k (with_chan x c ms)
  sane_chan {x} r c ms h =
      record { plans = r.plans; parts = r.parts; log = r.log; chans = λ d. set-each (Holds k) [] x.chans c d ms h (r.chans d) }

  pub boot_sane : (ms : List Area) → Sane k (boot k ms).core
  boot_sane ms = record { plans = λ l. (omega arith, omega arith); parts = calm-begun k; log = none_kept; chans = empty_holds k }

  module _ (x : Core) where
    pub later_sane : (n : ℕ) → Sane k x → Sane k (later k n x)
    later_sane n r =
        let t = timed x.clock x.parts in
        record {
          plans = λ l. micros-there k.plans n t (r.plans l);
          parts = micros-calm k k.plans n t r.parts;
          log = later-kept _ (micros-later k.plans n t) r.log;
          chans = r.chans;
        }

    -- faults, resets and the log's reader
    pub logged_sane : (c : Scope) (e : ℕ) (f : Response) → Sane k x → Sane k (logged c e f x)
    logged_sane c e f r =
        cond_both f.log _ _ (Sane k) (λ _. sane_log r (over-kept x.clock.time x.log _ refl r.log)) (λ _. r)

    pub restarted_sane : Sane k x → Sane k (restarted x)
    restarted_sane r = record { plans = λ l. (omega arith, omega arith); parts = calm-begun k; log = r.log; chans = empty_holds k }

    pub emptied_sane : Sane k x → Sane k (with_log (restarted x) [])
    emptied_sane r = sane_log (restarted_sane r) none_kept

    pub read_sane : Sane k x → Sane k (with_log x (rest x.log))
    read_sane r = sane_log r (rest-kept x.log r.log)

    -- messages
    pub left_sane : (i : ℕ) → Sane k x → Sane k (with_chan x (channel_of k i) (left k x i))
    left_sane i r = sane_chan r (channel_of k i) (left k x i) (rest-holds k (channel_of k i) (queue k x i) (r.chans (channel_of k i)))

    posted_sane : (c : ℕ) (ms : List Letter) → Holds k c ms → Sane k x → Sane k (posted k x c ms)
    posted_sane c ms h r = sane_parts (sane_chan r c ms h) (calm-alerted k c k.ports.count (omega arith) r.parts)

    module _ (a : List ℕ) (q : ℕ) (g : List ℕ) where
      pub written_sane : (usable k x q Sampling (arg g 0) && sendable k a g) ≡ true → Sane k x → Sane k (posted k x (channel_of k (arg g 0)) (letter x a g ∷ []))
      written_sane e =
          posted_sane (channel_of k (arg g 0)) _ (room_sampling _ _ (kind_of_lem k x q Sampling (arg g 0) _ e), (letter-sized k x a q Sampling g e, tt))

      pub sent_sane : (usable k x q Queuing (arg g 0) && sendable k a g) ≡ true →
          ltb (length (queue k x (arg g 0))) (channel k (arg g 0)).depth ≡ true → Sane k x →
          Sane k (posted k x (channel_of k (arg g 0)) (queue k x (arg g 0) ++ (letter x a g ∷ [])))
      sent_sane e l r =
          let ms = queue k x (arg g 0) in
          let n = room-queuing (channel k (arg g 0)).kind (channel k (arg g 0)).depth (length ms) (kind_of_lem k x q Queuing (arg g 0) _ e) (ltb-true _ _ l) in
          let z = letter-sized k x a q Queuing g e in
          posted_sane (channel_of k (arg g 0)) (ms ++ (letter x a g ∷ []))
          (omega (arith, length-append ms (letter x a g ∷ [])), sized-push _ ms (letter x a g) z.0 z.1 (r.chans (channel_of k (arg g 0))).1)
          r

pub ruleset sane =
    (sane_clock, sane_halted, sane_modify, sane_fresh, sane_raised, soothing, restarted_sane, emptied_sane, read_sane, left_sane, written_sane, sent_sane)
