-- The calls on ports and channels.
use Rattle.std.proofs.Common.{◌≡◌, ℕ, zero, suc, ◌<◌, ◌≤◌, Bool, true, false, cond, ◌&&◌, eqb, ltb, List, [], ◌∷◌, ◌++◌, length, pos, Some, None, Option, sym, refl, ap, ◌∙◌, subst, ap₂, inl, inr, arith}
use Rattle.std.proofs.lemmas.Bool.{both_ways, and_parts, not-true, eqb-true, ltb-true, cases_Bool}
use Rattle.board.specs.Areas.{part, ranged}
use Rattle.queue.specs.Ring.{first, rest}
use Rattle.tables.specs.declared.Tables.{Tables}
use Rattle.tables.specs.declared.channel.ChannelKind.{ChannelKind}
use Rattle.tables.specs.declared.channel.ChannelKind.TheVariants.{Sampling, Queuing}
use Rattle.machine.specs.declared.clock.Clock.{Clock}
use Rattle.machine.specs.declared.partition.Partition.{Partition}
use Rattle.machine.specs.declared.answer.Refusal.TheVariants.{InvalidParam}
use Rattle.machine.specs.Answers.{reply}
use Rattle.machine.specs.Letters.{Letter}
use Rattle.machine.specs.Partitions.{nobody, is_open, signalled}
use Rattle.machine.specs.Questions.{channel_of, channel, same_kind, owns, hears}
use Rattle.machine.specs.State.{Core, Out, keeps, guard, refused}
use Rattle.machine.specs.Management.{arg}
use Rattle.machine.specs.Ports.{message_bit, sought, create_at, create, usable, queue, alert, alerted, sendable, letter, posted, write_sampling_message, send_queuing_message, receiving, holds, sampled, read_sampling_message, taken, receive_queuing_message, get_queuing_status}
use Rattle.machine.specs.Circle.{port_owner, is_source_port}
use Rattle.machine.proofs.Agree.{Agree, agree_refl, agree_trans, agree_put}
use Rattle.machine.proofs.Alike.{Alike, Matched, Quiet, alike_refl, alike_parts, alike_chan, chan_out, parts_out, matched_guard, matched_same, matched_told, quiet_guard, quiet_core, agree_modify, within, without}
use Rattle.machine.proofs.Sealed.{Sealed}
use Rattle.machine.proofs.Respects.{Respects}

contrary : (a b : Bool) → (a ≡ true → b ≡ true) → b ≡ false → a ≡ false
contrary true b f e = absurd (both_ways b e (f refl))
contrary false b f e = refl

-- an owned port, by its parts
record Owned (k : Tables) (q : ℕ) (t : ChannelKind) (i : ℕ) : Type 0 where
  below : i < k.ports.count
  by : port_owner k i ≡ q
  kind : same_kind (channel k i).kind t ≡ true

owned : (k : Tables) (q : ℕ) (t : ChannelKind) (i : ℕ) → owns k q t i ≡ true → Owned k q t i
owned k q t i e =
    let u = and_parts (ltb i k.ports.count) _ e in
    let v = and_parts (eqb (port_owner k i) q) _ u.1 in
    record { below = ltb-true _ _ u.0; by = eqb-true _ _ v.0; kind = v.1 }

module _ (k : Tables) (M C : ℕ → Bool) (q : ℕ) where
  usable_alike : (t : ChannelKind) (i : ℕ) (b : Bool) → M q ≡ true → (x y : Core) → Alike M C x y →
      (usable k x q t i && b) ≡ (usable k y q t i && b)
  usable_alike t i b m x y r = ap (λ (p : Partition). (owns k q t i && is_open i p) && b) (r.parts.at q m)

  held : (t : ChannelKind) (i : ℕ) (x : Core) (b : Bool) → (usable k x q t i && b) ≡ true → Owned k q t i
  held t i x b e = owned k q t i (and_parts (owns k q t i) _ (and_parts (usable k x q t i) b e).0).0

  -- a call that moves a message: a test b of its range beside the port's, and what a source port gives and what another
  abbrev moving : ChannelKind → Bool → Core → ℕ → Out → Out → Out
  moving t b x i u v = guard (usable k x q t i && b) (guard (is_source_port k i) u v) (refused x InvalidParam)

  moving_matched : (t : ChannelKind) (b : Bool) (x y : Core) (i : ℕ) (u u' v v' : Out) → M q ≡ true → Alike M C x y →
      (Owned k q t i → is_source_port k i ≡ true → Matched k M C q u u') →
      (Owned k q t i → is_source_port k i ≡ false → Matched k M C q v v') →
      Matched k M C q (moving t b x i u v) (moving t b y i u' v')
  moving_matched t b x y i u u' v v' m r f g =
      matched_guard k M C q (usable k x q t i && b) _ (usable_alike t i b m x y r)
      (λ e. let h = held t i x b e in matched_guard k M C q (is_source_port k i) _ refl (f h) (g h))
      (λ _. matched_same k M C q keeps _ r)

  moving_quiet : (t : ChannelKind) (b : Bool) (x : Core) (i : ℕ) (u v : Out) →
      (Owned k q t i → is_source_port k i ≡ true → Quiet M C x u) →
      (Owned k q t i → is_source_port k i ≡ false → Quiet M C x v) → Quiet M C x (moving t b x i u v)
  moving_quiet t b x i u v f g =
      quiet_guard M C x (usable k x q t i && b)
      (λ e. let h = held t i x b e in quiet_guard M C x (is_source_port k i) (f h) (g h))
      (λ _. quiet_core M C x _ (alike_refl M C x))

  create_at_matched : (o : Option ℕ) (t : ChannelKind) (x y : Core) (g : List ℕ) → M q ≡ true → Alike M C x y →
      Matched k M C q (create_at o t k x q g) (create_at o t k y q g)
  create_at_matched None t x y g m r = search within
  create_at_matched (Some i) t x y g m r = let e = ap (is_open i) (r.parts.at q m) in search within depth 8

  create_at_quiet : (o : Option ℕ) (t : ChannelKind) (x : Core) (g : List ℕ) → M q ≡ false → Quiet M C x (create_at o t k x q g)
  create_at_quiet None t x g o = search without
  create_at_quiet (Some i) t x g o = search without depth 8

  sampled_matched : (o : Option Letter) (x y : Core) (a g : List ℕ) → Alike M C x y → Matched k M C q (sampled x a g o) (sampled y a g o)
  sampled_matched None x y a g r = search within
  sampled_matched (Some m) x y a g r = search within

  sampled_quiet : (o : Option Letter) (x : Core) (a g : List ℕ) → Quiet M C x (sampled x a g o)
  sampled_quiet None x a g = search without
  sampled_quiet (Some m) x a g = search without

  taken_matched : (o : Option Letter) (x y : Core) (a g : List ℕ) → Alike M C x y → queue k x (arg g 0) ≡ queue k y (arg g 0) →
      Matched k M C q (taken k x a g o) (taken k y a g o)
  taken_matched None x y a g r e = search within
  taken_matched (Some m) x y a g r e =
      matched_guard k M C q (holds g m) _ refl
      (λ _. matched_told k M C q (alike_chan M C r (channel_of k (arg g 0)) (ap rest e)) refl
      (ap (λ (ms : List Letter). reply (pos (length m.bytes)) m.time (length (rest ms))) e))
      (λ _. matched_same k M C q keeps _ r)

  taken_quiet : (o : Option Letter) (x : Core) (a g : List ℕ) → C (channel_of k (arg g 0)) ≡ false → Quiet M C x (taken k x a g o)
  taken_quiet None x a g o = search without
  taken_quiet (Some m) x a g o = search without depth 8

module _ (k : Tables) (M C : ℕ → Bool) (w : Sealed k M C) where
  -- what a member sends on a queue, or reads, it sees
  sent_seen : (q i : ℕ) → M q ≡ true → Owned k q Queuing i → is_source_port k i ≡ true → C (channel_of k i) ≡ true
  sent_seen q i m h s = w.felt i h.below s h.kind (ap M h.by ∙ m)

  read-seen : (q i : ℕ) (t : ChannelKind) → M q ≡ true → Owned k q t i → is_source_port k i ≡ false → C (channel_of k i) ≡ true
  read-seen q i t m h d = w.heard i h.below d (ap M h.by ∙ m)

  -- an outsider's source port leads to a channel that no member sees, and so does its destination port on a queue
  mute : (q i : ℕ) (t : ChannelKind) → M q ≡ false → Owned k q t i → is_source_port k i ≡ true → C (channel_of k i) ≡ false
  mute q i t o h s = contrary _ _ (w.told i h.below s) (ap M h.by ∙ o)

  deaf : (q i : ℕ) → M q ≡ false → Owned k q Queuing i → is_source_port k i ≡ false → C (channel_of k i) ≡ false
  deaf q i o h d = contrary _ _ (w.taken i h.below d h.kind) (ap M h.by ∙ o)

  agree_alerted : (c n : ℕ) {ps rs : List Partition} → Agree M nobody ps rs → Agree M nobody (alerted k c n ps) (alerted k c n rs)
  unfolding alerted
  agree_alerted c zero r = r
  agree_alerted c (suc n) r = agree_modify M C (agree_alerted c n r) (port_owner k n) (alert k c n)

  -- a member does not hear of a channel that no member sees
  unheard : (c i : ℕ) (p : Partition) → i < k.ports.count → C c ≡ false → M (port_owner k i) ≡ true → alert k c i p ≡ p
  unheard c i p b o m = go (hears k c i && is_open i p) refl
    where
      go : (b : Bool) → (hears k c i && is_open i p) ≡ b → cond b (signalled message_bit p) p ≡ p
      go true e =
          let h = and_parts (eqb (channel_of k i) c) _ (and_parts (hears k c i) _ e).0 in
          absurd (both_ways (C c) o (ap C (sym (eqb-true (channel_of k i) c h.0)) ∙ w.heard i b (not-true _ h.1) m))
      go false e = refl

  alerted-out : (c n : ℕ) (ps : List Partition) → n ≤ k.ports.count → C c ≡ false → Agree M nobody ps (alerted k c n ps)
  unfolding alerted
  alerted-out c zero ps b o = agree_refl M nobody ps
  alerted-out c (suc n) ps b o =
      agree_trans M nobody (alerted-out c n ps (omega arith) o)
      (agree_put M nobody (alerted k c n ps) (port_owner k n) _ (λ m. unheard c n _ (omega arith) o m))

  posted_alike : (c : ℕ) (x y : Core) {ms ns : List Letter} → Alike M C x y → ms ≡ ns → Alike M C (posted k x c ms) (posted k y c ns)
  posted_alike c x y r e = alike_parts M C (alike_chan M C r c e) (agree_alerted c k.ports.count r.parts)

  posted-out : (c : ℕ) (x : Core) (ms : List Letter) → C c ≡ false → Alike M C x (posted k x c ms)
  posted-out c x ms o = parts_out M C (chan_out M C (alike_refl M C x) c ms o) (alerted-out c k.ports.count x.parts (omega arith) o)

  letter_alike : (x y : Core) (a g : List ℕ) → Alike M C x y → letter x a g ≡ letter y a g
  letter_alike x y a g r = ap (λ (c : Clock). record { bytes = part a (arg g 1) (arg g 2); time = c.time }) r.clock

  pub create_respects : (t : ChannelKind) → Respects k M C (create t)
  create_respects t =
      record {
        inside = λ q m x y a g r. create_at_matched k M C q (sought k a q t g) t x y g m r;
        outside = λ q o h x a g. create_at_quiet k M C q (sought k a q t g) t x g o;
      }

  pub write_sampling_message_respects : Respects k M C write_sampling_message
  write_sampling_message_respects =
      record {
        inside = λ q m x y a g r.
            moving_matched k M C q Sampling (sendable k a g) x y (arg g 0) _ _ _ _ m r
            (λ h s. matched_same k M C q keeps _
            (posted_alike (channel_of k (arg g 0)) x y r (ap (λ l. l ∷ []) (letter_alike x y a g r))))
            (λ h d. matched_same k M C q keeps _ r);
        outside = λ q o h x a g.
            moving_quiet k M C q Sampling (sendable k a g) x (arg g 0) _ _
            (λ h s. quiet_core M C x _ (posted-out (channel_of k (arg g 0)) x _ (mute q (arg g 0) Sampling o h s)))
            (λ h d. quiet_core M C x _ (alike_refl M C x));
      }

  pub send_queuing_message_respects : Respects k M C send_queuing_message
  send_queuing_message_respects =
      record {
        inside = λ q m x y a g r.
            moving_matched k M C q Queuing (sendable k a g) x y (arg g 0) _ _ _ _ m r
            (λ h s.
            let c = r.chans.at (channel_of k (arg g 0)) (sent_seen q (arg g 0) m h s) in
            matched_guard k M C q _ _ (ap (λ (ms : List Letter). ltb (length ms) (channel k (arg g 0)).depth) c)
            (λ _. matched_same k M C q keeps _
            (posted_alike (channel_of k (arg g 0)) x y r (ap₂ (λ (ms : List Letter) l. ms ++ (l ∷ [])) c (letter_alike x y a g r))))
            (λ _. matched_same k M C q keeps _ r))
            (λ h d. matched_same k M C q keeps _ r);
        outside = λ q o h x a g.
            moving_quiet k M C q Queuing (sendable k a g) x (arg g 0) _ _
            (λ h s. quiet_guard M C x (ltb (length (queue k x (arg g 0))) (channel k (arg g 0)).depth)
            (λ _. quiet_core M C x _ (posted-out (channel_of k (arg g 0)) x _ (mute q (arg g 0) Queuing o h s)))
            (λ _. quiet_core M C x _ (alike_refl M C x)))
            (λ h d. quiet_core M C x _ (alike_refl M C x));
      }

  -- a call that receives by f: what it does depends on the channel alone, which a member that reads sees
  receipt_respects : (t : ChannelKind) (f : Tables → Core → List ℕ → List ℕ → Option Letter → Out) →
      ((q : ℕ) (l : Option Letter) (x y : Core) (a g : List ℕ) → Alike M C x y → queue k x (arg g 0) ≡ queue k y (arg g 0) →
      Matched k M C q (f k x a g l) (f k y a g l)) →
      ((q : ℕ) (l : Option Letter) (x : Core) (a g : List ℕ) → M q ≡ false → Owned k q t (arg g 0) → is_source_port k (arg g 0) ≡ false →
      Quiet M C x (f k x a g l)) →
      Respects k M C (λ k x a q g. receiving t k x a q g (f k x a g (first (queue k x (arg g 0)))))
  receipt_respects t f i o =
      record {
        inside = λ q m x y a g r.
            moving_matched k M C q t (ranged a (arg g 1) (arg g 2)) x y (arg g 0) _ _ _ _ m r
            (λ h s. matched_same k M C q keeps _ r)
            (λ h d.
            let c = r.chans.at (channel_of k (arg g 0)) (read-seen q (arg g 0) t m h d) in
            subst (λ ms. Matched k M C q (f k x a g (first (queue k x (arg g 0)))) (f k y a g (first ms))) c
            (i q (first (queue k x (arg g 0))) x y a g r c));
        outside = λ q n h x a g.
            moving_quiet k M C q t (ranged a (arg g 1) (arg g 2)) x (arg g 0) _ _
            (λ h s. quiet_core M C x _ (alike_refl M C x))
            (o q (first (queue k x (arg g 0))) x a g n);
      }

  pub read_sampling_message_respects : Respects k M C read_sampling_message
  read_sampling_message_respects =
      receipt_respects Sampling (λ _. sampled)
      (λ q l x y a g r c. sampled_matched k M C q l x y a g r)
      (λ q l x a g o h d. sampled_quiet k M C q l x a g)

  pub receive_queuing_message_respects : Respects k M C receive_queuing_message
  receive_queuing_message_respects =
      receipt_respects Queuing taken
      (λ q l x y a g r c. taken_matched k M C q l x y a g r c)
      (λ q l x a g o h d. taken_quiet k M C q l x a g (deaf q (arg g 0) o h d))

  -- a member sees the queuing channel of its port, of either direction
  waits_seen : (q i : ℕ) → M q ≡ true → Owned k q Queuing i → C (channel_of k i) ≡ true
  waits_seen q i m h =
      elim (cases_Bool (is_source_port k i)) [ inl s ↦ sent_seen q i m h s | inr d ↦ read-seen q i Queuing m h d ]

  pub get_queuing_status_respects : Respects k M C get_queuing_status
  get_queuing_status_respects =
      record {
        inside = λ q m x y a g r.
            matched_guard k M C q (usable k x q Queuing (arg g 0)) _
            (ap (λ (p : Partition). owns k q Queuing (arg g 0) && is_open (arg g 0) p) (r.parts.at q m))
            (λ e. matched_told k M C q r refl
            (ap (λ (ms : List Letter). reply (pos 0) (length ms) 0)
            (r.chans.at (channel_of k (arg g 0)) (waits_seen q (arg g 0) m (owned k q Queuing (arg g 0) (and_parts (owns k q Queuing (arg g 0)) _ e).0)))))
            (λ _. matched_same k M C q keeps _ r);
        outside = λ q o h x a g. search without;
      }
