-- The records are answered one by one.
use Rattle.std.proofs.Common.{◌≡◌, ℕ, suc, ◌+◌, ◌-◌, ◌*◌, ◌<◌, ◌≤◌, Bool, true, false, cond, List, [], ◌++◌, length, take, drop, Some, None, Option, sym, ap, ◌∙◌, ap₂, arith, le-leb, nat_eq, true-eqb}
use borrow.Author.Tests.{lt-leb}
use Rattle.std.proofs.lemmas.List.{take_all, take-append-drop, nil_from_length}
use Rattle.tables.specs.declared.Tables.{Tables}
use Rattle.machine.specs.declared.event.Event.{Event}
use Rattle.machine.specs.declared.answer.Reply.{Reply}
use Rattle.machine.specs.State.{State}
use Rattle.machine.specs.Step.{step}
use Rattle.machine.specs.Runs.{after, lines}
use Rattle.kernel.specs.World.{World, Moved, gives, stepped}
use Rattle.events.specs.Records.{first, beyond}
use Rattle.entrance.specs.Encoding.{answer_bytes, bytes_of, encoded, laid, put}
use Rattle.entrance.specs.Session.{Read, before, read_after, read_of, room_in, Ending, answered, answered, malformed, full, records_end, taken, written, reached}
use Rattle.entrance.proofs.Putting.{put_on}
use Rattle.entrance.proofs.Reading.{read-then}

abbrev told : Tables → State → List Event → List ℕ
told k s es = encoded (lines k s es)

-- From the world z, `count` of the records have brought it to the world w, their answers standing in `new`.
-- What is left of the records gives what the whole gives.
pub record Underway (z : World) (records old : List ℕ) (w : World) (rest new : List ℕ) (count : ℕ) : Type 0 where
  pub tables : w.tables ≡ z.tables
  pub fits : count ≤ room_in old
  pub whole : (read_of rest).whole ≡ (read_of records).whole
  pub counts : count + length (read_of rest).events ≡ length (read_of records).events
  pub bytes : take (answer_bytes * count) new ++ laid (told z.tables w.state (take (room_in old - count) (read_of rest).events)) (drop (answer_bytes * count) new) ≡ written z (read_of records) old
  pub state : after z.tables w.state (take (room_in old - count) (read_of rest).events) ≡ after z.tables z.state (taken (read_of records) old)

module _ (z : World) (records old : List ℕ) (w : World) (rest new : List ℕ) (count : ℕ) (u : Underway z records old w rest new count) where
  pub onward : (v : World) (rest' new' : List ℕ) (e : Event) (r : Reply) → count < room_in old → answer_bytes * count + answer_bytes ≤ length new → false ≡ nat_eq (length rest) 0 →
      first rest ≡ Some e → rest' ≡ beyond 4 rest → gives v r ≡ stepped e w → new' ≡ put (answer_bytes * count) (bytes_of r) new → Underway z records old v rest' new' (count + 1)
  unfolding encoded lines after
  onward v rest' new' e r h i l f b g p =
      let k = z.tables in
      let s : v.state ≡ (step k w.state e).state =
      ap (λ (m : Moved). m.result.state) g ∙ ap (λ (k : Tables). (step k w.state e).state) u.tables in
      let a : r ≡ (step k w.state e).reply =
      ap (λ (m : Moved). m.result.reply) g ∙ ap (λ (k : Tables). (step k w.state e).reply) u.tables in
      let q : read_of rest ≡ before (Some e) (read_of rest') = read-then rest l ∙ ap₂ before f (ap read_of (sym b)) in
      let left = room_in old - (count + 1) in
      let n : room_in old - count ≡ suc left = omega arith in
      let es = take left (read_of rest').events in
      let m : answer_bytes * (count + 1) ≡ answer_bytes * count + answer_bytes = omega arith in
      record {
        tables = ap (λ (m : Moved). m.tables) g ∙ u.tables;
        fits = omega arith;
        whole = sym (ap (λ (q : Read). q.whole) q) ∙ u.whole;
        counts = omega (arith, ap (λ (q : Read). length q.events) q, u.counts);
        bytes =
            ap₂ (λ (n : ℕ) (x : List ℕ). take n x ++ laid (told k v.state es) (drop n x)) m p
            ∙ (put_on (answer_bytes * count) (bytes_of r) (told k v.state es) new i
            ∙ (ap₂ (λ (p : Reply) (s : State). take (answer_bytes * count) new ++ laid (bytes_of p ++ told k s es) (drop (answer_bytes * count) new)) a s
            ∙ (ap₂ (λ (n : ℕ) (q : Read). take (answer_bytes * count) new ++ laid (told k w.state (take n q.events)) (drop (answer_bytes * count) new)) (sym n) (sym q)
            ∙ u.bytes)));
        state =
            ap (λ (x : State). after k x es) s
            ∙ (ap₂ (λ (n : ℕ) (q : Read). after k w.state (take n q.events)) (sym n) (sym q)
            ∙ u.state);
      }

  -- with no event left, the bytes and the world stand
  abbrev Stands : Type 0
  Stands = (new ≡ written z (read_of records) old) × (w ≡ reached z (read_of records) old)

  stands : take (room_in old - count) (read_of rest).events ≡ [] → Stands
  unfolding encoded lines after
  stands e = (
    sym (take-append-drop (answer_bytes * count) new)
        ∙ (ap (λ (es : List Event). take (answer_bytes * count) new ++ laid (told z.tables w.state es) (drop (answer_bytes * count) new)) (sym e)
        ∙ u.bytes),
    ap₂ (λ (k : Tables) (x : State). record { tables = k; state = x }) u.tables (ap (after z.tables w.state) (sym e) ∙ u.state),
  )

  -- how the records end, the bytes and the world
  pub record Ends (e : Ending) : Type 0 where
    pub ending : e ≡ records_end (read_of records) (room_in old)
    pub bytes : new ≡ written z (read_of records) old
    pub world : w ≡ reached z (read_of records) old

  -- .. so it is where no event is left to read, whole or not
  none_left : (b : Bool) → read_of rest ≡ record { events = []; whole = b } → Ends (cond b (answered count) malformed)
  none_left b q =
      let y : (read_of records).whole ≡ b = sym u.whole ∙ ap (λ (q : Read). q.whole) q in
      let n : length (read_of records).events ≡ count = omega (arith, ap (λ (q : Read). length q.events) q, u.counts) in
      let t = le-leb count (room_in old) u.fits in
      let s = stands (ap (λ (q : Read). take (room_in old - count) q.events) q ∙ take_all (room_in old - count) [] (omega arith)) in
      record { ending = rw (y, n, t); bytes = s.0; world = s.1 }

  pub over : true ≡ nat_eq (length rest) 0 → Ends (answered count)
  unfolding read_after
  over l = none_left true (ap read_of (nil_from_length rest (true-eqb (length rest) 0 l)))

  pub cut_short : false ≡ nat_eq (length rest) 0 → first rest ≡ None → Ends malformed
  cut_short l f = none_left false (read-then rest l ∙ ap (λ (o : Option Event). before o (read_of (beyond 4 rest))) f)

  pub no_room : (e : Event) → false ≡ nat_eq (length rest) 0 → first rest ≡ Some e → count ≡ room_in old → Ends full
  no_room e l f h =
      let q = read-then rest l ∙ ap (λ (o : Option Event). before o (read_of (beyond 4 rest))) f in
      let n : room_in old < length (read_of records).events = omega (arith, ap (λ (q : Read). length q.events) q, u.counts) in
      let t = lt-leb (length (read_of records).events) (room_in old) n in
      let m : room_in old - count ≡ 0 = omega arith in
      let b = stands (ap (λ (n : ℕ). take n (read_of rest).events) m) in
      record { ending = rw t; bytes = b.0; world = b.1 }
