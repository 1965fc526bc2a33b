-- A record that is in turn finds its rows, and leaves room for the next.
use Rattle.std.proofs.Common.{◌≡◌, ℕ, ◌+◌, ◌-◌, ◌<◌, ◌≤◌, true, false, get_or, set, is_some, Some, None, Option, refl, ap, subst, arith}
use Rattle.std.proofs.lemmas.Bool.{and_parts, leb-true, ltb-true, false≢true, true≢false}
use Rattle.tables.specs.Blank.{channel0}
use Rattle.vector.specs.Bodies.{Said, header, partition, plan, slot, channel, port, ipvi, line, action}
use Rattle.tables.specs.Rows.{channel_with, open_channel, ported}
use Rattle.vector.specs.Turns.{follows, ready, in_turn}
use Rattle.tables.specs.Events.{InScope}
use Rattle.vector.specs.Joins.{Ready}
use Rattle.vector.specs.Ranges.{EventIn}
use Rattle.vector.specs.Rooms.{Promised, Ported, Room}
use Rattle.vector.specs.declared.given.Given.{Given}
use Rattle.tables.specs.declared.Tables.{Tables}
use Rattle.tables.specs.Tables.{Channels, Ports}
use Rattle.vector.specs.declared.kind.Kind.{Kind}
use Rattle.vector.specs.declared.kind.Kind.TheVariants.{Header, Partition, Plan, Slot, Channel, Port, Ipvi, Line, Action}
use Rattle.tables.specs.declared.response.Scope.{Scope}
use Rattle.tables.specs.declared.response.Scope.TheVariants as scopes
use Rattle.vector.specs.declared.sofar.Sofar.{Sofar}
use Rattle.tables.specs.declared.channel.Channel as channels
use Rattle.tables.proofs.Lists.{replaced}
use Rattle.vector.proofs.Told.{Told}
use Rattle.vector.proofs.Joined.{after, Related}

-- the header comes before anything is promised
pub first-none : (l : Option Kind) → follows Header l ≡ true → is_some l ≡ false
first-none None f = refl
first-none (Some k) f = absurd (false≢true f)

pub in_scope : (n : ℕ) (c : Scope) (e : ℕ) → n ≤ 8 → EventIn n c e → InScope c e
in_scope n (scopes.Partition p) e h w = (omega arith, omega arith)
in_scope n scopes.System e h w = (w.0, omega arith)

module _ (s : Sofar) where
  pub in_turn_lem : (j k : Kind) → j ≡ k → in_turn j s ≡ true → (follows k s.last ≡ true) × (ready k s ≡ true)
  in_turn_lem j k e t = and_parts _ _ (subst (λ k. in_turn k s ≡ true) e t)

  pub ready_for : (k : Kind) (x : Said) → Room s → in_turn k s ≡ true → Told k s x → Ready s x
  ready_for k (header n m) f t x = tt
  ready_for k (partition c z n) f t x =
      let a : s.tables.partitions.count < s.partitions = ltb-true _ _ (in_turn_lem k Partition x.0 t).1 in
      (omega arith, x.1.1.1)
  ready_for k (plan g) f t x =
      let a : s.tables.plans.count < s.plans = ltb-true _ _ (and_parts _ _ (in_turn_lem k Plan x.0 t).1).1 in
      omega arith
  ready_for k (slot p b d) f t x =
      let a : 1 ≤ s.tables.plans.count = leb-true _ _ (in_turn_lem k Slot x.0 t).1 in
      (a, omega arith)
  ready_for k (channel c l d) f t x = tt
  ready_for k (port p d n) f t x = (leb-true _ _ (in_turn_lem k Port x.0 t).1, f.ported.few, f.ported.within (s.tables.channels.count - 1), x.1.2.1)
  ready_for k (ipvi n p m) f t x = (omega arith, omega arith)
  ready_for k (line l p) f t x = omega arith
  ready_for k (action c e a l) f t x = in_scope s.partitions c e f.promised.partitions x.1.0

  -- a record that is not the header leaves what was promised
  still : (k : Kind) (g : Given) (t : Tables) → Promised s → Promised (record s { last = Some k; given = g; tables = t })
  still k g t f = record { partitions = f.partitions; plans = f.plans; none = λ e. absurd (true≢false e) }

  -- one that adds no partition, plan, channel or port leaves the room
  room_still : (k : Kind) (g : Given) (t : Tables) →
      t.partitions.count ≡ s.tables.partitions.count → t.plans.count ≡ s.tables.plans.count → t.channels ≡ s.tables.channels → t.ports ≡ s.tables.ports →
      Room s → Room (record s { last = Some k; given = g; tables = t })
  room_still k g t p q c o f = record {
    promised = still k g t f.promised;
    counted = record { partitions = omega (arith, p, f.counted.partitions); plans = omega (arith, q, f.counted.plans) };
    ported = record {
      few = omega (arith, ap (λ (x : Channels). x.count) c, f.ported.few);
      within = λ i. omega (arith, ap (λ (x : Channels). (get_or x.rows i channel0).ports) c, ap (λ (x : Ports). x.count) o, f.ported.within i);
    };
  }

  -- no channel has more ports than there are, where one of them is changed
  ported_on : (i : ℕ) (c : channels.Channel) (n : ℕ) → Ported s.tables → s.tables.ports.count ≤ n → c.ports ≤ n → (j : ℕ) → (get_or (set s.tables.channels.rows i c) j channel0).ports ≤ n
  ported_on i c n f h new j = replaced (λ (c : channels.Channel). c.ports ≤ n) s.tables.channels.rows i j c channel0 (λ _. new) (let old = f.within j in omega arith)

  pub room_after : (k : Kind) (x : Said) → Room s → in_turn k s ≡ true → Told k s x → Related s x → Room (after s x)
  room_after k (header n m) f i x r =
      let z = f.promised.none (first-none s.last (in_turn_lem k Header x.0 i).0) in
      record {
        promised = record { partitions = x.1.0.1; plans = x.1.1.1; none = λ e. absurd (true≢false e) };
        counted = record { partitions = omega arith; plans = omega arith };
        ported = f.ported;
      }
  room_after k (partition c z n) f i x r =
      let a : s.tables.partitions.count < s.partitions = ltb-true _ _ (in_turn_lem k Partition x.0 i).1 in
      record {
        promised = still Partition s.given _ f.promised;
        counted = record { partitions = omega arith; plans = f.counted.plans };
        ported = record { few = f.ported.few; within = f.ported.within };
      }
  room_after k (plan g) f i x r =
      let a : s.tables.plans.count < s.plans = ltb-true _ _ (and_parts _ _ (in_turn_lem k Plan x.0 i).1).1 in
      record {
        promised = still Plan s.given _ f.promised;
        counted = record { partitions = f.counted.partitions; plans = omega arith };
        ported = record { few = f.ported.few; within = f.ported.within };
      }
  room_after k (slot p b d) f i x r = room_still Slot s.given _ refl refl refl refl f
  room_after k (channel c l d) f i x r =
      record {
        promised = still Channel s.given _ f.promised;
        counted = record { partitions = f.counted.partitions; plans = f.counted.plans };
        ported = record {
          few = omega arith;
          within = ported_on s.tables.channels.count (channel_with c l d) s.tables.ports.count f.ported (omega arith) (omega arith);
        };
      }
  room_after k (port p d n) f i x r =
      let j = s.tables.channels.count - 1 in
      let old = f.ported.within j in
      record {
        promised = still Port s.given _ f.promised;
        counted = record { partitions = f.counted.partitions; plans = f.counted.plans };
        ported = record {
          few = f.ported.few;
          within = ported_on j (ported (open_channel s.tables)) (s.tables.ports.count + 1) f.ported (omega arith) (omega arith);
        };
      }
  room_after k (ipvi n p m) f i x r = room_still Ipvi s.given _ refl refl refl refl f
  room_after k (line l p) f i x r = room_still Line s.given _ refl refl refl refl f
  room_after k (action (scopes.Partition p) e a l) f i x r = room_still Action _ _ refl refl refl refl f
  room_after k (action scopes.System e a l) f i x r = room_still Action _ _ refl refl refl refl f
