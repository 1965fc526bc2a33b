-- The circle of a partition: all whose doings may reach it.
use Rattle.std.specs.Prelude.{◌≡◌, ℕ, zero, suc, ◌^◌, ◌<◌, ◌≤◌, Bool, true, cond, not, ◌&&◌, ◌==◌, bit_and, bit_or}
use Rattle.tables.specs.declared.Tables.{Tables}
use Rattle.tables.specs.declared.channel.ChannelKind.TheVariants.{Queuing}
use Rattle.machine.specs.Partitions.{bit}
use Rattle.machine.specs.Questions.{exists, is_system, link, port, channel_of, channel, is_source, same_kind, hears}

-- whose port i is
abbrev pub port_owner : Tables → ℕ → ℕ
port_owner k i = (port k i).partition

abbrev pub is_source_port : Tables → ℕ → Bool
is_source_port k i = is_source (port k i).direction

-- is the channel of port i a queuing one
abbrev pub is_queuing : Tables → ℕ → Bool
is_queuing k i = same_kind (channel k i).kind Queuing

-- port i is a source and port j a destination of one channel
abbrev pub feeds : Tables → ℕ → ℕ → Bool
feeds k i j = is_source_port k i && hears k (channel_of k i) j

-- a set of partitions that nothing outside it reaches
pub record Closed (k : Tables) (M : ℕ → Bool) : Type 0 where
  -- every system partition is a member
  pub systems : (q : ℕ) → exists k q ≡ true → is_system k q ≡ true → M q ≡ true
  -- so is who writes a channel that a member reads
  pub writers : (i j : ℕ) → i < k.ports.count → j < k.ports.count →
      feeds k i j ≡ true → M (port_owner k j) ≡ true → M (port_owner k i) ≡ true
  -- who reads a queuing channel that a member writes
  pub readers : (i j : ℕ) → i < k.ports.count → j < k.ports.count →
      feeds k i j ≡ true → is_queuing k i ≡ true → M (port_owner k i) ≡ true → M (port_owner k j) ≡ true
  -- and who raises an IPVI that a member receives
  pub raisers : (q n d : ℕ) → exists k q ≡ true → n < 8 → bit (link k q n) d ≡ true → M d ≡ true → M q ≡ true

-- the circle of p: the least closed set with p in it
pub record Circle (k : Tables) (p : ℕ) (M : ℕ → Bool) : Type 0 where
  pub itself : M p ≡ true
  pub closed : Closed k M
  pub least : (N : ℕ → Bool) → N p ≡ true → Closed k N → (q : ℕ) → M q ≡ true → N q ≡ true

-- The circle as a mask: bit q is set where q is in it.

-- a mask with the bit of q set, where the test says so
abbrev pub joined : Bool → ℕ → ℕ → ℕ
joined b q m = cond b (bit_or m (2 ^ q)) m

-- what the first n turns of a loop make of a mask
unfoldable pub turns : (ℕ → ℕ → ℕ) → ℕ → ℕ → ℕ
turns f zero m = m
turns f (suc n) m = f n (turns f n m)

-- partition q, if it is a system partition
abbrev pub with_system : Tables → ℕ → ℕ → ℕ
with_system k q m = joined (is_system k q) q m

-- the owner of the source port i, where the owner of its destination port j is in
abbrev pub with_writer : Tables → ℕ → ℕ → ℕ → ℕ
with_writer k i j m = joined (feeds k i j && bit m (port_owner k j)) (port_owner k i) m

-- the owner of the destination port j of a queuing channel, where the owner of its source port i is in
abbrev pub with_reader : Tables → ℕ → ℕ → ℕ → ℕ
with_reader k i j m = joined (feeds k i j && (is_queuing k i && bit m (port_owner k i))) (port_owner k j) m

abbrev pub with_pair : Tables → ℕ → ℕ → ℕ → ℕ
with_pair k i j m = with_reader k i j (with_writer k i j m)

-- port i with every port
abbrev pub with_port : Tables → ℕ → ℕ → ℕ
with_port k i m = turns (with_pair k i) k.ports.count m

-- partition q, where its link n names one that is in
abbrev pub with_raiser : Tables → ℕ → ℕ → ℕ → ℕ
with_raiser k q n m = joined (not (bit_and (link k q n) m == 0)) q m

-- the eight links of partition q
abbrev pub with_links : Tables → ℕ → ℕ → ℕ
with_links k q m = turns (with_raiser k q) 8 m

-- one round: whom the rules ask for, given who is in
abbrev pub grown : Tables → ℕ → ℕ
grown k m = turns (with_links k) k.partitions.count (turns (with_port k) k.ports.count m)

-- every round is the same
abbrev pub with_round : Tables → ℕ → ℕ → ℕ
with_round k r m = grown k m

-- eight rounds, from p and the system partitions on
abbrev pub circle_of : Tables → ℕ → ℕ
circle_of k p = turns (with_round k) 8 (turns (with_system k) k.partitions.count (2 ^ p))

-- at most eight partitions, and ports of partitions below 8
abbrev pub Fine : Tables → Type 0
Fine k = (k.partitions.count ≤ 8) × ((i : ℕ) → i < k.ports.count → port_owner k i < 8)

-- the mask is the circle
abbrev pub Circled : Tables → ℕ → Type 0
Circled k p = Circle k p (bit (circle_of k p))
