-- What a vector may say: a configuration, when it is valid, and its bytes. In each list the last record stands first.
use Rattle.std.specs.Prelude.{◌≡◌, ℕ, ◌+◌, ◌<◌, ◌≤◌, Bool, true, false, ◌&&◌, List, [], ◌∷◌, ◌++◌, length, ◌==◌}
use Rattle.std.specs.Str.{bytes_eq}
use Rattle.vector.specs.Bodies.{Said, NameAt, header, partition, plan, slot, channel, port, ipvi, line, action}
use Rattle.vector.specs.Encoding.{Bytes, bytes_of}
use Rattle.vector.specs.Fields.{deepest}
use Rattle.tables.specs.Rows.{is_queuing, slot_end}
use Rattle.tables.specs.Names.{any}
use Rattle.tables.specs.Laws.{In}
use Rattle.vector.specs.Ranges.{Mask, EventIn, Allows}
use Rattle.vector.specs.Reading.{takes}
use Rattle.tables.specs.declared.response.Scope.{Scope}
use Rattle.tables.specs.declared.response.Scope.TheVariants.{Partition, System}
use Rattle.tables.specs.declared.response.Action.{Action}
use Rattle.tables.specs.declared.channel.ChannelKind.{ChannelKind}
use Rattle.tables.specs.declared.partition.Class.{Class}
use Rattle.tables.specs.declared.port.Direction.{Direction}
use Rattle.tables.specs.declared.port.Direction.TheVariants.{Source, Destination}
use Rattle.tables.specs.declared.plan.Slot.{Slot}

pub record PartitionIn : Type 0 where
  pub class : Class
  pub size : ℕ
  pub name : List ℕ

pub record PlanIn : Type 0 where
  pub frame : ℕ
  pub slots : List Slot

pub record PortIn : Type 0 where
  pub partition : ℕ
  pub name : List ℕ

pub record ChannelIn : Type 0 where
  pub kind : ChannelKind
  pub longest : ℕ
  pub depth : ℕ
  pub ports : List PortIn

pub record LinkIn : Type 0 where
  pub number : ℕ
  pub source : ℕ
  pub mask : ℕ

pub record LineIn : Type 0 where
  pub line : ℕ
  pub partition : ℕ

pub record ActionIn : Type 0 where
  pub scope : Scope
  pub event : ℕ
  pub action : Action
  pub log : Bool

-- the numbers of partitions and plans that the header gives, and what follows it
pub record Config : Type 0 where
  pub count : ℕ
  pub planned : ℕ
  pub partitions : List PartitionIn
  pub plans : List PlanIn
  pub channels : List ChannelIn
  pub links : List LinkIn
  pub lines : List LineIn
  pub actions : List ActionIn

module _ {A : Type 0} where
  -- each record keeps its rule, which may look at those before it
  abbrev pub Each : (List A → A → Type 0) → List A → Type 0
  Each Rule [] = Unit {0}
  Each Rule (x ∷ before) = Rule before x × Each Rule before

  -- the bytes of records, the last of which stands first
  abbrev pub written : (A → List ℕ) → List A → List ℕ
  written bytes [] = []
  written bytes (x ∷ before) = written bytes before ++ bytes x

-- a partition: one of n, of 1 to 1,024 bytes, with a name of 1 to 16 bytes that none before it has

abbrev pub is_named : List ℕ → PartitionIn → Bool
is_named name p = bytes_eq p.name name

abbrev pub PartitionRule : ℕ → List PartitionIn → PartitionIn → Type 0
PartitionRule n before p = (length before < n) × In 1 1024 p.size × In 1 16 (length p.name) × (any (is_named p.name) before ≡ false)

-- a slot: one of 16 of one of n partitions, from the last one's end on, within the frame

abbrev pub end_of_last : List Slot → ℕ
end_of_last [] = 0
end_of_last (x ∷ before) = slot_end x

abbrev pub SlotRule : ℕ → ℕ → List Slot → Slot → Type 0
SlotRule n frame before x =
    (length before < 16) × (x.partition < n) × In 0 999999 x.start × In 1 1000000 x.duration
    × (end_of_last before ≤ x.start) × (slot_end x ≤ frame)

-- a plan: one of m, with a frame of 1 to 1,000,000 microseconds
abbrev pub PlanRule : ℕ → ℕ → List PlanIn → PlanIn → Type 0
PlanRule n m before p = (length before < m) × In 1 1000000 p.frame × Each (SlotRule n p.frame) p.slots

-- a port: one of 32, and of two where messages queue; of one of n partitions, which has none in this channel and none
-- of this name in others

abbrev pub ports_in : List ChannelIn → List PortIn
ports_in [] = []
ports_in (c ∷ before) = c.ports ++ ports_in before

abbrev pub is_of : ℕ → PortIn → Bool
is_of p q = p == q.partition

abbrev pub is_called : ℕ → List ℕ → PortIn → Bool
is_called p name q = p == q.partition && bytes_eq name q.name

abbrev pub PortRule : ℕ → ChannelKind → List PortIn → List PortIn → PortIn → Type 0
PortRule n k others before p =
    (length before + length others < 32) × (is_queuing k ≡ true → length before < 2) × (p.partition < n) × In 1 16 (length p.name)
    × (any (is_of p.partition) before ≡ false) × (any (is_called p.partition p.name) others ≡ false)

-- a channel: one of 8, for messages of at most 1 to 64 bytes, with room for one, or for 1 to 8 where they queue
abbrev pub ChannelRule : ℕ → List ChannelIn → ChannelIn → Type 0
ChannelRule n before c =
    (length before < 8) × In 1 64 c.longest × In 1 (deepest c.kind) c.depth
    × Each (PortRule n c.kind (ports_in before)) c.ports

-- a link: of a number of 0 to 7 and one of n partitions, which has none of this number, to others of them

abbrev pub is_link : ℕ → ℕ → LinkIn → Bool
is_link i p l = l.number == i && l.source == p

abbrev pub LinkRule : ℕ → List LinkIn → LinkIn → Type 0
LinkRule n before l = In 0 7 l.number × (l.source < n) × Mask n l.source l.mask × (any (is_link l.number l.source) before ≡ false)

-- a line: 0 to 15, of one of n partitions, and of none before it

abbrev pub is_line : ℕ → LineIn → Bool
is_line i l = l.line == i

abbrev pub LineRule : ℕ → List LineIn → LineIn → Type 0
LineRule n before l = In 0 15 l.line × (l.partition < n) × (any (is_line l.line) before ≡ false)

-- an action: of an event of one of n partitions or of the system, which has none before it

abbrev pub same_scope : Scope → Scope → Bool
same_scope (Partition p) (Partition q) = p == q
same_scope (Partition p) System = false
same_scope System (Partition q) = false
same_scope System System = true

abbrev pub is_action : Scope → ℕ → ActionIn → Bool
is_action c e a = same_scope a.scope c && a.event == e

abbrev pub ActionRule : ℕ → List ActionIn → ActionIn → Type 0
ActionRule n before a = EventIn n a.scope a.event × Allows a.scope a.action × (any (is_action a.scope a.event) before ≡ false)

-- a plan has a slot, and a channel two ports

abbrev pub HasSlot : List PlanIn → PlanIn → Type 0
HasSlot before p = 1 ≤ length p.slots

abbrev pub HasPorts : List ChannelIn → ChannelIn → Type 0
HasPorts before c = 2 ≤ length c.ports

pub record Valid (c : Config) : Type 0 where
  pub promised : In 1 8 c.count × In 1 4 c.planned
  pub all : (length c.partitions ≡ c.count) × (length c.plans ≡ c.planned)
  pub partitions : Each (PartitionRule c.count) c.partitions
  pub plans : Each (PlanRule c.count c.planned) c.plans
  pub slots : Each HasSlot c.plans
  pub channels : Each (ChannelRule c.count) c.channels
  pub ports : Each HasPorts c.channels
  pub links : Each (LinkRule c.count) c.links
  pub lines : Each (LineRule c.count) c.lines
  pub actions : Each (ActionRule c.count) c.actions

-- what each says as a record

abbrev pub placeless : List ℕ → NameAt
placeless bs = record { at = 0; bytes = bs }

abbrev pub said_partition : PartitionIn → Said
said_partition p = partition p.class p.size (placeless p.name)

abbrev pub said_slot : Slot → Said
said_slot x = slot x.partition x.start x.duration

-- the first port of a channel is its source
abbrev pub direction_after : List PortIn → Direction
direction_after [] = Source
direction_after (p ∷ before) = Destination

abbrev pub said_port : List PortIn → PortIn → Said
said_port before p = port p.partition (direction_after before) (placeless p.name)

abbrev pub said_channel : ChannelIn → Said
said_channel c = channel c.kind c.longest c.depth

abbrev pub said_link : LinkIn → Said
said_link l = ipvi l.number l.source l.mask

abbrev pub said_line : LineIn → Said
said_line l = line l.line l.partition

abbrev pub said_action : ActionIn → Said
said_action a = action a.scope a.event a.action a.log

-- the bytes of each with what belongs to it

abbrev pub partition_bytes : PartitionIn → List ℕ
partition_bytes p = bytes_of (said_partition p)

abbrev pub slot_bytes : Slot → List ℕ
slot_bytes x = bytes_of (said_slot x)

abbrev pub plan_bytes : PlanIn → List ℕ
plan_bytes p = bytes_of (plan p.frame) ++ written slot_bytes p.slots

abbrev pub port_bytes : List PortIn → List ℕ
port_bytes [] = []
port_bytes (p ∷ before) = port_bytes before ++ bytes_of (said_port before p)

abbrev pub channel_bytes : ChannelIn → List ℕ
channel_bytes c = bytes_of (said_channel c) ++ port_bytes c.ports

abbrev pub link_bytes : LinkIn → List ℕ
link_bytes l = bytes_of (said_link l)

abbrev pub line_bytes : LineIn → List ℕ
line_bytes l = bytes_of (said_line l)

abbrev pub action_bytes : ActionIn → List ℕ
action_bytes a = bytes_of (said_action a)

-- the vector of a configuration: the header, the partitions, the plans with their slots, the channels with their ports,
-- the links, the lines and the actions
abbrev pub encode : Config → List ℕ
encode c =
    bytes_of (header c.count c.planned)
    ++ (written partition_bytes c.partitions
    ++ (written plan_bytes c.plans
    ++ (written channel_bytes c.channels
    ++ (written link_bytes c.links
    ++ (written line_bytes c.lines
    ++ written action_bytes c.actions)))))

-- a vector is taken if and only if it is the vector of a valid configuration
abbrev pub TakenIsValid : Type 0
TakenIsValid =
    (bs : List ℕ) → Bytes bs →
    (takes bs ≡ true → (c : Config) × (Valid c × (encode c ≡ bs)))
    × ((c : Config) × (Valid c × (encode c ≡ bs)) → takes bs ≡ true)
