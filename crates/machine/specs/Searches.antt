-- What the searches in the tables find, without the order in which they look.
use Rattle.std.specs.Prelude.{◌≡◌, ℕ, ◌<◌, ◌≤◌, Some}
use Rattle.tables.specs.Laws.{PortNamesDiffer, slot_at}
use Rattle.tables.specs.Rows.{slot_end}
use Rattle.tables.specs.declared.channel.ChannelKind.{ChannelKind}
use Rattle.tables.specs.declared.name.Name.{Name}
use Rattle.tables.specs.declared.plan.Plan.{Plan}
use Rattle.tables.specs.declared.Tables.{Tables}
use Rattle.tables.specs.Tables.{Offset}
use Rattle.machine.specs.Questions.{slots_of, holder, port, channel, named}

-- slot j of the plan runs at the offset o: from its start on, for its duration
pub record RunsAt (p : Plan) (j : ℕ) (o : Offset) : Type 0 where
  pub there : j < p.slots.count
  pub begun : (slot_at j p).start ≤ o
  pub goes : o < slot_end (slot_at j p)

-- no slot of the plan begins before those in front of it have ended
abbrev pub Apart : Plan → Type 0
Apart p = (i j : ℕ) → i < j → j < p.slots.count → slot_end (slot_at i p) ≤ (slot_at j p).start

-- Who holds an offset has a slot that runs there; and where slots do not overlap, whoever has such a slot holds it.
pub record Held (p : Plan) (o : Offset) : Type 0 where
  pub found : (q : ℕ) → holder (slots_of p) o ≡ Some q → (j : ℕ) × (RunsAt p j o × ((slot_at j p).partition ≡ q))
  pub any : Apart p → (j : ℕ) → RunsAt p j o → holder (slots_of p) o ≡ Some (slot_at j p).partition

-- i is a port of q, on a channel of this type, and of this name
pub record IsNamed (k : Tables) (q : ℕ) (t : ChannelKind) (n : Name) (i : ℕ) : Type 0 where
  pub there : i < k.ports.count
  pub of : (port k i).partition ≡ q
  pub kind : (channel k i).kind ≡ t
  pub name : (port k i).name ≡ n

-- A name finds such a port; and where the names of one partition's ports differ, it finds any that is such.
pub record Found (k : Tables) (q : ℕ) (t : ChannelKind) (n : Name) : Type 0 where
  pub found : (i : ℕ) → named k q t n k.ports.count ≡ Some i → IsNamed k q t n i
  pub any : PortNamesDiffer k → (i : ℕ) → IsNamed k q t n i → named k q t n k.ports.count ≡ Some i
