-- What each record keeps holds of every vector that is taken.
use Rattle.std.proofs.Common.{◌≡◌, ℕ, zero, suc, ◌+◌, ◌≤◌, true, List, [], ◌∷◌, length, refl, subst, arith}
use Rattle.tables.specs.Blank.{channel0}
use Rattle.vector.specs.Reasons.{owed}
use Rattle.vector.specs.Out.{fine, then}
use Rattle.vector.specs.Frames.{framed}
use Rattle.vector.specs.Bodies.{Said}
use Rattle.tables.specs.Rows.{channel_with}
use Rattle.vector.specs.Sofars.{nothing}
use Rattle.vector.specs.Turns.{in_turn, settled}
use Rattle.vector.specs.Joins.{joined}
use Rattle.vector.specs.Rooms.{Room}
use Rattle.vector.specs.Reading.{read_on, heard, followed, reading}
use Rattle.vector.specs.declared.kind.Kind.{Kind}
use Rattle.vector.specs.declared.sofar.Sofar.{Sofar}
use Rattle.tables.specs.declared.channel.Channel.{Channel}
use Rattle.tables.specs.declared.channel.ChannelKind.TheVariants.{Sampling}
use Rattle.tables.proofs.Lists.{all_alike}
use Rattle.vector.proofs.Outs.{then-fine, cond-fine}
use Rattle.vector.proofs.Cuts.{cut_off}
use Rattle.vector.proofs.Told.{Told}
use Rattle.vector.proofs.Joined.{after, Related, joined-fine}
use Rattle.vector.proofs.Rooms.{room_after}
use Rattle.vector.proofs.Heard.{was_told}

-- P holds after each record that joins those before it
unfoldable pub Kept : (Sofar → Type 0) → Type 0
Kept P = (s : Sofar) (k : Kind) (x : Said) → Room s → in_turn k s ≡ true → Told k s x → Related s x → P s → P (after s x)

pub room-nothing : Room nothing
room-nothing =
    record {
      promised = record { partitions = omega arith; plans = omega arith; none = λ e. (refl, refl) };
      counted = record { partitions = omega arith; plans = omega arith };
      ported = record { few = omega arith; within = λ i. all_alike (λ (c : Channel). c.ports ≤ 0) 8 i (channel_with Sampling 0 0) channel0 (omega arith) (omega arith) };
    }

module _ (P : Sofar → Type 0) (each : Kept P) where
  scanned : (k at : ℕ) (s t : Sofar) (bs : List ℕ) → Room s → P s → read_on k at s bs ≡ fine t → (Room t × P t) × (settled t ≡ true)
  unfolding Kept
  scanned k at s t [] r h e =
      let c = cond-fine (settled s) (fine s) (owed at) t e in
      let q : s ≡ t = cc in
      subst (λ (u : Sofar). (Room u × P u) × (settled u ≡ true)) q ((r, h), c.0)
  scanned (suc k) at s t (b ∷ bs) r h e = scanned k at s t bs r h e
  scanned zero at s t (b ∷ bs) r h e =
      let f = then-fine (framed at (b ∷ bs)) (λ f. then (followed at s f.kind f.body) (λ u. read_on (3 + length f.body) (at + (4 + length f.body)) u bs)) t e in
      let k = f.0.kind in
      let d = f.0.body in
      let g = then-fine (followed at s k d) (λ u. read_on (3 + length d) (at + (4 + length d)) u bs) t f.2 in
      let x = then-fine (heard at s k d) (joined at s) g.0 g.1 in
      let w = was_told at s k d x.0 (cut_off at (b ∷ bs) f.0 f.1).suited x.1 in
      let j = joined-fine at s g.0 x.0 x.2 in
      let room : Room g.0 = subst Room j.1 (room_after s k x.0 r w.0 w.1 j.0) in
      let kept : P g.0 = subst P j.1 (each s k x.0 r w.0 w.1 j.0 h) in
      scanned (3 + length d) (at + (4 + length d)) g.0 t bs room kept g.2

  pub taken-keeps : P nothing → (bs : List ℕ) (s : Sofar) → reading bs ≡ fine s → (Room s × P s) × (settled s ≡ true)
  taken-keeps h bs s e = scanned 0 0 nothing s bs room-nothing h e
