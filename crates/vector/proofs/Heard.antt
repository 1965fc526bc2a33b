-- A record that was heard was in turn, and its fields were in range.
use Rattle.std.proofs.Common.{◌≡◌, ℕ, ◌+◌, true, List, length, subst}
use Rattle.vector.specs.Reasons.{out_of_turn}
use Rattle.vector.specs.Out.{fine}
use Rattle.vector.specs.Frames.{suits}
use Rattle.vector.specs.Bodies.{Said, said_by}
use Rattle.vector.specs.Encoding.{Bytes, body_of}
use Rattle.vector.specs.Turns.{in_turn, turned}
use Rattle.vector.specs.Joins.{joined, Ready}
use Rattle.vector.specs.Rooms.{Room}
use Rattle.vector.specs.Reading.{heard}
use Rattle.vector.specs.declared.kind.Kind.{Kind}
use Rattle.vector.specs.declared.sofar.Sofar.{Sofar}
use Rattle.vector.proofs.Outs.{pass-fine, cond-fine}
use Rattle.vector.proofs.Told.{Told, told}
use Rattle.vector.proofs.Joined.{joined-fine}
use Rattle.vector.proofs.Rooms.{ready_for, room_after}

module _ (at : ℕ) (s : Sofar) (k : Kind) (b : List ℕ) (x : Said) (h : suits k (length b) ≡ true) (e : heard at s k b ≡ fine x) where
  pub was_told : (in_turn k s ≡ true) × Told k s x
  was_told =
      let p = pass-fine (turned at k s) (said_by k s (at + 4) b) x e in
      ((cond-fine (in_turn k s) (fine tt) (out_of_turn at) p.0 p.1).0, (told s (at + 4) b k x h p.2).0)

  pub body-written : Bytes b → b ≡ body_of x
  body-written y = (told s (at + 4) b k x h (pass-fine (turned at k s) (said_by k s (at + 4) b) x e).2).1 y

  pub heard-ready : Room s → Ready s x
  heard-ready r = let w = was_told in ready_for s k x r w.0 w.1

  pub heard-room : (t : Sofar) → Room s → joined at s x ≡ fine t → Room t
  heard-room t r e =
      let w = was_told in
      let j = joined-fine at s t x e in
      subst Room j.1 (room_after s k x r w.0 w.1 j.0)
