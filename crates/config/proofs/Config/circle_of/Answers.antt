use Rattle.std.proofs.Common.{◌≡◌, ℕ, ◌^◌, sym, ap, ◌∙◌, subst, add-one, arith, rules}
use Rattle.std.proofs.lemmas.Nat.{one_shl}
use Rattle.machine.specs.Partitions.{bit}
use Rattle.machine.specs.Circle.{turns, with_system, circle_of, Circle}
use Rattle.machine.proofs.Rounds.{circled}
use Rattle.config.proofs.Config.circle_of.Goals as goal

pub loop-q-init : goal.loop-q-init
unfolding turns
loop-q-init c =
    let n = c.number-found.ensures in
    one_shl c.number-found.result 8 n.below ∙ ap (λ q. 2 ^ q) n.is

pub loop-q-preserved : goal.loop-q-preserved
unfolding turns
loop-q-preserved c = rw add-one (search rules)

pub loop-round-init : goal.loop-round-init
unfolding turns
loop-round-init c =
    let e : c.loop-q.q ≡ c.args.self.now.tables.partitions.count = omega arith in
    c.loop-q.invariant ∙ ap (λ n. turns (with_system c.args.self.now.tables) n (2 ^ c.args.partition)) e

pub loop-round-preserved : goal.loop-round-preserved
unfolding turns
loop-round-preserved c = rw add-one (search rules)

pub returns : goal.returns
returns c =
    let s = c.args.self.now in
    let k = s.tables in
    let p = c.args.partition in
    let e : c.loop-round.found ≡ circle_of k p = search rules in
    record { is = e; least = subst (λ (m : ℕ). Circle k p (bit m)) (sym e) (circled k (s.sound.few, λ i h. (s.sound.ports.each i h).partition) p c.requires) }
