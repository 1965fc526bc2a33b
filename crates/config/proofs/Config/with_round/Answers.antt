use Rattle.std.proofs.Common.{◌≡◌, ℕ, ap, ap₂, ◌∙◌, add-one, arith, rules}
use Rattle.machine.specs.Circle.{turns, with_port, with_links}
use Rattle.config.proofs.Config.with_round.Goals as goal

pub loop-i-init : goal.loop-i-init
unfolding turns
loop-i-init c = search rules

pub loop-i-preserved : goal.loop-i-preserved
unfolding turns
loop-i-preserved c = rw add-one (search rules)

pub loop-q-preserved : goal.loop-q-preserved
unfolding turns
loop-q-preserved c =
    let k = c.args.self.now.tables in
    let e : c.new.result ≡ c.loop-q.q = search rules in
    rw add-one (c.with_links-found.ensures ∙ ap₂ (λ (q m : ℕ). with_links k q m) e c.loop-q.invariant)

pub loop-q-init : goal.loop-q-init
unfolding turns
loop-q-init c =
    let e : c.loop-i.i ≡ c.args.self.now.tables.ports.count = omega arith in
    c.loop-i.invariant ∙ ap (λ n. turns (with_port c.args.self.now.tables) n c.args.mask) e
