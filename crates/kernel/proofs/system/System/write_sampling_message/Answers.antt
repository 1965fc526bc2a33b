use Rattle.std.proofs.Common.{sym, ap, ◌∙◌, rules}
use Rattle.board.specs.Areas.{area}
use Rattle.tables.specs.declared.channel.ChannelKind.TheVariants.{Sampling}
use Rattle.kernel.specs.World.{world_of, core_of, settled}
use Rattle.kernel.proofs.Sending.{unsent}
use Rattle.kernel.proofs.system.System.write_sampling_message.Goals as goal

pub returns-in_err-channel-clause-is : goal.returns-in_err-channel-clause-is
returns-in_err-channel-clause-is g c =
    let s = c.args.self.now in
    let w = world_of g.B.Board.areas s in
    search rules ∙ ap (λ o. settled c.args.q o w) (sym (unsent Sampling s.core.config.tables (core_of s.core) (area w.state.areas c.args.q) c.args.q c.args.args _ c.in_err-channel.field-0.0 (sym c.in_err-channel.ensures.is)))
