use Rattle.kernel.specs.World.{world_of}
use Rattle.kernel.proofs.Keeping.{apart, unmoved-by, planned-by, lasting-by}
use Rattle.kernel.proofs.system.System.event.Goals as goal

pub returns : goal.returns
returns g c =
    let w = world_of g.B.Board.areas c.args.self.now in
    let v = world_of g.B.Board.areas c.handle.new.self in
    record {
      is = c.handle.ensures.is;
      suited = c.handle.ensures.shaped;
      unmoved = unmoved-by w v c.args.e _ c.handle.ensures.is;
      planned = planned-by w v c.args.e _ c.handle.ensures.is;
      lasting = lasting-by w v c.args.e _ c.handle.ensures.is;
      apart = apart w v c.args.e _ c.handle.ensures.is;
    }
