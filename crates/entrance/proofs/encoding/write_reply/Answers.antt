use Rattle.std.proofs.Common.{◌∙◌}
use native.Mathlib.Nat.{add-sub_cancel_left}
use Rattle.entrance.specs.Encoding.{answer_bytes}
use Rattle.entrance.proofs.Putting.{put-part}
use Rattle.entrance.proofs.encoding.write_reply.Goals as goal

pub returns : goal.returns
returns c = put-part c.args.at _ _ _ _ (add-sub_cancel_left c.args.at answer_bytes) (c.copy_from_slice.ensures.after ∙ c.encode.ensures)
