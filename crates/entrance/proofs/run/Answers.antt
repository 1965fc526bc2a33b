use Rattle.std.proofs.Common.{◌≡◌, true, ap, ap₂, ◌∙◌, rules}
use Rattle.vector.specs.Reading.{takes, tables}
use Rattle.kernel.specs.World.{World, booted}
use Rattle.zero_boards.specs.Layouts.{zeroed}
use Rattle.entrance.specs.Session.{read_of, written}
use Rattle.entrance.proofs.run.Goals as goal

pub returns-clause-bytes : goal.returns-clause-bytes
returns-clause-bytes c =
    let read = c.shown.ensures.value ∙ ap tables c.new-vector.ensures in
    let start = ap₂ booted (ap tables c.new-vector.ensures) (c.fenced-board.ensures.areas ∙ ap zeroed read) in
    let taken : takes c.args.vector.now ≡ true = search rules in
    rw taken (c.run_on.ensures.bytes ∙ ap (λ (w : World). written w (read_of c.args.records.now) c.args.answers.now) start)
