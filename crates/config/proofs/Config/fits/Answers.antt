use Rattle.std.proofs.Common.{◌<◌, add-one, arith, rules}
use Rattle.tables.specs.Blank.{row0}
use Rattle.machine.specs.Step.{fits_below}
use Rattle.config.proofs.Rows.{row}
use Rattle.config.proofs.Config.fits.Goals as goal

pub loop-i-init : goal.loop-i-init
unfolding fits_below
loop-i-init g c = search rules

pub loop-i-preserved : goal.loop-i-preserved
unfolding fits_below
loop-i-preserved g c =
    let table = c.args.self.now.tables.partitions in
    let n : c.loop-i.i < table.count = omega (arith, c.as_slice-row-items.ensures.all c.args.self.now.sound.few, c.loop-i-test.true) in
    let e = row table.count table.rows _ c.as_slice-row-items.ensures.is c.loop-i.i row0 n in
    rw add-one (search (rules, e))
