use Rattle.vector.proofs.Fairness.{given-kept}
use Rattle.vector.proofs.checked.Checked.shown.Goals as goal

pub returns-clause-sound : goal.returns-clause-sound
returns-clause-sound c = (given-kept c.args.self.now.bytes.now c.args.self.now.tables c.args.self.now.ok c.args.self.now.read).sound

pub returns-clause-areas : goal.returns-clause-areas
returns-clause-areas c = (given-kept c.args.self.now.bytes.now c.args.self.now.tables c.args.self.now.ok c.args.self.now.read).sized

pub returns-clause-fair : goal.returns-clause-fair
returns-clause-fair c = (given-kept c.args.self.now.bytes.now c.args.self.now.tables c.args.self.now.ok c.args.self.now.read).fair

pub returns-clause-lawful : goal.returns-clause-lawful
returns-clause-lawful c = (given-kept c.args.self.now.bytes.now c.args.self.now.tables c.args.self.now.ok c.args.self.now.read).lawful
