use Rattle.vector.proofs.Fairness.{given-kept}
use Rattle.vector.proofs.checked.Checked.tables.Goals as goal

pub returns-clause-sound : goal.returns-clause-sound
returns-clause-sound c = (given-kept c.args.self.bytes.now c.args.self.tables c.args.self.ok c.args.self.read).sound

pub returns-clause-areas : goal.returns-clause-areas
returns-clause-areas c = (given-kept c.args.self.bytes.now c.args.self.tables c.args.self.ok c.args.self.read).sized

pub returns-clause-fair : goal.returns-clause-fair
returns-clause-fair c = (given-kept c.args.self.bytes.now c.args.self.tables c.args.self.ok c.args.self.read).fair

pub returns-clause-lawful : goal.returns-clause-lawful
returns-clause-lawful c = (given-kept c.args.self.bytes.now c.args.self.tables c.args.self.ok c.args.self.read).lawful
