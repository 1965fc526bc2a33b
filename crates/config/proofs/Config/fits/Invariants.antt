use Rattle.std.proofs.Common.{◌≡◌}
use Rattle.machine.specs.Step.{fits_below}
use Rattle.config.proofs.Config.fits.Given as goal

-- the areas so far fit
abbrev pub invariant-loop-i : goal.invariant-loop-i
invariant-loop-i g l = l.fitting ≡ fits_below l.self.tables (g.B.Board.areas l.board) l.i
