use Rattle.std.proofs.Common.{◌≡◌, true, length, replicate, refl, rules}
use Rattle.boards.specs.Fences.{nowhere, sound_fences}
use Rattle.boards.proofs.Fencing.{empty-sound, fences_laid}
use Rattle.boards.proofs.fenced.Fences.new.Goals as goal

pub invariant_of-result : goal.invariant_of-result
invariant_of-result g c =
    let s = empty-sound g.row.N in
    record { eight = refl; sound = s; laws = fences_laid (replicate 8 nowhere) g.row.N refl s }

pub invariant_of-result-2 : goal.invariant_of-result-2
invariant_of-result-2 g c =
    let e : length c.args.fences ≡ 8 = search rules in
    let s : sound_fences c.args.fences g.row.N ≡ true = search rules in
    record { eight = e; sound = s; laws = fences_laid c.args.fences g.row.N e s }
