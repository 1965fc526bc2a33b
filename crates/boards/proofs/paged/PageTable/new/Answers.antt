use Rattle.std.proofs.Common.{◌≡◌, true, length, refl, rules}
use Rattle.boards.specs.Pages.{sound_pages}
use Rattle.boards.proofs.Paging.{empty-sound, pages_laid}
use Rattle.boards.proofs.paged.PageTable.new.Goals as goal

pub invariant_of-result : goal.invariant_of-result
invariant_of-result g c =
    let s = empty-sound g.row.N in
    record { eight = refl; sound = s; laws = pages_laid _ g.row.N refl s }

pub invariant_of-result-2 : goal.invariant_of-result-2
invariant_of-result-2 g c =
    let e : length c.args.areas ≡ 8 = search rules in
    let s : sound_pages c.args.areas g.row.N ≡ true = search rules in
    record { eight = e; sound = s; laws = pages_laid c.args.areas g.row.N e s }
