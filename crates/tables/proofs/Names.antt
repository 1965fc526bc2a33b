-- Names that are one name.
use Rattle.std.proofs.Common.{◌≡◌, true, eqb, ap}
use Rattle.std.specs.Str.{bytes_eq}
use Rattle.std.proofs.lemmas.Slice.Eq.{bytes_eq-Decides}
use Rattle.std.proofs.lemmas.Bool.{and_from, eq-eqb}
use Rattle.tables.specs.Names.{same_name}
use Rattle.tables.specs.declared.name.Name.{Name}

pub same-name : (a b : Name) → a ≡ b → same_name a b ≡ true
same-name a b q =
    let l : eqb a.length b.length ≡ true = eq-eqb _ _ (ap (λ (n : Name). n.length) q) in
    let t : bytes_eq a.bytes b.bytes ≡ true = (bytes_eq-Decides a.bytes b.bytes).1 (ap (λ (n : Name). n.bytes) q) in
    and_from (eqb a.length b.length) (bytes_eq a.bytes b.bytes) l t
