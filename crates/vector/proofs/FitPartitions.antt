-- The partitions of the records so far: their names differ, their areas have their sizes, and their links go to others.
use Rattle.std.proofs.Common.{◌≡◌, ℕ, ◌+◌, ◌<◌, false, List, length, get_or, take, set, replicate, Some, None, Option, sym, refl, ◌∙◌, subst, arith}
use Rattle.std.proofs.lemmas.List.{length-set}
use Rattle.std.proofs.lemmas.Bool.{both_ways}
use Rattle.tables.specs.Blank.{row0}
use Rattle.tables.specs.Names.{has_name, named}
use Rattle.tables.specs.Laws.{In}
use Rattle.vector.specs.Ranges.{Mask}
use Rattle.tables.specs.Rows.{linked, answering}
use Rattle.tables.specs.declared.name.Name.{Name}
use Rattle.tables.specs.declared.partition.PartitionRow.{PartitionRow}
use Rattle.tables.specs.Tables.{Partitions}
use Rattle.tables.specs.declared.response.Response.{Response}
use Rattle.tables.proofs.Names.{same-name}
use Rattle.tables.proofs.Lists.{one_more, replaced, all_alike, pairs_more, same-part, none_passes}

abbrev Apart : PartitionRow → PartitionRow → Type 0
Apart a b = a.name ≡ b.name → ⊥

-- the size of an area
abbrev Sized : PartitionRow → Type 0
Sized r = In 1 1024 r.size

-- a link of partition p, one of n
abbrev Link : ℕ → ℕ → ℕ → Type 0
Link n p m = (p < n) × Mask n p m

pub record FitPartitions (n : ℕ) (ps : Partitions) : Type 0 where
  pub size : length ps.rows ≡ 8
  pub differ : (i j : ℕ) → i < j → j < ps.count → Apart (get_or ps.rows i row0) (get_or ps.rows j row0)
  pub sized : (i : ℕ) → i < ps.count → Sized (get_or ps.rows i row0)
  pub links : (p i m : ℕ) → get_or (get_or ps.rows p row0).links i None ≡ Some m → Link n p m

pub fit-partition : (n : ℕ) (ps : Partitions) (row : PartitionRow) → FitPartitions n ps → ps.count < 8 → named (take ps.count ps.rows) row.name ≡ false → row.links ≡ replicate 8 None → Sized row →
    FitPartitions n (record { count = ps.count + 1; rows = set ps.rows ps.count row })
fit-partition n ps row f h new none z =
    let lt : ps.count < length ps.rows = omega (arith, f.size) in
    let bare : (i m : ℕ) → get_or row.links i None ≡ Some m → ⊥ =
    λ i m. subst (λ (l : List (Option ℕ)). get_or l i None ≡ Some m → ⊥) (sym none)
    (all_alike (λ (o : Option ℕ). o ≡ Some m → ⊥) 8 i None None (λ e. cc) (λ e. cc)) in
    record {
      size = length-set _ _ _ ∙ f.size;
      differ = pairs_more Apart ps.rows ps.count row row0 lt f.differ (λ i l e. both_ways _ (none_passes (has_name row.name) ps.rows ps.count i row0 new l (omega arith)) (same-name _ _ e));
      sized = one_more (λ _ r. Sized r) ps.rows ps.count row row0 lt f.sized z;
      links = λ p i m. replaced (λ (r : PartitionRow). get_or r.links i None ≡ Some m → Link n p m) ps.rows ps.count p row row0 (λ _ e. absurd (bare i m e)) (f.links p i m);
    }

-- names stay where another part of a row changes
names_stay : (ps : Partitions) (q : ℕ) (v : PartitionRow) → v.name ≡ (get_or ps.rows q row0).name → ((i j : ℕ) → i < j → j < ps.count → Apart (get_or ps.rows i row0) (get_or ps.rows j row0)) →
    (i j : ℕ) → i < j → j < ps.count → Apart (get_or (set ps.rows q v) i row0) (get_or (set ps.rows q v) j row0)
names_stay ps q v s old i j l h e =
    let name : PartitionRow → Name = λ r. r.name in
    old i j l h (sym (same-part name ps.rows q i v row0 s) ∙ (e ∙ same-part name ps.rows q j v row0 s))

-- and so do the sizes of areas
sizes_stay : (ps : Partitions) (q : ℕ) (v : PartitionRow) → v.size ≡ (get_or ps.rows q row0).size → ((i : ℕ) → i < ps.count → Sized (get_or ps.rows i row0)) →
    (i : ℕ) → i < ps.count → Sized (get_or (set ps.rows q v) i row0)
sizes_stay ps q v s old i h = subst (λ n. In 1 1024 n) (sym (same-part (λ (r : PartitionRow). r.size) ps.rows q i v row0 s)) (old i h)

pub fit-link : (n : ℕ) (ps : Partitions) (i q m : ℕ) → FitPartitions n ps → Link n q m → FitPartitions n (record { count = ps.count; rows = set ps.rows q (linked i m (get_or ps.rows q row0)) })
fit-link n ps i q m f new =
    let row = get_or ps.rows q row0 in
    record {
      size = length-set _ _ _ ∙ f.size;
      differ = names_stay ps q (linked i m row) refl f.differ;
      sized = sizes_stay ps q (linked i m row) refl f.sized;
      links = λ p k w. replaced (λ (r : PartitionRow). get_or r.links k None ≡ Some w → Link n p w) ps.rows q p (linked i m row) row0
          (λ e z. subst (λ x. Link n x w) e
          (replaced (λ (o : Option ℕ). o ≡ Some w → Link n q w) row.links i k (Some m) None (λ _ y. let s : m ≡ w = cc in subst (Link n q) s new) (f.links q k w) z))
          (f.links p k w);
    }

pub fit-response : (n : ℕ) (ps : Partitions) (e q : ℕ) (x : Response) → FitPartitions n ps → FitPartitions n (record { count = ps.count; rows = set ps.rows q (answering e x (get_or ps.rows q row0)) })
fit-response n ps e q x f =
    let v = answering e x (get_or ps.rows q row0) in
    record {
      size = length-set _ _ _ ∙ f.size;
      differ = names_stay ps q v refl f.differ;
      sized = sizes_stay ps q v refl f.sized;
      links = λ p k w z. f.links p k w (sym (same-part (λ (r : PartitionRow). get_or r.links k None) ps.rows q p v row0 refl) ∙ z);
    }
