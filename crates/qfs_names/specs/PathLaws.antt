-- Laws of paths as keys, for the rows and keys of the tree.
use Rattle.std.proofs.Common.{◌≡◌, ℕ, zero, suc, List, [], ◌∷◌, length, take, drop, refl, sym, ◌∙◌}
use Rattle.std.specs.Cmp.{IsTotalOrder, on_total}
use Rattle.std.specs.Cmp.Lexicographic.{lists_total, nat_list_cmp_total, slice_cmp}
use Rattle.std.specs.Ordering.{ordering_then}
use Rattle.std.specs.declared.cmp.Ordering.{Ordering}
use Rattle.std.specs.declared.cmp.Ordering.TheVariants.{Less, Equal, Greater}
use Rattle.qfs_base.specs.NameTree.{PathNames, path_cmp, row_cmp}
use Rattle.qfs_table.specs.Keys.{Falls}
use Rattle.qfs_table.specs.KeyLaws.{front_falls}
use Rattle.qfs_names.specs.Names.{row_path, within_order}

pub paths_total : IsTotalOrder path_cmp
paths_total = lists_total nat_list_cmp_total

pub rows_total : IsTotalOrder (row_cmp row_path)
rows_total = on_total row_path paths_total

-- lists compare by their fronts of one length first
pub cmp-fronts : {X : Type 0} (cmp : X → X → Ordering) (n : ℕ) (a b : List X)
    → slice_cmp cmp a b
    ≡ ordering_then (slice_cmp cmp (take n a) (take n b)) (slice_cmp cmp (drop n a) (drop n b))
cmp-fronts cmp zero a b = refl
cmp-fronts cmp (suc n) [] [] = refl
cmp-fronts cmp (suc n) [] (y ∷ ys) = refl
cmp-fronts cmp (suc n) (x ∷ xs) [] = refl
cmp-fronts cmp (suc n) (x ∷ xs) (y ∷ ys) =
    elim (cmp x y) as (λ o. ordering_then o (slice_cmp cmp xs ys)
    ≡ ordering_then (ordering_then o (slice_cmp cmp (take n xs) (take n ys)))
    (slice_cmp cmp (drop n xs) (drop n ys))) [
      | Less ↦ refl
      | Equal ↦ cmp-fronts cmp n xs ys
      | Greater ↦ refl
    ]

pub within_falls : (top a b : PathNames) → path_cmp a b ≡ Less
    → Falls (within_order top a) (within_order top b)
within_falls top a b less =
    front_falls paths_total top (take (length top) a) (take (length top) b)
    (path_cmp (drop (length top) a) (drop (length top) b))
    (sym (cmp-fronts (slice_cmp _) (length top) a b) ∙ less)
