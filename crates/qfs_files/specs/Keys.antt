-- The keys of the rows. The laws of paths as keys belong to qfs_base.
use Rattle.std.proofs.Common.{◌≡◌, ℕ, zero, suc, Bool, cond, List, [], ◌∷◌, length, take, drop, refl, sym, ap, ◌∙◌}
use Rattle.std.specs.Cmp.{IsTotalOrder, nat_cmp_total, on_total, then_total}
use Rattle.std.specs.Cmp.Lexicographic.{lists_total, nat_list_cmp_total, slice_cmp}
use Rattle.std.specs.Ordering.{nat_cmp, ordering_then, ordering_reverse, is_gt}
use Rattle.std.specs.declared.cmp.Ordering.{Ordering}
use Rattle.std.specs.declared.cmp.Ordering.TheVariants.{Less, Equal, Greater}
use Rattle.qfs_base.specs.NameTree.{PathNames, path_cmp, row_cmp}
use Rattle.qfs_table.specs.Keys.{Falls, Follows, IsOnly}
use Rattle.qfs_table.specs.KeyLaws.{front_falls, gt_is, whole_falls, whole_alone}
use Rattle.qfs_files.specs.declared.row.FileRow.{FileRow}
use Rattle.qfs_files.specs.declared.row.OpenRow.{OpenRow}
use Rattle.qfs_files.specs.Rows.{row_names, is_unclosed_row}

pub paths_total : IsTotalOrder path_cmp
paths_total = lists_total nat_list_cmp_total

pub rows_total : IsTotalOrder (row_cmp row_names)
rows_total = on_total row_names paths_total

-- ---- within a path

-- a path as the front of those within it: it is compared with as many names
abbrev pub within_order : PathNames → PathNames → Ordering
within_order top path = path_cmp top (take (length top) path)

-- lists compare by their fronts of one length first
cmp_fronts : {X : Type 0} (cmp : X → X → Ordering) (n : ℕ) (a b : List X)
    → slice_cmp cmp a b
    ≡ ordering_then (slice_cmp cmp (take n a) (take n b)) (slice_cmp cmp (drop n a) (drop n b))
cmp_fronts cmp zero a b = refl
cmp_fronts cmp (suc n) [] [] = refl
cmp_fronts cmp (suc n) [] (y ∷ ys) = refl
cmp_fronts cmp (suc n) (x ∷ xs) [] = refl
cmp_fronts cmp (suc n) (x ∷ xs) (y ∷ ys) =
    elim (cmp x y) as (λ o. ordering_then o (slice_cmp cmp xs ys)
    ≡ ordering_then (ordering_then o (slice_cmp cmp (take n xs) (take n ys)))
    (slice_cmp cmp (drop n xs) (drop n ys))) [
      | Less ↦ refl
      | Equal ↦ cmp_fronts cmp n xs ys
      | Greater ↦ refl
    ]

pub within_falls : (top a b : PathNames) → path_cmp a b ≡ Less
    → Falls (within_order top a) (within_order top b)
within_falls top a b less =
    front_falls paths_total top (take (length top) a) (take (length top) b)
    (path_cmp (drop (length top) a) (drop (length top) b))
    (sym (cmp_fronts (slice_cmp _) (length top) a b) ∙ less)

-- ---- where unclosed files may stand

-- such rows stand by file, and then by path
abbrev pub open_cmp : OpenRow → OpenRow → Ordering
open_cmp a b = ordering_then (nat_cmp a.file b.file) (path_cmp a.names b.names)

pub open_total : IsTotalOrder open_cmp
open_total =
    then_total (on_total (λ (row : OpenRow). row.file) nat_cmp_total)
    (on_total (λ (row : OpenRow). row.names) paths_total)

abbrev pub file_order : ℕ → OpenRow → Ordering
file_order file row = nat_cmp file row.file

pub file_falls : (file : ℕ) → Follows open_cmp (file_order file)
file_falls file a b less =
    front_falls nat_cmp_total file a.file b.file (path_cmp a.names b.names) less

-- such a row finds the unclosed file at its path, if it is still there
abbrev pub open_order : OpenRow → FileRow → Ordering
open_order kept row =
    ordering_then (path_cmp kept.names row.names) (cond (is_unclosed_row kept.file row) Equal Less)

below_greater : (key a b : PathNames) → path_cmp a b ≡ Less → path_cmp key b ≡ Equal
    → path_cmp key a ≡ Greater
below_greater key a b less tie =
    paths_total.congr key b a tie ∙ paths_total.antisymm b a ∙ ap ordering_reverse less

then_falls : (first later : Ordering) (a b : Bool) → (later ≡ Greater → first ≡ Greater)
    → (later ≡ Equal → first ≡ Greater)
    → Falls (ordering_then first (cond a Equal Less)) (ordering_then later (cond b Equal Less))
then_falls first Less a b above same = (λ is. absurd (cc), λ is. absurd (cc))
then_falls first Greater a b above same = rw (above refl) (λ _. refl, λ _. refl)
then_falls first Equal a b above same = rw (same refl) (λ _. refl, λ _. refl)

pub open_falls : (kept : OpenRow) → Follows (row_cmp row_names) (open_order kept)
open_falls kept a b less =
    then_falls (path_cmp kept.names a.names) (path_cmp kept.names b.names) _ _
    (λ is. gt_is _ ((whole_falls paths_total kept.names a.names b.names less).0 (ap is_gt is)))
    (λ tie. below_greater kept.names a.names b.names less tie)

then_alone : (first later : Ordering) (a b : Bool) → (first ≡ Equal → later ≡ Less)
    → ordering_then first (cond a Equal Less) ≡ Equal
    → ordering_then later (cond b Equal Less) ≡ Less
then_alone Less later a b behind same = absurd (cc)
then_alone Greater later a b behind same = absurd (cc)
then_alone Equal later a b behind same = rw (behind refl) refl

pub open_alone : (kept : OpenRow) → IsOnly (row_cmp row_names) (open_order kept)
open_alone kept a b less same =
    then_alone (path_cmp kept.names a.names) (path_cmp kept.names b.names) _ _
    (λ tie. whole_alone paths_total kept.names a.names b.names less tie) same
