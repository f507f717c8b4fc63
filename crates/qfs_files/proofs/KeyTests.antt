-- What the keys find, in the words of the tree's rules.
use Rattle.std.proofs.Common.{◌≡◌, List, filter, find, length, take, refl, ap, sym, ◌∙◌}
use Rattle.std.specs.Cmp.Lexicographic.{lists_ties, slice_cmp, texts_ties}
use Rattle.std.specs.Ordering.{is_eq, nat_cmp, ordering_reverse}
use Rattle.std.specs.declared.cmp.Ordering.{Ordering}
use Rattle.std.specs.declared.cmp.Ordering.TheVariants.{Less, Equal, Greater}
use Rattle.qfs_base.specs.NameTree.{PathNames, is_within, path_cmp, path_eq, stands_at}
use Rattle.qfs_base.specs.Table.{without}
use Rattle.qfs_files.specs.declared.row.FileRow.{FileRow}
use Rattle.qfs_files.specs.Keys.{paths_total, within_order}
use Rattle.qfs_files.specs.Rows.{row_names}

eq_reversed : (o : Ordering) → is_eq (ordering_reverse o) ≡ is_eq o
eq_reversed Less = refl
eq_reversed Equal = refl
eq_reversed Greater = refl

pub at_is : (path other : PathNames) → is_eq (path_cmp path other) ≡ path_eq other path
at_is path other =
    ap is_eq (paths_total.antisymm path other) ∙ eq_reversed (path_cmp other path)
    ∙ sym (lists_ties (slice_cmp nat_cmp) texts_ties other path)

pub within_is_eq : (top path : PathNames) → is_eq (within_order top path) ≡ is_within top path
within_is_eq top path =
    sym (lists_ties (slice_cmp nat_cmp) texts_ties top (take (length top) path))

pub find_at : (path : PathNames) (rows : List FileRow)
    → find (λ (row : FileRow). is_eq (path_cmp path row.names)) rows
    ≡ find (stands_at row_names path) rows
find_at path rows = (λ i. find (λ (row : FileRow). at_is path row.names i) rows)

pub without_at : (path : PathNames) (rows : List FileRow)
    → without (λ (row : FileRow). is_eq (path_cmp path row.names)) rows
    ≡ without (stands_at row_names path) rows
without_at path rows = (λ i. without (λ (row : FileRow). at_is path row.names i) rows)

pub filter_within : (top : PathNames) (rows : List FileRow)
    → filter (λ (row : FileRow). is_eq (within_order top row.names)) rows
    ≡ filter (λ (row : FileRow). is_within top row.names) rows
filter_within top rows = (λ i. filter (λ (row : FileRow). within_is_eq top row.names i) rows)

pub without_within : (top : PathNames) (rows : List FileRow)
    → without (λ (row : FileRow). is_eq (within_order top row.names)) rows
    ≡ without (λ (row : FileRow). is_within top row.names) rows
without_within top rows = (λ i. without (λ (row : FileRow). within_is_eq top row.names i) rows)
