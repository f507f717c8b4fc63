-- What the tables find, in the words of the tree's rules. For the calls that read the tree.
use Rattle.std.proofs.Common.{◌≡◌, ◌<◌, true, false, cond, List, [], ◌∷◌, length, find, filter, Some, refl, arith}
use Rattle.std.specs.Option.{option_map}
use Rattle.std.specs.Ordering.{is_eq}
use Rattle.qfs_base.specs.Table.{without}
use Rattle.qfs_base.specs.NameTree.{PathNames, Standing, is_within, kind_at, path_cmp, path_eq, stands_at}
use Rattle.qfs_names.specs.declared.row.NameRow.{NameRow}
use Rattle.qfs_names.specs.Names.{row_kind, row_path, standing_of, within_order}
use Rattle.qfs_names.proofs.NameLaws.{at-is, within-is_eq}

-- ---- keys

pub find_at : (path : PathNames) (rows : List NameRow)
    → find (λ (row : NameRow). is_eq (path_cmp path row.path)) rows
    ≡ find (stands_at row_path path) rows
find_at path rows = (λ i. find (λ (row : NameRow). at-is path row.path i) rows)

pub without_at : (path : PathNames) (rows : List NameRow)
    → without (λ (row : NameRow). is_eq (path_cmp path row.path)) rows
    ≡ without (stands_at row_path path) rows
without_at path rows = (λ i. without (λ (row : NameRow). at-is path row.path i) rows)

pub filter_within : (top : PathNames) (rows : List NameRow)
    → filter (λ (row : NameRow). is_eq (within_order top row.path)) rows
    ≡ filter (λ (row : NameRow). is_within top row.path) rows
filter_within top rows = (λ i. filter (λ (row : NameRow). within-is_eq top row.path i) rows)

pub without_within : (top : PathNames) (rows : List NameRow)
    → without (λ (row : NameRow). is_eq (within_order top row.path)) rows
    ≡ without (λ (row : NameRow). is_within top row.path) rows
without_within top rows = (λ i. without (λ (row : NameRow). within-is_eq top row.path i) rows)

-- ---- what stands at a path

find_standing : (rows : List NameRow) (path : PathNames) →
    option_map (λ (row : Standing). row.kind) (find (λ (row : Standing). path_eq row.path path) (standing_of rows))
    ≡ option_map row_kind (find (stands_at row_path path) rows)
find_standing [] path = refl
find_standing (row ∷ rows) path =
    elim (path_eq row.path path) as (λ b.
    option_map (λ (row : Standing). row.kind) (cond b (Some (record { path = row.path; kind = row_kind row }))
    (find (λ (row : Standing). path_eq row.path path) (standing_of rows)))
    ≡ option_map row_kind (cond b (Some row) (find (stands_at row_path path) rows)))
    [ true ↦ refl | false ↦ find_standing rows path ]

-- below the root the first row of a path tells what stands there
pub kind_at_filled : (rows : List NameRow) (path : PathNames) → 0 < length path →
    kind_at (standing_of rows) path ≡ option_map row_kind (find (stands_at row_path path) rows)
unfolding kind_at
kind_at_filled rows [] above = absurd (omega arith)
kind_at_filled rows (name ∷ names) above = find_standing rows (name ∷ names)
