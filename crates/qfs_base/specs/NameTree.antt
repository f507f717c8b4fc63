-- The rules of a name tree, over what stands under each path: a directory, an unclosed file or a
-- closed one. The root is a directory that is always there, and no row of the tree. The same rules
-- serve the tree of the metaserver and the files of a file history.
use Rattle.std.specs.Prelude.{ℕ, ◌-◌, nat_eq, nat_lt, Bool, true, ◌&&◌, cond, List, [], ◌∷◌, ◌++◌, length, take, drop, map, filter, find, filter_map, Option, Some, None}
use Rattle.std.specs.Option.{option_or, option_map}
use Rattle.std.specs.Bool.{then_some}
use Rattle.std.specs.declared.cmp.Ordering.{Ordering}
use Rattle.std.specs.Ordering.{nat_cmp}
use Rattle.std.specs.List.{starts_with, list_any, range_with_len}
use Rattle.std.specs.Cmp.Lexicographic.{pointwise, slice_cmp}
use Rattle.qfs_base.specs.declared.lists.Name.{Name}
use Rattle.qfs_base.specs.declared.lists.NameKind.{NameKind}
use Rattle.qfs_base.specs.declared.lists.NameKind.TheVariants.{Directory, Unclosed, Closed}
use Rattle.qfs_base.specs.declared.reply.TreeRefusal.{TreeRefusal}
use Rattle.qfs_base.specs.declared.reply.TreeRefusal.TheVariants as Not
use Rattle.qfs_base.specs.Table.{without, place, place_all, first_of}

-- a path: the names from the root down, of which the root has none
abbrev pub PathNames : Type 0
PathNames = List (List ℕ)

-- what stands under a path
pub record Standing : Type 0 where
  pub path : PathNames
  pub kind : NameKind

-- the most names of a path
abbrev pub most_names : ℕ
most_names = 32

-- the order of paths: name by name, in the order of the names' bytes
abbrev pub path_cmp : PathNames → PathNames → Ordering
path_cmp = slice_cmp (slice_cmp nat_cmp)

-- whether two paths are the same
abbrev pub path_eq : PathNames → PathNames → Bool
path_eq = pointwise (pointwise nat_eq)

-- whether a path is the top one or lies below it
abbrev pub is_within : PathNames → PathNames → Bool
is_within top path = starts_with (pointwise nat_eq) path top

-- whether a path lies below the top one
abbrev pub is_below : PathNames → PathNames → Bool
is_below top path = is_within top path && nat_lt (length top) (length path)

-- what stands under a path, if anything does
unfoldable pub kind_at : List Standing → PathNames → Option NameKind
kind_at tree [] = Some Directory
kind_at tree (name ∷ names) =
    option_map (λ (row : Standing). row.kind) (find (λ (row : Standing). path_eq row.path (name ∷ names)) tree)

-- the directories that a path lies in, from the top, without the root
abbrev pub parents_of : PathNames → List PathNames
parents_of path = map (λ n. take n path) (range_with_len 1 (length path - 1))

-- why a path can't lead through what stands there: a file is no directory, and of what isn't there
-- the caller says how it is `absent`
unfoldable pub through_refusal : TreeRefusal → Option NameKind → Option TreeRefusal
through_refusal absent None = Some absent
through_refusal absent (Some Directory) = None
through_refusal absent (Some Unclosed) = Some Not.NotDir
through_refusal absent (Some Closed) = Some Not.NotDir

-- the parents of a path are tried from the top, and the first that isn't a directory decides
unfoldable pub parents_refusal : TreeRefusal → List Standing → PathNames → Option TreeRefusal
parents_refusal absent tree path =
    first_of (λ parent. through_refusal absent (kind_at tree parent)) (parents_of path)

-- a new entry can't be where something stands
unfoldable pub new_refusal : Option NameKind → Option TreeRefusal
new_refusal None = None
new_refusal (Some kind) = Some Not.Exists

-- only a closed file is opened, removed, recovered or moved
unfoldable pub file_refusal : Option NameKind → Option TreeRefusal
file_refusal None = Some Not.Missing
file_refusal (Some Directory) = Some Not.IsDir
file_refusal (Some Unclosed) = Some Not.Unclosed
file_refusal (Some Closed) = None

-- only what is there is renamed
unfoldable pub source_refusal : Option NameKind → Option TreeRefusal
source_refusal None = Some Not.Missing
source_refusal (Some kind) = None

-- a refusal where a test says so
abbrev pub refused_if : Bool → TreeRefusal → Option TreeRefusal
refused_if = then_some

-- whether something stands below a directory; the root counts as never empty
unfoldable pub is_filled : List Standing → PathNames → Bool
is_filled tree [] = true
is_filled tree (name ∷ names) =
    list_any (λ (row : Standing). is_below (name ∷ names) row.path) tree

-- why no directory, or file, is made at a path
unfoldable pub add_refusal : List Standing → PathNames → Option TreeRefusal
add_refusal tree path = option_or (parents_refusal Not.NoParent tree path) (new_refusal (kind_at tree path))

-- why a path is no directory that is there
unfoldable pub directory_refusal : List Standing → PathNames → Option TreeRefusal
directory_refusal tree path =
    option_or (parents_refusal Not.Missing tree path) (through_refusal Not.Missing (kind_at tree path))

-- why a directory isn't taken away
unfoldable pub rmdir_refusal : List Standing → PathNames → Option TreeRefusal
rmdir_refusal tree path =
    option_or (directory_refusal tree path) (refused_if (is_filled tree path) Not.NotEmpty)

-- why a path is no closed file
unfoldable pub look_refusal : List Standing → PathNames → Option TreeRefusal
look_refusal tree path = option_or (parents_refusal Not.Missing tree path) (file_refusal (kind_at tree path))

-- the path of an entry after its directory, or it itself, moved from one path to another
abbrev pub moved : PathNames → PathNames → PathNames → PathNames
moved from to path = to ++ drop (length from) path

-- whether an entry within `from` would have more than the most names, once it is moved
unfoldable pub grows_too_deep : List Standing → PathNames → PathNames → Bool
grows_too_deep tree from to =
    list_any
    (λ (row : Standing). is_within from row.path && nat_lt most_names (length (moved from to row.path)))
    tree

-- why an entry isn't renamed: what is moved isn't there, it would come to lie within itself, its new
-- place isn't free or isn't there, or it would lie too deep
unfoldable pub rename_refusal : List Standing → PathNames → PathNames → Option TreeRefusal
rename_refusal tree from to =
    option_or (parents_refusal Not.Missing tree from)
    (option_or (source_refusal (kind_at tree from))
    (option_or (refused_if (is_within from to) Not.IntoSelf)
    (option_or (add_refusal tree to)
    (refused_if (grows_too_deep tree from to) Not.TooDeep))))

-- the name of a path that has just one
unfoldable pub only_name : PathNames → Option (List ℕ)
only_name [] = None
only_name (name ∷ []) = Some name
only_name (name ∷ next ∷ names) = None

-- the name of an entry in a directory, if it stands right below it
unfoldable pub name_in : PathNames → PathNames → Option (List ℕ)
name_in directory path =
    cond (is_within directory path) (only_name (drop (length directory) path)) None

-- the names right below a directory, in the order of their bytes, each with what it stands for
unfoldable pub names_below : List Standing → PathNames → List Name
names_below tree directory =
    filter_map
    (λ (row : Standing). option_map (λ name. record { part = name; kind = row.kind }) (name_in directory row.path))
    tree

-- a tree of rows that hold more than a path and what stands there: `path_of` reads a row's path, and
-- `at_path` is the row under another path
module _ {Row : Type 0} (path_of : Row → PathNames) where
  -- whether a row stands at a path
  abbrev pub stands_at : PathNames → Row → Bool
  stands_at path row = path_eq (path_of row) path

  -- the order of rows
  abbrev pub row_cmp : Row → Row → Ordering
  row_cmp a b = path_cmp (path_of a) (path_of b)

  -- the tree with a row more
  unfoldable pub added : Row → List Row → List Row
  added row rows = place row_cmp row rows

  -- the tree without what stands at a path
  unfoldable pub taken : PathNames → List Row → List Row
  taken path rows = without (stands_at path) rows

  -- the tree after everything within one path moved to another
  unfoldable pub renamed : (PathNames → Row → Row) → PathNames → PathNames → List Row → List Row
  renamed at_path from to rows =
      let is_moved : Row → Bool = λ row. is_within from (path_of row) in
      place_all row_cmp
      (map (λ row. at_path (moved from to (path_of row)) row) (filter is_moved rows))
      (without is_moved rows)
