-- The rows of the tree as rows of an image's tree, with what makes up the rest of these: each change
-- of the one is that of the other. Cited by those who tie more to the names.
use Rattle.std.proofs.Common.{Bool, List, [], cond, filter, map, refl, true, false, ℕ, ◌∙◌, ◌∷◌, ◌≡◌}
use Rattle.std.specs.Ordering.{nat_cmp}
use Rattle.qfs_base.specs.NameTree.{PathNames, added, is_within, moved, path_eq, renamed, row_cmp, taken}
use Rattle.qfs_base.specs.Table.{Each, change_where, has_key, place, place_all, without}
use Rattle.qfs_base.specs.declared.image.TreeRow.{TreeRow}
use Rattle.qfs_laws_tables.specs.EachRow.{each_of_all}
use Rattle.qfs_laws_tables.specs.Placed.{map-changed, map-filter, map-placed, map-placed_all}
use Rattle.qfs_model_meta.specs.TreeRows as image
use Rattle.qfs_names.specs.Names.{at_path, close_file, closed_row, of_file, row_kind, row_path, standing_of, take_file}
use Rattle.qfs_names.specs.declared.row.NameRow.{NameRow}

-- a row with the actor, the command and the length that a function of its file says
abbrev pub with_maker : (ℕ → ℕ) → (ℕ → ℕ) → (ℕ → ℕ) → NameRow → TreeRow
with_maker actor command len row =
    record {
      path = row.path;
      file = row.file;
      closed = row.closed;
      actor = actor row.file;
      command = command row.file;
      len = len row.file;
    }

pub rows-standing : (actor command len : ℕ → ℕ) (rows : List NameRow)
    → standing_of rows ≡ image.standing (map (with_maker actor command len) rows)
unfolding image.standing
rows-standing actor command len [] = refl
rows-standing actor command len (row ∷ rows) =
    (λ i. record { path = row.path; kind = row_kind row } ∷ rows-standing actor command len rows i)

pub rows-added : (actor command len : ℕ → ℕ) (new : NameRow) (rows : List NameRow)
    → map (with_maker actor command len) (added row_path new rows) ≡ image.add_row (with_maker actor command len new) (map (with_maker actor command len) rows)
unfolding added image.add_row
rows-added actor command len new rows =
    map-placed (with_maker actor command len) (row_cmp row_path) (row_cmp image.row_path) (λ a b. refl) new rows

pub rows-taken : (actor command len : ℕ → ℕ) (path : PathNames) (rows : List NameRow)
    → map (with_maker actor command len) (taken row_path path rows) ≡ image.take_path path (map (with_maker actor command len) rows)
unfolding taken image.take_path
rows-taken actor command len path rows =
    map-filter (with_maker actor command len) _ _ rows (each_of_all _ (λ row. refl) rows)

pub rows-without_file : (actor command len : ℕ → ℕ) (file : ℕ) (rows : List NameRow)
    → map (with_maker actor command len) (take_file file rows) ≡ image.take_file file (map (with_maker actor command len) rows)
unfolding image.take_file image.has_file
rows-without_file actor command len file rows =
    map-filter (with_maker actor command len) _ _ rows (each_of_all _ (λ row. refl) rows)

pub rows-closed : (actor command len : ℕ → ℕ) (file : ℕ) (rows : List NameRow)
    → map (with_maker actor command len) (close_file file rows) ≡ image.close_file file (map (with_maker actor command len) rows)
unfolding image.close_file image.close_row image.has_file
rows-closed actor command len file rows =
    map-changed (with_maker actor command len) (of_file file) (λ (row : TreeRow). of_number row) closed_row
    (λ (row : TreeRow). record row { closed = true }) rows
    (each_of_all _ (λ row. (refl, λ _. refl)) rows)
  where
    of_number : TreeRow → Bool
    of_number row = has_key (λ (row : TreeRow). nat_cmp file row.file) row

pub rows-moved : (actor command len : ℕ → ℕ) (from to : PathNames) (rows : List NameRow)
    → map (with_maker actor command len) (renamed row_path at_path from to rows) ≡ image.move_path from to (map (with_maker actor command len) rows)
unfolding renamed image.move_path
rows-moved actor command len from to rows =
    map-placed_all (with_maker actor command len) (row_cmp row_path) (row_cmp image.row_path) (λ a b. refl)
    (map (λ (row : NameRow). at_path (moved from to row.path) row)
    (filter (λ (row : NameRow). is_within from row.path) rows))
    (without (λ (row : NameRow). is_within from row.path) rows)
    ∙ (λ i. place_all (row_cmp image.row_path) (news rows i) (others i))
  where
    others : map (with_maker actor command len) (without (λ (row : NameRow). is_within from row.path) rows)
        ≡ without (λ (row : TreeRow). is_within from row.path) (map (with_maker actor command len) rows)
    others = map-filter (with_maker actor command len) _ _ rows (each_of_all _ (λ row. refl) rows)

    news : (rows : List NameRow)
        → map (with_maker actor command len) (map (λ (row : NameRow). at_path (moved from to row.path) row)
        (filter (λ (row : NameRow). is_within from row.path) rows))
        ≡ map (λ (row : TreeRow). image.at_path (moved from to row.path) row)
        (filter (λ (row : TreeRow). is_within from row.path) (map (with_maker actor command len) rows))
    news [] = refl
    news (row ∷ rows) =
        elim (is_within from row.path) as (λ b.
        map (with_maker actor command len) (map (λ (row : NameRow). at_path (moved from to row.path) row)
        (cond b (row ∷ filter (λ (row : NameRow). is_within from row.path) rows)
        (filter (λ (row : NameRow). is_within from row.path) rows)))
        ≡ map (λ (row : TreeRow). image.at_path (moved from to row.path) row)
        (cond b (with_maker actor command len row ∷ filter (λ (row : TreeRow). is_within from row.path) (map (with_maker actor command len) rows))
        (filter (λ (row : TreeRow). is_within from row.path) (map (with_maker actor command len) rows)))) [
          | true ↦ (λ i. with_maker actor command len (at_path (moved from to row.path) row) ∷ news rows i)
          | false ↦ news rows
        ]
