-- The rows that entries leave are the files of the history.
use Rattle.std.proofs.Common.{◌≡◌, ℕ, Bool, List, [], ◌∷◌, map, filter, find, cond, not, fold, true, false, Option, Some, None, refl, ap, sym, ◌∙◌}
use Rattle.std.specs.Option.{option_map, option_map_or}
use Rattle.qfs_base.specs.declared.history.Entry.{Entry}
use Rattle.qfs_base.specs.declared.history.Entry.TheVariants as Wrote
use Rattle.qfs_base.specs.FileReplies.{bytes_at, bytes_of_content}
use Rattle.qfs_base.specs.Files.{Puts, FileEntry, close_entry, entry_at, entry_path, files_after, files_of, files_standing, is_unclosed_content, is_unclosed_entry, kind_of_content}
use Rattle.qfs_base.specs.NameTree.{PathNames, added, is_within, moved, path_eq, renamed, row_cmp, stands_at, taken}
use Rattle.qfs_base.specs.Table.{place_all, without}
use Rattle.qfs_laws_tables.specs.EachRow.{each_of_all}
use Rattle.qfs_laws_tables.specs.Placed.{map-changed, map-filter, map-placed, map-placed_all}
use Rattle.qfs_files.specs.declared.row.FileRow.{FileRow}
use Rattle.qfs_files.specs.declared.row.Holding.{Holding}
use Rattle.qfs_files.specs.declared.row.Holding.TheVariants.{Directory, Unclosed, Closed}
use Rattle.qfs_files.specs.Rows.{at_names, closed_by, content_held, entries_from, entry_from, holds_unclosed, is_unclosed_row, kind_held, row_holding, row_names, rows_after, rows_of, standing_of}

unclosed_same : (puts : Puts) (file : ℕ) (row : FileRow)
    → is_unclosed_entry file (entry_from puts row) ≡ is_unclosed_row file row
unfolding is_unclosed_entry is_unclosed_content
unclosed_same puts file row = one row.holding
  where
    one : (holding : Holding) →
        is_unclosed_content file (content_held puts holding) ≡ holds_unclosed file holding
    one Directory = refl
    one (Unclosed number) = refl
    one (Closed number actor command) = refl

entries_moved : (puts : Puts) (from to : PathNames) (rows : List FileRow)
    → map (entry_from puts) (map (λ (row : FileRow). at_names (moved from to row.names) row) rows)
    ≡ map (λ (entry : FileEntry). entry_at (moved from to entry.path) entry)
    (map (entry_from puts) rows)
entries_moved puts from to [] = refl
entries_moved puts from to (row ∷ rows) =
    ap (λ es. entry_from puts (at_names (moved from to row.names) row) ∷ es)
    (entries_moved puts from to rows)

-- one entry more
entries_after : (puts : Puts) (rows : List FileRow) (entry : Entry)
    → entries_from puts (rows_after rows entry) ≡ files_after puts (entries_from puts rows) entry
unfolding files_after added taken renamed close_entry
entries_after puts rows (Wrote.Mkdir path) =
    map-placed (entry_from puts) (row_cmp row_names) (row_cmp entry_path) (λ a b. refl)
    (row_holding path Directory) rows
entries_after puts rows (Wrote.Rmdir path) =
    map-filter (entry_from puts) (λ (row : FileRow). not (path_eq row.names path))
    (λ entry. not (stands_at entry_path path entry)) rows (each_of_all _ (λ row. refl) rows)
entries_after puts rows (Wrote.Created file path) =
    map-placed (entry_from puts) (row_cmp row_names) (row_cmp entry_path) (λ a b. refl)
    (row_holding path (Unclosed file)) rows
entries_after puts rows (Wrote.Closed file actor command) =
    map-changed (entry_from puts) (is_unclosed_row file) (is_unclosed_entry file)
    (closed_by file actor command) (close_entry file (puts actor command)) rows
    (each_of_all _ (λ row. (unclosed_same puts file row, λ _. refl)) rows)
entries_after puts rows (Wrote.Aborted file) =
    map-filter (entry_from puts) (λ row. not (is_unclosed_row file row))
    (λ entry. not (is_unclosed_entry file entry)) rows
    (each_of_all _ (λ row. ap not (unclosed_same puts file row)) rows)
entries_after puts rows (Wrote.Removed path) =
    map-filter (entry_from puts) (λ (row : FileRow). not (path_eq row.names path))
    (λ entry. not (stands_at entry_path path entry)) rows (each_of_all _ (λ row. refl) rows)
entries_after puts rows (Wrote.Renamed from to) =
    let is_moved : FileRow → Bool = λ row. is_within from row.names in
    let entry_moved : FileEntry → Bool = λ entry. is_within from entry.path in
    map-placed_all (entry_from puts) (row_cmp row_names) (row_cmp entry_path) (λ a b. refl)
    (map (λ (row : FileRow). at_names (moved from to row.names) row) (filter is_moved rows))
    (without is_moved rows)
    ∙ (λ i. place_all (row_cmp entry_path)
    ((entries_moved puts from to (filter is_moved rows)
    ∙ ap (map (λ (entry : FileEntry). entry_at (moved from to entry.path) entry))
    (map-filter (entry_from puts) is_moved entry_moved rows (each_of_all _ (λ row. refl) rows))) i)
    (map-filter (entry_from puts) (λ row. not (is_moved row)) (λ entry. not (entry_moved entry))
    rows (each_of_all _ (λ row. refl) rows) i))

entries_fold : (puts : Puts) (rows : List FileRow) (history : List Entry)
    → entries_from puts (fold rows_after rows history)
    ≡ fold (files_after puts) (entries_from puts rows) history
entries_fold puts rows [] = refl
entries_fold puts rows (entry ∷ history) =
    entries_fold puts (rows_after rows entry) history
    ∙ ap (λ files. fold (files_after puts) files history) (entries_after puts rows entry)

-- all entries
pub entries_of : (puts : Puts) (history : List Entry)
    → entries_from puts (rows_of history) ≡ files_of puts history
unfolding files_of
entries_of puts history = entries_fold puts [] history

-- ---- what stands, and the bytes

kind_same : (puts : Puts) (holding : Holding)
    → kind_of_content (content_held puts holding) ≡ kind_held holding
unfolding kind_of_content
kind_same puts Directory = refl
kind_same puts (Unclosed file) = refl
kind_same puts (Closed file actor command) = refl

pub standing_same : (puts : Puts) (rows : List FileRow)
    → files_standing (entries_from puts rows) ≡ standing_of rows
unfolding files_standing
standing_same puts [] = refl
standing_same puts (row ∷ rows) =
    (λ i. record { path = row.names; kind = kind_same puts row.holding i }
    ∷ standing_same puts rows i)

find_same : (puts : Puts) (rows : List FileRow) (path : PathNames)
    → find (stands_at entry_path path) (entries_from puts rows)
    ≡ option_map (entry_from puts) (find (stands_at row_names path) rows)
find_same puts [] path = refl
find_same puts (row ∷ rows) path =
    elim (path_eq row.names path) as (λ b.
    cond b (Some (entry_from puts row)) (find (stands_at entry_path path) (entries_from puts rows))
    ≡ option_map (entry_from puts) (cond b (Some row) (find (stands_at row_names path) rows)))
    [ true ↦ refl | false ↦ find_same puts rows path ]

-- the bytes at a path are those of the row that is found there
pub bytes_found : (puts : Puts) (rows : List FileRow) (path : PathNames) (found : Option FileRow)
    → found ≡ find (stands_at row_names path) rows
    → bytes_at (entries_from puts rows) path
    ≡ option_map_or (λ (row : FileRow). bytes_of_content (content_held puts row.holding)) found []
unfolding bytes_at
bytes_found puts rows path found is =
    ap (λ o. option_map_or (λ (entry : FileEntry). bytes_of_content entry.content) o [])
    (find_same puts rows path ∙ ap (option_map (entry_from puts)) (sym is))
    ∙ mapped found
  where
    mapped : (o : Option FileRow)
        → option_map_or (λ (entry : FileEntry). bytes_of_content entry.content)
        (option_map (entry_from puts) o) []
        ≡ option_map_or (λ (row : FileRow). bytes_of_content (content_held puts row.holding)) o []
    mapped None = refl
    mapped (Some row) = refl
