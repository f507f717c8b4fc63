-- The file history: after each change its entry may follow, and the files are the tree. Cited by
-- the laws of the metaserver and of puts and gets.
use Rattle.qfs_base.specs.Files.{FileEntry, FollowFrom, IsClosed, Puts, close_entry, created_count}
use Rattle.qfs_base.specs.Files.{creates, entry_at, entry_path, files_after, files_of}
use Rattle.qfs_base.specs.Files.{files_standing, is_unclosed_content, is_unclosed_entry}
use Rattle.qfs_base.specs.Files.{kind_of_content, may_follow}
use Rattle.qfs_base.specs.NameTree.{PathNames, add_refusal, added, is_within, look_refusal, moved}
use Rattle.qfs_base.specs.NameTree.{path_eq, rename_refusal, renamed, rmdir_refusal, row_cmp}
use Rattle.qfs_base.specs.NameTree.{stands_at, taken}
use Rattle.qfs_base.specs.Table.{Each, place, place_all, without}
use Rattle.qfs_base.specs.declared.change.Change.TheVariants.{AbortFile, AddDirectory, AddFile}
use Rattle.qfs_base.specs.declared.change.Change.TheVariants.{CloseFile, MovePath, RemoveFile}
use Rattle.qfs_base.specs.declared.change.Change.TheVariants.{TakeDirectory}
use Rattle.qfs_base.specs.declared.history.Entry.{Entry}
use Rattle.qfs_base.specs.declared.image.MetaImage.{MetaImage}
use Rattle.qfs_base.specs.declared.image.TreeRow.{TreeRow}
use Rattle.qfs_base.specs.declared.lists.NameKind.{NameKind}
use Rattle.qfs_model_meta.specs.Apply.{add_file, apply, with_slots, write_entry}
use Rattle.qfs_model_meta.specs.Sound.{TreeIsHistory, content_of, file_entry}
use Rattle.qfs_model_meta.specs.TreeRows.{add_row, at_path, close_file, close_row, directory_row}
use Rattle.qfs_model_meta.specs.TreeRows.{file_row, has_file, kind_of, move_path, row_path}
use Rattle.qfs_model_meta.specs.TreeRows.{standing, take_file, take_path}
use Rattle.std.proofs.Common.{Bool, List, None, [], ap, arith, false, filter, map, not, refl, subst}
use Rattle.std.proofs.Common.{suc, sym, true, zero, ℕ, ◌++◌, ◌+◌, ◌<◌, ◌==◌, ◌||◌, ◌∙◌, ◌∷◌, ◌≡◌}
use Rattle.std.proofs.Common.{◌≤◌}
use Rattle.std.proofs.lemmas.Bool.{and_from, eq-eqb, eqb-true}
use Rattle.std.proofs.lemmas.List.Sums.{fold-append}
use Rattle.std.specs.List.{list_any}
use Rattle.std.specs.Prelude.{IsTrue, fold}
use Rattle.qfs_base.specs.declared.history.Entry.TheVariants as Wrote
use Rattle.qfs_base.specs.declared.lists.NameKind.TheVariants as Is
use Rattle.qfs_laws_slots.specs.Changes.{MayMove}
use Rattle.qfs_laws_slots.specs.RowKeys.{has_file-is, own-file}
use Rattle.qfs_base.specs.EachLaws.{each_weaker}
use Rattle.qfs_laws_tables.specs.EachRow.{each_of_all, each_both, is-none}
use Rattle.qfs_laws_tables.specs.Placed.{map-changed, map-filter, map-placed, map-placed_all}

-- ---- one entry more

follow-more : (puts : Puts) (created : ℕ) (files : List FileEntry) (history : List Entry)
    (entry : Entry)
    → FollowFrom puts created files history
    → IsTrue (may_follow (fold (λ a e. a + creates e) created history)
    (fold (files_after puts) files history) entry)
    → FollowFrom puts created files (history ++ entry ∷ [])
follow-more puts created files [] entry before may = (may, tt)
follow-more puts created files (first ∷ rest) entry before may = (
  before.0,
  follow-more puts (created + creates first) (files_after puts files first) rest entry
      before.1 may,
)

count-more : (history : List Entry) (entry : Entry)
    → created_count (history ++ entry ∷ []) ≡ created_count history + creates entry
unfolding created_count
count-more history entry = fold-append (λ a e. a + creates e) 0 history (entry ∷ [])

files-more : (puts : Puts) (history : List Entry) (entry : Entry)
    → files_of puts (history ++ entry ∷ []) ≡ files_after puts (files_of puts history) entry
unfolding files_of
files-more puts history entry = fold-append (files_after puts) [] history (entry ∷ [])

-- the tree as the rules see it is that of the files
pub standing-files : (puts : Puts) (tree : List TreeRow)
    → files_standing (map (file_entry puts) tree) ≡ standing tree
unfolding files_standing standing file_entry content_of kind_of_content
standing-files puts [] = refl
standing-files puts (row ∷ rows) =
    (λ i. record { path = row.path; kind = same row.file row.closed i } ∷ standing-files puts rows
    i)
  where
    same : (file : ℕ) (closed : Bool)
        → kind_of_content (content_of puts row (kind_of file closed)) ≡ kind_of file closed
    same file closed = one (kind_of file closed)
      where
        one : (kind : NameKind) → kind_of_content (content_of puts row kind) ≡ kind
        one Is.Directory = refl
        one Is.Unclosed = refl
        one Is.Closed = refl

-- the tree after an entry that may follow
pub history-more : (m : MetaImage) (entry : Entry) (tree : List TreeRow) (next : ℕ)
    → ((puts : Puts) → IsTrue (may_follow (created_count m.history) (map (file_entry puts) m.tree)
    entry))
    → ((puts : Puts) → map (file_entry puts) tree ≡ files_after puts (map (file_entry puts) m.tree)
    entry)
    → next ≡ m.next_file + creates entry
    → TreeIsHistory m → TreeIsHistory
    (record m { tree = tree; next_file = next; history = m.history ++ entry ∷ [] })
unfolding created_count files_of
history-more m entry tree next may files number h = record {
  files = λ puts. files puts ∙ ap (λ fs. files_after puts fs entry) (h.files puts) ∙ sym
      (files-more puts m.history entry);
  legal = λ puts. follow-more puts 0 [] m.history entry (h.legal puts)
      (subst (λ fs. IsTrue (may_follow (created_count m.history) fs entry)) (h.files puts)
      (may puts));
  numbers = let c = count-more m.history entry in let n = h.numbers in omega arith;
}

entry-order : (puts : Puts) (a b : TreeRow)
    → row_cmp entry_path (file_entry puts a) (file_entry puts b) ≡ row_cmp row_path a b
unfolding file_entry
entry-order puts a b = refl

-- ---- change by change

pub kind-unclosed : (n : ℕ) → 1 ≤ n → kind_of n false ≡ Is.Unclosed
unfolding kind_of
kind-unclosed zero low = absurd (omega arith)
kind-unclosed (suc n) low = refl

pub kind-closed : (n : ℕ) → 1 ≤ n → kind_of n true ≡ Is.Closed
unfolding kind_of
kind-closed zero low = absurd (omega arith)
kind-closed (suc n) low = refl

pub history-directory : (m : MetaImage) (path : PathNames)
    → add_refusal (standing m.tree) path ≡ None → TreeIsHistory m
    → TreeIsHistory (apply m (AddDirectory path))
unfolding apply write_entry add_row added may_follow files_after directory_row file_entry content_of
    kind_of creates
history-directory m path free h =
    history-more m (Wrote.Mkdir path) (add_row (directory_row path) m.tree) m.next_file
    (λ puts. is-none _ (ap (λ t. add_refusal t path) (standing-files puts m.tree) ∙ free))
    (λ puts. map-placed (file_entry puts) (row_cmp row_path) (row_cmp entry_path) (entry-order puts)
    (directory_row path) m.tree)
    (omega arith) h

pub history-file : (m : MetaImage) (path : PathNames) (actor command len : ℕ) → 1 ≤ m.next_file
    → add_refusal (standing m.tree) path ≡ None → TreeIsHistory m
    → TreeIsHistory (apply m (AddFile path actor command len))
unfolding apply add_file write_entry add_row added may_follow files_after file_row file_entry
    content_of creates
history-file m path actor command len some free h =
    history-more m (Wrote.Created m.next_file path)
    (add_row (file_row path m.next_file actor command len) m.tree) (m.next_file + 1)
    (λ puts. and_from _ _ (eq-eqb _ _ h.numbers)
    (is-none _ (ap (λ t. add_refusal t path) (standing-files puts m.tree) ∙ free)))
    (λ puts. map-placed (file_entry puts) (row_cmp row_path) (row_cmp entry_path) (entry-order puts)
    (file_row path m.next_file actor command len) m.tree
    ∙ ap (λ c. place (row_cmp entry_path) (record { path = path; content = c })
    (map (file_entry puts) m.tree))
    (ap (content_of puts (file_row path m.next_file actor command len))
    (kind-unclosed m.next_file some)))
    refl h

pub history-taken : (m : MetaImage) (path : PathNames) → rmdir_refusal (standing m.tree) path ≡ None
    → TreeIsHistory m → TreeIsHistory (apply m (TakeDirectory path))
unfolding apply write_entry take_path taken may_follow files_after file_entry creates
history-taken m path free h =
    history-more m (Wrote.Rmdir path) (take_path path m.tree) m.next_file
    (λ puts. is-none _ (ap (λ t. rmdir_refusal t path) (standing-files puts m.tree) ∙ free))
    (λ puts. map-filter (file_entry puts) (λ (row : TreeRow). not (path_eq row.path path))
    (λ entry. not (stands_at entry_path path entry)) m.tree (each_of_all _ (λ row. refl) m.tree))
    (omega arith) h

pub history-removed : (m : MetaImage) (path : PathNames) (file : ℕ)
    → look_refusal (standing m.tree) path ≡ None → TreeIsHistory m
    → TreeIsHistory (apply m (RemoveFile path file))
unfolding apply write_entry with_slots take_path taken may_follow files_after file_entry creates
history-removed m path file looks h =
    let k = history-more m (Wrote.Removed path) (take_path path m.tree) m.next_file
    (λ puts. is-none _ (ap (λ t. look_refusal t path) (standing-files puts m.tree) ∙ looks))
    (λ puts. map-filter (file_entry puts) (λ (row : TreeRow). not (path_eq row.path path))
    (λ entry. not (stands_at entry_path path entry)) m.tree (each_of_all _ (λ row. refl) m.tree))
    (omega arith) h in
    record { files = k.files; legal = k.legal; numbers = k.numbers }

pub history-moved : (m : MetaImage) (from to : PathNames) → MayMove m from to → TreeIsHistory m
    → TreeIsHistory (apply m (MovePath from to))
unfolding apply write_entry move_path renamed may_follow files_after file_entry creates content_of
history-moved m from to may h =
    history-more m (Wrote.Renamed from to) (move_path from to m.tree) m.next_file
    (λ puts. is-none _ (ap (λ t. rename_refusal t from to) (standing-files puts m.tree) ∙ may.free))
    (λ puts.
    let is_moved : TreeRow → Bool = λ row. is_within from row.path in
    let entry_moved : FileEntry → Bool = λ entry. is_within from entry.path in
    map-placed_all (file_entry puts) (row_cmp row_path) (row_cmp entry_path) (entry-order puts)
    (map (λ (row : TreeRow). at_path (moved from to row.path) row) (filter is_moved m.tree))
    (without is_moved m.tree)
    ∙ (λ i. place_all (row_cmp entry_path) (both puts is_moved entry_moved i)
    (map-filter (file_entry puts) (λ row. not (is_moved row)) (λ entry. not (entry_moved entry))
    m.tree (each_of_all _ (λ row. refl) m.tree) i)))
    (omega arith) h
  where
    both : (puts : Puts) (is_moved : TreeRow → Bool) (entry_moved : FileEntry → Bool)
        → map (file_entry puts) (map (λ (row : TreeRow). at_path (moved from to row.path) row)
        (filter (λ (row : TreeRow). is_within from row.path) m.tree))
        ≡ map (λ (entry : FileEntry). entry_at (moved from to entry.path) entry)
        (filter (λ (entry : FileEntry). is_within from entry.path) (map (file_entry puts) m.tree))
    both puts is_moved entry_moved =
        over puts (filter (λ (row : TreeRow). is_within from row.path) m.tree) ∙ ap
        (map (λ (entry : FileEntry). entry_at (moved from to entry.path) entry))
        (map-filter (file_entry puts) (λ (row : TreeRow). is_within from row.path)
        (λ (entry : FileEntry). is_within from entry.path) m.tree
        (each_of_all _ (λ row. refl) m.tree))
      where
        over : (puts : Puts) (rows : List TreeRow)
            → map (file_entry puts) (map (λ (row : TreeRow). at_path (moved from to row.path) row)
            rows) ≡ map (λ (entry : FileEntry). entry_at (moved from to entry.path) entry)
            (map (file_entry puts) rows)
        over puts [] = refl
        over puts (row ∷ rows) =
            ap (λ es. file_entry puts (at_path (moved from to row.path) row) ∷ es) (over puts rows)

-- the rows of a file that is closed or given up
pub record IsUnclosedFile (file : ℕ) (tree : List TreeRow) : Type 0 where
  pub some : 0 < file
  pub unclosed : Each (λ (row : TreeRow). row.file ≡ file → row.closed ≡ false) tree
  pub there : list_any (has_file file) tree ≡ true

-- a row's content is the unclosed file exactly where the row is of it
unclosed-content : (puts : Puts) (file : ℕ) (row : TreeRow) → 0 < file
    → (row.file ≡ file → row.closed ≡ false)
    → is_unclosed_content file (content_of puts row (kind_of row.file row.closed)) ≡ (row.file ==
    file)
unfolding is_unclosed_content content_of
unclosed-content puts file row some still_open =
    (elim (row.file == file) as (λ t. (row.file == file) ≡ t → is_unclosed_content file
    (content_of puts row (kind_of row.file row.closed)) ≡ t) [
      | true ↦ λ own.
          let e : row.file ≡ file = eqb-true row.file file own in
          ap (λ b. is_unclosed_content file (content_of puts row (kind_of row.file b)))
          (still_open e)
          ∙ ap (λ k. is_unclosed_content file (content_of puts row k))
          (kind-unclosed row.file (omega arith)) ∙ own
      | false ↦ λ off. any_kind (kind_of row.file row.closed) off
    ]) refl
  where
    any_kind : (kind : NameKind) → (row.file == file) ≡ false
        → is_unclosed_content file (content_of puts row kind) ≡ false
    any_kind Is.Directory off = refl
    any_kind Is.Unclosed off = off
    any_kind Is.Closed off = refl

unclosed-same : (puts : Puts) (file : ℕ) (row : TreeRow) → 0 < file
    → (row.file ≡ file → row.closed ≡ false)
    → is_unclosed_entry file (file_entry puts row) ≡ has_file file row
unfolding is_unclosed_entry file_entry
unclosed-same puts file row some still_open =
    one row.file row.closed refl refl ∙ sym (has_file-is file row)
  where
    one : (n : ℕ) (b : Bool) → row.file ≡ n → row.closed ≡ b
        → is_unclosed_content file (content_of puts row
        (kind_of row.file row.closed)) ≡ (row.file == file)
    one n b p q = unclosed-content puts file row some still_open

any_entries : (puts : Puts) (file : ℕ) (rows : List TreeRow)
    → Each (λ (row : TreeRow). is_unclosed_entry file (file_entry puts row) ≡ has_file file row)
    rows
    → list_any (has_file file) rows ≡ true
    → list_any (is_unclosed_entry file) (map (file_entry puts) rows) ≡ true
any_entries puts file [] same any = absurd (cc)
any_entries puts file (row ∷ rows) same any =
    (elim (has_file file row) as (λ b. is_unclosed_entry file (file_entry puts row) ≡ b →
    (b || list_any (has_file file) rows) ≡ true →
    (is_unclosed_entry file (file_entry puts row) || list_any (is_unclosed_entry file)
    (map (file_entry puts) rows)) ≡ true) [
      | true ↦ λ e _. ap (λ b. b || list_any (is_unclosed_entry file) (map (file_entry puts) rows))
          e
      | false ↦ λ e any. ap (λ b. b || list_any (is_unclosed_entry file)
          (map (file_entry puts) rows)) e ∙ any_entries puts file rows same.1 any
    ]) same.0 any

closed-entry : (puts : Puts) (file actor command : ℕ) (row : TreeRow) → 0 < file
    → has_file file row ≡ true → (row.file ≡ file → (row.actor ≡ actor) × (row.command ≡ command))
    → file_entry puts (close_row row) ≡ close_entry file (puts actor command) (file_entry puts row)
unfolding file_entry close_row close_entry content_of
closed-entry puts file actor command row some own made =
    let e : row.file ≡ file = own-file file row own in
    let by = made e in
    (λ i. record {
      path = row.path;
      content =
          (ap (content_of puts (record row { closed = true })) (kind-closed row.file (omega arith))
          ∙ (λ j. IsClosed (e j) (puts (by.0 j) (by.1 j)))) i;
    })

pub history-aborted : (m : MetaImage) (file : ℕ) → IsUnclosedFile file m.tree → TreeIsHistory m
    → TreeIsHistory (apply m (AbortFile file))
unfolding apply write_entry with_slots take_file may_follow files_after creates
history-aborted m file is h =
    let same : (puts : Puts) → Each
    (λ (row : TreeRow). is_unclosed_entry file (file_entry puts row) ≡ has_file file row)
    m.tree = λ puts. each_weaker _ _ (λ row o. unclosed-same puts file row is.some o) m.tree
    is.unclosed in
    let k = history-more m (Wrote.Aborted file) (take_file file m.tree) m.next_file
    (λ puts. any_entries puts file m.tree (same puts) is.there)
    (λ puts. map-filter (file_entry puts) (λ (row : TreeRow). not (has_file file row))
    (λ entry. not (is_unclosed_entry file entry)) m.tree
    (each_weaker _ _ (λ row e. ap not e) m.tree (same puts)))
    (omega arith) h in
    record { files = k.files; legal = k.legal; numbers = k.numbers }

pub history-closed : (m : MetaImage) (file actor command : ℕ) → IsUnclosedFile file m.tree
    → Each (λ (row : TreeRow). row.file ≡ file → (row.actor ≡ actor) × (row.command ≡ command))
    m.tree
    → TreeIsHistory m → TreeIsHistory (apply m (CloseFile file actor command))
unfolding apply write_entry with_slots close_file may_follow files_after creates
history-closed m file actor command is made h =
    let same : (puts : Puts) → Each
    (λ (row : TreeRow). is_unclosed_entry file (file_entry puts row) ≡ has_file file row)
    m.tree = λ puts. each_weaker _ _ (λ row o. unclosed-same puts file row is.some o) m.tree
    is.unclosed in
    let k = history-more m (Wrote.Closed file actor command) (close_file file m.tree) m.next_file
    (λ puts. any_entries puts file m.tree (same puts) is.there)
    (λ puts. map-changed (file_entry puts) (has_file file) (is_unclosed_entry file) close_row
    (close_entry file (puts actor command)) m.tree
    (each_weaker (λ (row : TreeRow).
    (is_unclosed_entry file (file_entry puts row) ≡ has_file file row)
    × (row.file ≡ file → (row.actor ≡ actor) × (row.command ≡ command))) _
    (λ row b. (b.0, λ own. closed-entry puts file actor command row is.some own b.1)) m.tree
    (each_both _ (λ (row : TreeRow). row.file ≡ file → (row.actor ≡ actor)
    × (row.command ≡ command)) m.tree (same puts) made)))
    (omega arith) h in
    record { files = k.files; legal = k.legal; numbers = k.numbers }
