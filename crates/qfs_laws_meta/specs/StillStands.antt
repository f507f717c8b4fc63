-- What each change leaves of the files of the tree: an unclosed file is still its actor's, a closed
-- one is still closed and one that is gone stays so, but for a change that ends it. Cited by the
-- laws of what is held.
use Rattle.qfs_base.specs.NameTree.{PathNames, kind_at, path_eq, renamed, taken}
use Rattle.qfs_base.specs.Table.{Each, change_where}
use Rattle.qfs_base.specs.declared.change.Change.TheVariants.{AbortFile, AddDirectory, AddFile}
use Rattle.qfs_base.specs.declared.change.Change.TheVariants.{CloseFile, CondemnStray, ConfirmSlot}
use Rattle.qfs_base.specs.declared.change.Change.TheVariants.{EmptySlot, FailGrant, GiveUp}
use Rattle.qfs_base.specs.declared.change.Change.TheVariants.{GrantSlot, MovePath, RemoveFile}
use Rattle.qfs_base.specs.declared.change.Change.TheVariants.{TakeDirectory}
use Rattle.qfs_base.specs.declared.change.Change.{Change}
use Rattle.qfs_base.specs.declared.image.MetaImage.{MetaImage}
use Rattle.qfs_base.specs.declared.image.TreeRow.{TreeRow}
use Rattle.qfs_base.specs.declared.lists.NameKind.TheVariants as Is
use Rattle.qfs_base.specs.declared.lists.NameKind.{NameKind}
use Rattle.qfs_laws_meta.specs.Kept.{Fits, tree-back}
use Rattle.qfs_laws_meta.specs.KnownChanges.{StandsBack}
use Rattle.qfs_laws_slots.specs.Changes.{MayMake, MayMove}
use Rattle.qfs_laws_slots.specs.Losing.{losing-frame, stray-frame}
use Rattle.qfs_laws_slots.specs.RowKeys.{has_file-is, own-file}
use Rattle.qfs_laws_tables.specs.SomeRow.{any_change, any_filter, any_filter_given, some-any}
use Rattle.qfs_laws_tree.specs.Files.{closed-root, emptied-root}
use Rattle.qfs_laws_tree.specs.Move.{move-onward, moves-of, split-any}
use Rattle.qfs_laws_tree.specs.Stands.{added-onward, at_path-off, closing-onward, emptied-onward}
use Rattle.qfs_laws_tree.specs.Stands.{removed-onward, without_file-onward}
use Rattle.qfs_laws_tree.specs.TreeChanges.{any-added}
use Rattle.qfs_laws_tree.specs.TreeFacts.{kind_in, look-closed, rmdir-empty}
use Rattle.qfs_model_meta.specs.Apply.{add_file, apply, bring_up, finish_lease, grant_slot}
use Rattle.qfs_model_meta.specs.Apply.{with_slots, write_entry}
use Rattle.qfs_model_meta.specs.Past.{Past}
use Rattle.qfs_model_meta.specs.TreeRows.{close_file, close_row, closed_file, directory_row}
use Rattle.qfs_model_meta.specs.TreeRows.{file_row, file_stands, has_file, is_unclosed}
use Rattle.qfs_model_meta.specs.TreeRows.{is_unclosed_of, is_unclosed_row, move_path, standing}
use Rattle.qfs_model_meta.specs.TreeRows.{take_file, take_path, unclosed_file}
use Rattle.std.proofs.Common.{Bool, List, Some, [], ap, arith, false, filter, not, refl, subst, sym}
use Rattle.std.proofs.Common.{true, ℕ, ◌&&◌, ◌<◌, ◌==◌, ◌∙◌, ◌≡◌, ◌≤◌}
use Rattle.std.proofs.lemmas.Bool.{and_parts, eq-eqb, ne_eqb, or_right, true≢false}
use Rattle.std.specs.List.{list_any}
use Rattle.std.specs.Prelude.{IsTrue, is_some}

abbrev pub unclosed_test : ℕ → ℕ → TreeRow → Bool
unclosed_test actor file row = is_unclosed_of actor row && has_file file row

pub unclosed-any : (actor file : ℕ) (tree : List TreeRow)
    → is_some (unclosed_file actor file tree) ≡ list_any (unclosed_test actor file) tree
unfolding unclosed_file
unclosed-any actor file tree = some-any (unclosed_test actor file) tree

abbrev pub Writes : MetaImage → ℕ → ℕ → Type 0
Writes m actor file = IsTrue (is_some (unclosed_file actor file m.tree))

abbrev pub IsClosedIn : MetaImage → ℕ → Type 0
IsClosedIn m file = IsTrue (is_some (closed_file file m.tree))

-- a change closes a file or gives it up, or takes it away
abbrev pub EndsFile : Change → ℕ → Type 0
EndsFile (CloseFile other actor command) file = other ≡ file
EndsFile (AbortFile other) file = other ≡ file
EndsFile (RemoveFile path other) file = other ≡ file
EndsFile change file = ⊥

onward : (actor file : ℕ) (tree more : List TreeRow)
    → (list_any (unclosed_test actor file) tree ≡ true → list_any (unclosed_test actor file)
    more ≡ true)
    → IsTrue (is_some (unclosed_file actor file tree))
    → IsTrue (is_some (unclosed_file actor file more))
onward actor file tree more on is =
    subst IsTrue (sym (unclosed-any actor file more))
    (on (subst IsTrue (unclosed-any actor file tree) is))

apart-files : (a b : ℕ) → (b ≡ a → ⊥) → (a == b) ≡ false
apart-files a b apart = ne_eqb a b (λ e. apart (sym e))

-- the row at a path is no unclosed file, so taking it away takes none
taken-on : (actor file : ℕ) (path : PathNames) (tree : List TreeRow)
    → Each (λ row. (path_eq row.path path && unclosed_test actor file row) ≡ false) tree
    → IsTrue (is_some (unclosed_file actor file tree))
    → IsTrue (is_some (unclosed_file actor file (take_path path tree)))
unfolding take_path taken
taken-on actor file path tree off =
    onward actor file tree (filter (λ (row : TreeRow). not (path_eq row.path path)) tree)
    (any_filter_given (λ row. (path_eq row.path path && unclosed_test actor file row) ≡ false)
    (unclosed_test actor file) (λ (row : TreeRow). not (path_eq row.path path))
    (λ row o is. one (path_eq row.path path) (unclosed_test actor file row) o is) tree off)
  where
    one : (a b : Bool) → (a && b) ≡ false → b ≡ true → not a ≡ true
    one true b o is = absurd (true≢false (sym is ∙ o))
    one false b o is = refl

-- a row of another kind is none of an unclosed file
other-kind : (actor file : ℕ) (row : TreeRow) (kind : NameKind) → is_unclosed kind ≡ false
    → kind_in row ≡ kind → unclosed_test actor file row ≡ false
unfolding is_unclosed_of is_unclosed_row
other-kind actor file row kind other is =
    one _ _ _ (ap is_unclosed is ∙ other)
  where
    one : (a b c : Bool) → a ≡ false → (a && b && c) ≡ false
    one true b c e = absurd (cc)
    one false b c e = refl

directory-open : is_unclosed Is.Directory ≡ false
unfolding is_unclosed
directory-open = refl

closed-open : is_unclosed Is.Closed ≡ false
unfolding is_unclosed
closed-open = refl

taken-away : (actor file : ℕ) (path : PathNames) (m : MetaImage) (kind : NameKind) → Fits m
    → (path ≡ [] → ⊥) → kind_at (standing m.tree) path ≡ Some kind → is_unclosed kind ≡ false
    → Writes m actor file → IsTrue (is_some (unclosed_file actor file (take_path path m.tree)))
taken-away actor file path m kind f root at other =
    taken-on actor file path m.tree
    (at_path-off m.tree path kind (unclosed_test actor file) f.tree.in_order root at
    (λ row _ is. other-kind actor file row kind other is))

closing-on : (actor file other : ℕ) (tree : List TreeRow) → (other ≡ file → ⊥)
    → IsTrue (is_some (unclosed_file actor file tree))
    → IsTrue (is_some (unclosed_file actor file (close_file other tree)))
unfolding close_file
closing-on actor file other tree apart =
    onward actor file tree (change_where (has_file other) close_row tree)
    (any_change (unclosed_test actor file) (has_file other) close_row
    (λ row is own. absurd (apart (sym (own-file other row own) ∙ own-file file row
    (and_parts (is_unclosed_of actor row) (has_file file row) is).1))) tree)

aborting-on : (actor file other : ℕ) (tree : List TreeRow) → (other ≡ file → ⊥)
    → IsTrue (is_some (unclosed_file actor file tree))
    → IsTrue (is_some (unclosed_file actor file (take_file other tree)))
unfolding take_file
aborting-on actor file other tree apart =
    onward actor file tree (filter (λ (row : TreeRow). not (has_file other row)) tree)
    (any_filter (unclosed_test actor file) (λ (row : TreeRow). not (has_file other row))
    (λ row is. off row (own-file file row
    (and_parts (is_unclosed_of actor row) (has_file file row) is).1)) tree)
  where
    off : (row : TreeRow) → row.file ≡ file → not (has_file other row) ≡ true
    off row same =
        ap not (has_file-is other row ∙ ap (λ k. k == other) same ∙ apart-files file other apart)

moving-on : (actor file : ℕ) (from to : PathNames) (m : MetaImage) → MayMove m from to → Fits m
    → Writes m actor file → IsTrue (is_some (unclosed_file actor file (move_path from to m.tree)))
unfolding move_path renamed is_unclosed_of is_unclosed_row has_file
moving-on actor file from to m may f =
    let moves = moves-of from to m.tree m.next_file f.tree may.is_path may.free in
    onward actor file m.tree _
    (λ any. split-any from to m.tree m.next_file f.tree moves (unclosed_test actor file)
    (λ row path. refl) ∙ any)

-- an actor that writes a file still does
pub still-writes : (past : Past) (m : MetaImage) (change : Change) → MayMake past m change → Fits m
    → (actor file : ℕ) → (EndsFile change file → ⊥) → Writes m actor file
    → Writes (apply m change) actor file
unfolding apply write_entry add_file with_slots grant_slot finish_lease bring_up directory_row
    file_row
still-writes past m (AddDirectory path) may f actor file ends is =
    onward actor file m.tree _ (λ any. any-added (unclosed_test actor file) (directory_row path)
    m.tree may.free ∙ or_right _ _ any) is
still-writes past m (AddFile path by command len) may f actor file ends is =
    onward actor file m.tree _ (λ any. any-added (unclosed_test actor file)
    (file_row path m.next_file by command len) m.tree may.adds.free ∙ or_right _ _ any) is
still-writes past m (TakeDirectory path) may f actor file ends is =
    taken-away actor file path m Is.Directory f (emptied-root m.tree path may)
    (rmdir-empty (standing m.tree) path may).0 directory-open is
still-writes past m (RemoveFile path other) may f actor file ends is =
    taken-away actor file path m Is.Closed f (closed-root m.tree path may.closed)
    (look-closed (standing m.tree) path may.closed) closed-open is
still-writes past m (CloseFile other by command) may f actor file ends is =
    closing-on actor file other m.tree ends is
still-writes past m (AbortFile other) may f actor file ends is =
    aborting-on actor file other m.tree ends is
still-writes past m (MovePath from to) may f actor file ends is =
    moving-on actor file from to m may f is
still-writes past m (FailGrant block slot) may f actor file ends is =
    subst (λ (n : MetaImage). Writes n actor file) (sym (losing-frame m
    (FailGrant block slot) tt).is)
    is
still-writes past m (GiveUp block slot) may f actor file ends is =
    subst (λ (n : MetaImage). Writes n actor file) (sym (losing-frame m (GiveUp block slot) tt).is)
    is
still-writes past m (ConfirmSlot block slot) may f actor file ends is =
    subst (λ (n : MetaImage). Writes n actor file)
    (sym (losing-frame m (ConfirmSlot block slot) tt).is) is
still-writes past m (EmptySlot block slot) may f actor file ends is =
    subst (λ (n : MetaImage). Writes n actor file)
    (sym (losing-frame m (EmptySlot block slot) tt).is) is
still-writes past m (CondemnStray server life key) may f actor file ends is =
    subst (λ (n : MetaImage). Writes n actor file) (sym (stray-frame server life key m)) is
still-writes past m _ may f actor file ends is = is

-- a file that is closed still is
pub still-closed : (past : Past) (m : MetaImage) (change : Change) → MayMake past m change → Fits m
    → (file : ℕ) → (EndsFile change file → ⊥) → IsClosedIn m file
    → IsClosedIn (apply m change) file
unfolding apply write_entry add_file with_slots grant_slot finish_lease bring_up directory_row
    file_row
still-closed past m (AddDirectory path) may f file ends is =
    (added-onward (directory_row path) m.tree may.free file).1 is
still-closed past m (AddFile path by command len) may f file ends is =
    (added-onward (file_row path m.next_file by command len) m.tree may.adds.free file).1 is
still-closed past m (TakeDirectory path) may f file ends is =
    (emptied-onward m.next_file path m.tree may (emptied-root m.tree path may) f.tree file).1 is
still-closed past m (RemoveFile path other) may f file ends is =
    (removed-onward m.next_file path other m.tree may.closed (closed-root m.tree path may.closed)
    may.at f.tree file (apart-files file other ends)).1 is
still-closed past m (CloseFile other by command) may f file ends is =
    (closing-onward other m.tree file).1 is
still-closed past m (AbortFile other) may f file ends is =
    (without_file-onward other m.tree file (apart-files file other ends)).1 is
still-closed past m (MovePath from to) may f file ends is =
    (move-onward from to m.tree m.next_file may.is_path may.free f.tree file).1 is
still-closed past m (FailGrant block slot) may f file ends is =
    subst (λ (n : MetaImage). IsClosedIn n file) (sym (losing-frame m (FailGrant block slot) tt).is)
    is
still-closed past m (GiveUp block slot) may f file ends is =
    subst (λ (n : MetaImage). IsClosedIn n file) (sym (losing-frame m (GiveUp block slot) tt).is) is
still-closed past m (ConfirmSlot block slot) may f file ends is =
    subst (λ (n : MetaImage). IsClosedIn n file)
    (sym (losing-frame m (ConfirmSlot block slot) tt).is) is
still-closed past m (EmptySlot block slot) may f file ends is =
    subst (λ (n : MetaImage). IsClosedIn n file) (sym (losing-frame m (EmptySlot block slot) tt).is)
    is
still-closed past m (CondemnStray server life key) may f file ends is =
    subst (λ (n : MetaImage). IsClosedIn n file) (sym (stray-frame server life key m)) is
still-closed past m _ may f file ends is = is

-- a file that was made and is gone stays gone
pub record IsGone (m : MetaImage) (file : ℕ) : Type 0 where
  pub made : file < m.next_file
  pub gone : file_stands file m.tree ≡ false

-- a file is gone where all that stands is another
pub gone-when : (n : MetaImage) (file : ℕ)
    → ((other : ℕ) → IsTrue (file_stands other n.tree) → (other == file) ≡ false)
    → file_stands file n.tree ≡ false
gone-when n file away = one (file_stands file n.tree) (away file)
  where
    one : (b : Bool) → (IsTrue b → (file == file) ≡ false) → b ≡ false
    one true away = absurd (true≢false (sym (eq-eqb file file refl) ∙ away refl))
    one false away = refl

back-gone : (m n : MetaImage) (file : ℕ) → m.next_file ≤ n.next_file → StandsBack m n
    → IsGone m file → IsGone n file
back-gone m n file more back is =
    record {
      made = let low = is.made in omega arith;
      gone = one (file_stands file n.tree) (back file is.made);
    }
  where
    one : (b : Bool) → (IsTrue b → IsTrue (file_stands file m.tree)) → b ≡ false
    one true stands = absurd (true≢false (sym (stands refl) ∙ is.gone))
    one false stands = refl

pub stays-gone : (past : Past) (m : MetaImage) (change : Change) → MayMake past m change → Fits m
    → (file : ℕ) → IsGone m file → IsGone (apply m change) file
unfolding apply write_entry add_file with_slots finish_lease bring_up grant_slot
stays-gone past m (AbortFile other) may f file is =
    back-gone m (apply m (AbortFile other)) file (omega arith)
    (tree-back past m (AbortFile other) may f).0 is
stays-gone past m (RemoveFile path other) may f file is =
    back-gone m (apply m (RemoveFile path other)) file (omega arith)
    (tree-back past m (RemoveFile path other) may f).0 is
stays-gone past m (GrantSlot block slot server actor lease) may f file is =
    record { made = is.made; gone = is.gone }
stays-gone past m (AddDirectory path) may f file is =
    back-gone m (apply m (AddDirectory path)) file (omega arith)
    (tree-back past m (AddDirectory path) may f) is
stays-gone past m (AddFile path actor command len) may f file is =
    back-gone m (apply m (AddFile path actor command len)) file (omega arith)
    (tree-back past m (AddFile path actor command len) may f) is
stays-gone past m (TakeDirectory path) may f file is =
    back-gone m (apply m (TakeDirectory path)) file (omega arith)
    (tree-back past m (TakeDirectory path) may f) is
stays-gone past m (CloseFile other actor command) may f file is =
    back-gone m (apply m (CloseFile other actor command)) file (omega arith)
    (tree-back past m (CloseFile other actor command) may f) is
stays-gone past m (MovePath from to) may f file is =
    back-gone m (apply m (MovePath from to)) file (omega arith)
    (tree-back past m (MovePath from to) may f) is
stays-gone past m (FailGrant block slot) may f file is =
    subst (λ (n : MetaImage). IsGone n file) (sym (losing-frame m (FailGrant block slot) tt).is)
    (record { made = is.made; gone = is.gone })
stays-gone past m (GiveUp block slot) may f file is =
    subst (λ (n : MetaImage). IsGone n file) (sym (losing-frame m (GiveUp block slot) tt).is)
    (record { made = is.made; gone = is.gone })
stays-gone past m (ConfirmSlot block slot) may f file is =
    subst (λ (n : MetaImage). IsGone n file) (sym (losing-frame m (ConfirmSlot block slot) tt).is)
    (record { made = is.made; gone = is.gone })
stays-gone past m (EmptySlot block slot) may f file is =
    subst (λ (n : MetaImage). IsGone n file) (sym (losing-frame m (EmptySlot block slot) tt).is)
    (record { made = is.made; gone = is.gone })
stays-gone past m (CondemnStray server life key) may f file is =
    subst (λ (n : MetaImage). IsGone n file) (sym (stray-frame server life key m))
    (record { made = is.made; gone = is.gone })
stays-gone past m _ may f file is = record { made = is.made; gone = is.gone }
