-- A file history with one entry more: it stays legal, and what is said of its places stays so.
-- Cited by the steps of puts and gets.
use Rattle.std.proofs.Common.{◌≡◌, ℕ, ◌+◌, ◌≤◌, ◌==◌, true, false, List, [], ◌∷◌, ◌++◌, length, map}
use Rattle.std.proofs.Common.{Option, Some, None, refl, sym, ap, subst, ◌∙◌, arith}
use Rattle.std.proofs.lemmas.Bool.{and_right, eq-eqb}
use Rattle.std.proofs.lemmas.Bool.Decides.{nat_tests}
use Rattle.std.proofs.lemmas.List.{append-nil, take-append-le}
use Rattle.std.proofs.lemmas.List.Elements.{filter_map-append}
use Rattle.std.specs.List.{IsDistinct}
use Rattle.qfs_base.specs.EachLaws.{each_append, each_weaker}
use Rattle.qfs_base.specs.FileReplies.{file_reply, reply_at}
use Rattle.qfs_base.specs.Files.{Puts, FollowFrom, files_of, created_count, closing_command}
use Rattle.qfs_base.specs.Files.{closing_commands, same_pair}
use Rattle.qfs_base.specs.NameTree.{PathNames, add_refusal}
use Rattle.qfs_base.specs.Table.{Each, first_of}
use Rattle.qfs_base.specs.declared.command.FileCommand.{FileCommand}
use Rattle.qfs_base.specs.declared.history.Entry.{Entry}
use Rattle.qfs_base.specs.declared.history.Entry.TheVariants as Wrote
use Rattle.qfs_base.specs.declared.image.MetaImage.{MetaImage}
use Rattle.qfs_base.specs.declared.image.TreeRow.{TreeRow}
use Rattle.qfs_base.specs.declared.script.Script.{Script}
use Rattle.qfs_model_meta.specs.Apply.{apply, add_file, write_entry, with_slots}
use Rattle.qfs_model_meta.specs.Sound.{TreeIsHistory, file_entry}
use Rattle.qfs_model_meta.specs.TreeRows.{standing, file_row, add_row, close_file}
use Rattle.qfs_model_world.specs.FileHistory.{path_if, created_in, created_path, IsOwnPut}
use Rattle.qfs_model_world.specs.FileHistory.{IsHistoryOf}
use Rattle.qfs_model_world.specs.Puts.{put_path}
use Rattle.qfs_laws_tables.specs.Distinct.{distinct-push}
use Rattle.qfs_laws_tree.specs.History.{IsUnclosedFile, history-closed, history-file}

-- ---- one entry more

first_of-more : {X Y : Type 0} (answer : X → Option Y) (xs ys : List X) (y : Y)
    → first_of answer xs ≡ Some y → first_of answer (xs ++ ys) ≡ Some y
first_of-more answer [] ys y found = absurd (cc)
first_of-more answer (x ∷ xs) ys y found = one (answer x) refl (first_of-more answer xs ys y)
  where
    one : (o : _) → answer x ≡ o
        → (first_of answer xs ≡ Some y → first_of answer (xs ++ ys) ≡ Some y)
        → first_of answer (x ∷ xs ++ ys) ≡ Some y
    one None is rest = rw is (rest (rw is at found))
    one (Some z) is rest = rw is (rw is at found)

first_of-none : {X Y : Type 0} (answer : X → Option Y) (xs : List X) (x : X)
    → first_of answer xs ≡ None → answer x ≡ None → first_of answer (xs ++ x ∷ []) ≡ None
first_of-none answer [] x none last = rw last refl
first_of-none answer (y ∷ ys) x none last = one (answer y) refl (first_of-none answer ys x)
  where
    one : (o : _) → answer y ≡ o
        → (first_of answer ys ≡ None → answer x ≡ None → first_of answer (ys ++ x ∷ []) ≡ None)
        → first_of answer (y ∷ ys ++ x ∷ []) ≡ None
    one None is rest = rw is (rest (rw is at none) last)
    one (Some z) is rest = let some : Some z ≡ None = rw is at none in absurd (cc)

first_of-last : {X Y : Type 0} (answer : X → Option Y) (xs : List X) (x : X) (y : Y)
    → first_of answer xs ≡ None → answer x ≡ Some y → first_of answer (xs ++ x ∷ []) ≡ Some y
first_of-last answer [] x y none last = rw last refl
first_of-last answer (z ∷ zs) x y none last = one (answer z) refl (first_of-last answer zs x y)
  where
    one : (o : _) → answer z ≡ o
        → (first_of answer zs ≡ None → answer x ≡ Some y → first_of answer (zs ++ x ∷ []) ≡ Some y)
        → first_of answer (z ∷ zs ++ x ∷ []) ≡ Some y
    one None is rest = rw is (rest (rw is at none) last)
    one (Some other) is rest = let some : Some other ≡ None = rw is at none in absurd (cc)

-- ---- what a reply with a place says

-- a reply at a place of a history is its reply there when there is more
pub reply_at-more : (puts : Puts) (history more : List Entry) (place : ℕ) (command : FileCommand)
    → place ≤ length history
    → reply_at puts (history ++ more) place command ≡ reply_at puts history place command
unfolding reply_at
reply_at-more puts history more place command within =
    ap (λ h. file_reply (files_of puts h) command) (take-append-le place history more within)

-- ---- the history of a run

-- a closing command of actor 1 with a number up to this one
abbrev IsCloser : ℕ → ℕ × ℕ → Type 0
IsCloser commands pair = (pair.0 ≡ 1) × (pair.1 ≤ commands)

-- the history is legal, its files are those of the tree, and its closed files were put by commands
-- of actor 1 up to this number
pub record Written (script : Script) (history : List Entry) (tree : List TreeRow)
    (next_file commands : ℕ) : Type 0 where
  pub files : (puts : Puts) → map (file_entry puts) tree ≡ files_of puts history
  pub legal : (puts : Puts) → FollowFrom puts 0 [] history
  pub count : next_file ≡ created_count history + 1
  pub once : IsDistinct same_pair (closing_commands history)
  pub own_puts : Each (IsOwnPut script history) history
  pub closers : Each (IsCloser commands) (closing_commands history)
  pub unborn : (file : ℕ) → next_file ≤ file → created_path file history ≡ None

pub history-legal : (script : Script) (history : List Entry) (tree : List TreeRow)
    (next_file commands : ℕ)
    → Written script history tree next_file commands → IsHistoryOf script history
history-legal script history tree next_file commands w =
    record { legal = record { in_order = w.legal _; once = w.once }; own_puts = w.own_puts }

pub is-history : (script : Script) (m : MetaImage) (commands : ℕ)
    → Written script m.history m.tree m.next_file commands → TreeIsHistory m
is-history script m commands w =
    record { files = w.files; legal = w.legal; numbers = w.count }

own-more : (script : Script) (history : List Entry) (new entry : Entry)
    → IsOwnPut script history entry → IsOwnPut script (history ++ new ∷ []) entry
unfolding created_path
own-more script history new (Wrote.Closed file actor command) own =
    record {
      path = own.path;
      created =
          first_of-more (created_in file) history (new ∷ []) own.path own.created;
      put = own.put;
    }
own-more script history new (Wrote.Mkdir path) own = tt
own-more script history new (Wrote.Rmdir path) own = tt
own-more script history new (Wrote.Created file path) own = tt
own-more script history new (Wrote.Aborted file) own = tt
own-more script history new (Wrote.Removed path) own = tt
own-more script history new (Wrote.Renamed from to) own = tt

owns-more : (script : Script) (history : List Entry) (new : Entry) (entries : List Entry)
    → Each (IsOwnPut script history) entries → Each (IsOwnPut script (history ++ new ∷ [])) entries
owns-more script history new [] own = tt
owns-more script history new (entry ∷ entries) own =
    (own-more script history new entry own.0, owns-more script history new entries own.1)

-- a file is created
pub written-created : (script : Script) (m : MetaImage) (commands command len : ℕ)
    (path : PathNames)
    → Written script m.history m.tree m.next_file commands
    → add_refusal (standing m.tree) path ≡ None
    → Written script (m.history ++ Wrote.Created m.next_file path ∷ [])
    (add_row (file_row path m.next_file 1 command len) m.tree) (m.next_file + 1) commands
unfolding apply add_file write_entry closing_commands closing_command created_path created_in
    path_if
written-created script m commands command len path w free =
    let entry : Entry = Wrote.Created m.next_file path in
    let after = history-file m path 1 command len (omega (arith, w.count)) free
    (is-history script m commands w) in
    let closing : closing_commands (m.history ++ entry ∷ []) ≡ closing_commands m.history =
    filter_map-append closing_command m.history (entry ∷ [])
    ∙ append-nil (closing_commands m.history) in
    record {
      files = after.files;
      legal = after.legal;
      count = after.numbers;
      once = subst (IsDistinct same_pair) (sym closing) w.once;
      own_puts = each_append _ m.history (entry ∷ [])
          (owns-more script m.history entry m.history w.own_puts) (tt, tt);
      closers = subst (Each (IsCloser commands)) (sym closing) w.closers;
      unborn = λ file above.
          let other : (m.next_file == file) ≡ false = grind (arith, nat_tests) in
          first_of-none (created_in file) m.history entry (w.unborn file (omega arith))
          (ap (path_if path) other);
    }

-- ---- a file is closed

apart : (commands : ℕ) (pair : ℕ × ℕ) → IsCloser commands pair
    → same_pair pair (1, commands + 1) ≡ false
apart commands pair is =
    let below : pair.1 ≤ commands = is.1 in
    let other : (pair.1 == commands + 1) ≡ false = grind (arith, nat_tests) in
    and_right (pair.0 == 1) _ other

later : (commands : ℕ) (pair : ℕ × ℕ) → IsCloser commands pair → IsCloser (commands + 1) pair
later commands pair is = (is.0, omega (arith, is.1))

pub written-closed : (script : Script) (m : MetaImage) (commands file : ℕ) (path : PathNames)
    → Written script m.history m.tree m.next_file commands → IsUnclosedFile file m.tree
    → Each (λ (row : TreeRow). row.file ≡ file → (row.actor ≡ 1) × (row.command ≡ commands + 1))
    m.tree
    → created_path file m.history ≡ Some path → put_path script 1 (commands + 1) ≡ Some path
    → Written script (m.history ++ Wrote.Closed file 1 (commands + 1) ∷ []) (close_file file m.tree)
    m.next_file (commands + 1)
unfolding apply write_entry with_slots closing_commands closing_command created_path created_in
written-closed script m commands file path w unclosed made created put =
    let entry : Entry = Wrote.Closed file 1 (commands + 1) in
    let after = history-closed m file 1 (commands + 1) unclosed made
    (is-history script m commands w) in
    let closed : List (ℕ × ℕ) = closing_commands m.history in
    let closing : closing_commands (m.history ++ entry ∷ []) ≡ closed ++ (1, commands + 1) ∷ [] =
    filter_map-append closing_command m.history (entry ∷ []) in
    record {
      files = after.files;
      legal = after.legal;
      count = after.numbers;
      once = subst (IsDistinct same_pair) (sym closing)
          (distinct-push same_pair closed (1, commands + 1) w.once
          (each_weaker _ _ (apart commands) closed w.closers));
      own_puts = each_append _ m.history (entry ∷ [])
          (owns-more script m.history entry m.history w.own_puts) (
            record {
              path = path;
              created = first_of-more (created_in file) m.history (entry ∷ []) path created;
              put = put;
            },
            tt,
          );
      closers = subst (Each (IsCloser (commands + 1))) (sym closing)
          (each_append _ closed ((1, commands + 1) ∷ [])
          (each_weaker _ _ (later commands) closed w.closers) ((refl, omega arith), tt));
      unborn = λ number above.
          first_of-none (created_in number) m.history entry (w.unborn number above) refl;
    }

-- the file that was just created
pub created-now : (file : ℕ) (path : PathNames) (history : List Entry)
    → created_path file history ≡ None → created_path file (history ++ Wrote.Created file path ∷ [])
    ≡ Some path
unfolding created_path created_in path_if
created-now file path history none =
    let own : (file == file) ≡ true = eq-eqb file file refl in
    first_of-last (created_in file) history (Wrote.Created file path) path none (rw own refl)

-- the start
pub written-none : (script : Script) → Written script [] [] 1 0
unfolding files_of created_count closing_commands created_path IsDistinct
written-none script = record {
  files = λ puts. refl;
  legal = λ puts. tt;
  count = refl;
  once = tt;
  own_puts = tt;
  closers = tt;
  unborn = λ file above. refl;
}

-- one command more has ended
pub written-later : (script : Script) (history : List Entry) (tree : List TreeRow)
    (next_file commands : ℕ)
    → Written script history tree next_file commands
    → Written script history tree next_file (commands + 1)
written-later script history tree next_file commands w = record {
  files = w.files;
  legal = w.legal;
  count = w.count;
  once = w.once;
  own_puts = w.own_puts;
  closers = each_weaker _ _ (later commands) (closing_commands history) w.closers;
  unborn = w.unborn;
}
