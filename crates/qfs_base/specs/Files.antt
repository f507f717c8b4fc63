-- The files that a file history leaves: under each path a directory, an unclosed file, or a closed one
-- with its bytes. Nothing else of a file system shows here: no blocks, servers, versions or leases.
use Rattle.std.specs.Prelude.{ℕ, ◌+◌, ⊤, ◌==◌, Bool, false, ◌&&◌, List, [], ◌∷◌, map, filter_map, find, fold, sum_by, Option, Some, None, is_none, IsTrue}
use Rattle.std.specs.Option.{option_map}
use Rattle.std.specs.List.{list_any, IsDistinct}
use Rattle.qfs_base.specs.declared.history.Entry.{Entry}
use Rattle.qfs_base.specs.declared.history.Entry.TheVariants as Wrote
use Rattle.qfs_base.specs.declared.lists.NameKind.{NameKind}
use Rattle.qfs_base.specs.declared.lists.NameKind.TheVariants as Is
use Rattle.qfs_base.specs.NameTree.{PathNames, Standing, added, taken, renamed, add_refusal, rmdir_refusal, look_refusal, rename_refusal}
use Rattle.qfs_base.specs.Table.{without, change_where}

-- what stands under a path
pub data Content : Type 0 where
  IsDirectory : Content
  IsUnclosed : (file : ℕ) → Content
  IsClosed : (file : ℕ) → (bytes : List ℕ) → Content

pub record FileEntry : Type 0 where
  pub path : PathNames
  pub content : Content

-- the bytes of each put, by its actor and command
abbrev pub Puts : Type 0
Puts = ℕ → ℕ → List ℕ

-- what a content is for the rules of the name tree
unfoldable pub kind_of_content : Content → NameKind
kind_of_content IsDirectory = Is.Directory
kind_of_content (IsUnclosed file) = Is.Unclosed
kind_of_content (IsClosed file bytes) = Is.Closed

-- files as the rules of the name tree see them
unfoldable pub files_standing : List FileEntry → List Standing
files_standing files =
    map (λ (entry : FileEntry). record { path = entry.path; kind = kind_of_content entry.content }) files

-- whether a content is a file of this number that is still unclosed
unfoldable pub is_unclosed_content : ℕ → Content → Bool
is_unclosed_content file IsDirectory = false
is_unclosed_content file (IsUnclosed number) = number == file
is_unclosed_content file (IsClosed number bytes) = false

unfoldable pub is_unclosed_entry : ℕ → FileEntry → Bool
is_unclosed_entry file entry = is_unclosed_content file entry.content

-- a path, and an entry at another one
abbrev pub entry_path : FileEntry → PathNames
entry_path entry = entry.path

abbrev pub entry_at : PathNames → FileEntry → FileEntry
entry_at path entry = record entry { path = path }

-- an entry whose file was closed with these bytes
unfoldable pub close_entry : ℕ → List ℕ → FileEntry → FileEntry
close_entry file bytes entry = record entry { content = IsClosed file bytes }

-- the files after one entry of the history
unfoldable pub files_after : Puts → List FileEntry → Entry → List FileEntry
files_after puts files (Wrote.Mkdir path) = added entry_path (record { path = path; content = IsDirectory }) files
files_after puts files (Wrote.Rmdir path) = taken entry_path path files
files_after puts files (Wrote.Created file path) =
    added entry_path (record { path = path; content = IsUnclosed file }) files
files_after puts files (Wrote.Closed file actor command) =
    change_where (is_unclosed_entry file) (close_entry file (puts actor command)) files
files_after puts files (Wrote.Aborted file) = without (is_unclosed_entry file) files
files_after puts files (Wrote.Removed path) = taken entry_path path files
files_after puts files (Wrote.Renamed from to) = renamed entry_path entry_at from to files

-- the files of a history
unfoldable pub files_of : Puts → List Entry → List FileEntry
files_of puts history = fold (files_after puts) [] history

-- the path of an unclosed file, if it is there
unfoldable pub path_of_unclosed : ℕ → List FileEntry → Option PathNames
path_of_unclosed file files = option_map entry_path (find (is_unclosed_entry file) files)

-- whether a history goes on with an entry, after which so many files were created: the rules of the
-- name tree don't refuse it, a created file has the next number, and a file that is closed or given
-- up is unclosed
unfoldable pub may_follow : ℕ → List FileEntry → Entry → Bool
may_follow created files (Wrote.Mkdir path) = is_none (add_refusal (files_standing files) path)
may_follow created files (Wrote.Rmdir path) = is_none (rmdir_refusal (files_standing files) path)
may_follow created files (Wrote.Created file path) =
    (file == created + 1) && is_none (add_refusal (files_standing files) path)
may_follow created files (Wrote.Closed file actor command) = list_any (is_unclosed_entry file) files
may_follow created files (Wrote.Aborted file) = list_any (is_unclosed_entry file) files
may_follow created files (Wrote.Removed path) = is_none (look_refusal (files_standing files) path)
may_follow created files (Wrote.Renamed from to) = is_none (rename_refusal (files_standing files) from to)

-- how many files an entry creates
unfoldable pub creates : Entry → ℕ
creates (Wrote.Created file path) = 1
creates _ = 0

-- how many files a history created
unfoldable pub created_count : List Entry → ℕ
created_count history = sum_by creates history

-- each entry may follow those before it, where these left the given files
abbrev pub FollowFrom : Puts → ℕ → List FileEntry → List Entry → Type 0
FollowFrom puts created files [] = ⊤
FollowFrom puts created files (entry ∷ entries) =
    IsTrue (may_follow created files entry)
    × FollowFrom puts (created + creates entry) (files_after puts files entry) entries

-- the commands that closed a file, as pairs of an actor and its command's number
unfoldable pub closing_command : Entry → Option (ℕ × ℕ)
closing_command (Wrote.Closed file actor command) = Some (actor, command)
closing_command _ = None

unfoldable pub closing_commands : List Entry → List (ℕ × ℕ)
closing_commands history = filter_map closing_command history

-- whether two pairs of numbers are the same
abbrev pub same_pair : ℕ × ℕ → ℕ × ℕ → Bool
same_pair a b = (a.0 == b.0) && (a.1 == b.1)

-- a history is legal: each entry may follow those before it, and no command closes two files
pub record IsLegal (puts : Puts) (history : List Entry) : Type 0 where
  pub in_order : FollowFrom puts 0 [] history
  pub once : IsDistinct same_pair (closing_commands history)
