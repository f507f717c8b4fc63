-- The file history of a run: the files that it leaves, and when it is legal.
use Rattle.std.specs.Prelude.{◌≡◌, ℕ, ⊤, ◌==◌, Bool, true, false, List, Option, Some, None}
use Rattle.qfs_base.specs.Files.{FileEntry, files_of, IsLegal}
use Rattle.qfs_base.specs.NameTree.{PathNames}
use Rattle.qfs_base.specs.Table.{Each, first_of}
use Rattle.qfs_base.specs.declared.history.Entry.{Entry}
use Rattle.qfs_base.specs.declared.history.Entry.TheVariants as Wrote
use Rattle.qfs_base.specs.declared.script.Script.{Script}
use Rattle.qfs_model_world.specs.Puts.{put_path, puts_of}
use Rattle.qfs_model_world.specs.World.{World}

-- the files that a history of a script leaves, and those of a world
unfoldable pub files_left : Script → List Entry → List FileEntry
files_left script history = files_of (puts_of script) history

abbrev pub files_in : Script → World → List FileEntry
files_in script world = files_left script world.meta.history

-- the path under which a file was created
unfoldable pub path_if : PathNames → Bool → Option PathNames
path_if path true = Some path
path_if path false = None

unfoldable pub created_in : ℕ → Entry → Option PathNames
created_in file (Wrote.Created number path) = path_if path (number == file)
created_in file entry = None

unfoldable pub created_path : ℕ → List Entry → Option PathNames
created_path file history = first_of (created_in file) history

-- a put closes the file that was created under its own path
pub record ClosesItsPath (script : Script) (history : List Entry) (file actor command : ℕ) : Type 0 where
  pub path : PathNames
  pub created : created_path file history ≡ Some path
  pub put : put_path script actor command ≡ Some path

abbrev pub IsOwnPut : Script → List Entry → Entry → Type 0
IsOwnPut script history (Wrote.Closed file actor command) = ClosesItsPath script history file actor command
IsOwnPut script history entry = ⊤

-- a history is legal for a script: each entry may follow those before it, files are numbered from 1 on, no command closes
-- two files, and each closed file was created under the path of the put that closed it
pub record IsHistoryOf (script : Script) (history : List Entry) : Type 0 where
  pub legal : IsLegal (puts_of script) history
  pub own_puts : Each (IsOwnPut script history) history
