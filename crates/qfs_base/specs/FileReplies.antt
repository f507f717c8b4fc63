-- What a file command answers, given the files at its place of the history.
use Rattle.std.specs.Prelude.{ℕ, List, [], take, drop, find, Option, Some, None}
use Rattle.std.specs.Option.{option_map_or}
use Rattle.qfs_base.specs.declared.command.FileCommand.{FileCommand}
use Rattle.qfs_base.specs.declared.command.FileCommand.TheVariants as To
use Rattle.qfs_base.specs.declared.command.Range.{Range}
use Rattle.qfs_base.specs.declared.history.Entry.{Entry}
use Rattle.qfs_base.specs.declared.history.FileReply.{FileReply}
use Rattle.qfs_base.specs.declared.history.FileReply.TheVariants as Told
use Rattle.qfs_base.specs.declared.reply.TreeRefusal.{TreeRefusal}
use Rattle.qfs_base.specs.Files.{Puts, Content, FileEntry, IsDirectory, IsUnclosed, IsClosed, entry_path, files_of, files_standing}
use Rattle.qfs_base.specs.NameTree.{PathNames, stands_at, add_refusal, rmdir_refusal, look_refusal, rename_refusal, directory_refusal, names_below}

-- a refusal, or else this reply
unfoldable pub refused_or : FileReply → Option TreeRefusal → FileReply
refused_or reply None = reply
refused_or reply (Some refusal) = Told.Refused refusal

-- the bytes of a closed file
unfoldable pub bytes_of_content : Content → List ℕ
bytes_of_content IsDirectory = []
bytes_of_content (IsUnclosed file) = []
bytes_of_content (IsClosed file bytes) = bytes

unfoldable pub bytes_at : List FileEntry → PathNames → List ℕ
bytes_at files path =
    option_map_or (λ (entry : FileEntry). bytes_of_content entry.content) (find (stands_at entry_path path) files) []

-- the bytes that a get wants, cut at the file's end; without a range it wants them all
unfoldable pub wanted_bytes : List ℕ → Option Range → List ℕ
wanted_bytes bytes None = bytes
wanted_bytes bytes (Some range) = take range.count (drop range.from bytes)

-- what a command answers over these files
unfoldable pub file_reply : List FileEntry → FileCommand → FileReply
file_reply files (To.Mkdir path) = refused_or Told.Done (add_refusal (files_standing files) path)
file_reply files (To.Rmdir path) = refused_or Told.Done (rmdir_refusal (files_standing files) path)
file_reply files (To.Remove path) = refused_or Told.Done (look_refusal (files_standing files) path)
file_reply files (To.Rename from to) = refused_or Told.Done (rename_refusal (files_standing files) from to)
file_reply files (To.List path) =
    refused_or (Told.Names (names_below (files_standing files) path)) (directory_refusal (files_standing files) path)
file_reply files (To.Put path recipe) = refused_or Told.Accepted (add_refusal (files_standing files) path)
file_reply files (To.Get path range) =
    refused_or (Told.Read (wanted_bytes (bytes_at files path) range)) (look_refusal (files_standing files) path)

-- what a command answers at a place: the entries before it alone decide
unfoldable pub reply_at : Puts → List Entry → ℕ → FileCommand → FileReply
reply_at puts history place command = file_reply (files_of puts (take place history)) command
