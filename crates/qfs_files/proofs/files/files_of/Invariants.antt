-- What the loop of `files::files_of` keeps.
use Rattle.std.proofs.Common.{◌≡◌, take}
use Rattle.qfs_files.specs.Rows.{rows_of}
use Rattle.qfs_files.proofs.files.files_of.Given as goal

-- the files so far are those of the entries so far
abbrev pub invariant-loop-entry : goal.invariant-loop-entry
invariant-loop-entry l = l.files ≡ rows_of (take l.entry-index l.entries)
