-- Worked runs of file commands: their requests, and what these are answered.
use Rattle.std.specs.Prelude.{◌+◌, ◌≡◌, List, [], ◌∷◌, ◌++◌, map, codes}
use Rattle.std.specs.List.{range_with_len}
use Rattle.qfs_base.specs.declared.history.Entry.{Entry}
use Rattle.qfs_base.specs.declared.history.Entry.TheVariants as Wrote
use Rattle.qfs_base.specs.declared.lists.NameKind.TheVariants as Is
use Rattle.qfs_base.specs.declared.reply.MetaReply.{MetaReply}
use Rattle.qfs_base.specs.declared.reply.MetaReply.TheVariants as Told
use Rattle.qfs_base.specs.declared.reply.TreeRefusal.TheVariants as Not
use Rattle.qfs_base.specs.declared.request.MetaRequest.TheVariants as Ask
use Rattle.qfs_base.specs.Files.{Puts, FileEntry, IsDirectory, IsClosed, files_of}
use Rattle.qfs_model_meta.specs.Sound.{file_entry}
use Rattle.qfs_model_meta.specs.Worked.{Asked, run, begins, path_a, path_d, path_q, path_df, path_de, path_xy, put_asked, grants_asked, first_nine, grant_on, refused}

-- a put of five bytes and a get: `put /a`, `get /a`
abbrev pub put_and_get : List Asked
put_and_get =
    (1, Ask.Create path_a 1 5) ∷ grants_asked 1 1
    ++ (1, Ask.Close 1) ∷ (1, Ask.OpenFile path_a) ∷ (1, Ask.Release 1) ∷ []

abbrev pub put_and_get_replies : List MetaReply
put_and_get_replies =
    Told.Created 1 0 ∷ map (λ slot. Told.Granted (grant_on 1 slot (slot + 1) 1)) (range_with_len 0 9)
    ++ Told.Done 1
    ∷ Told.Opened (record { lease = 1; place = 2; file = 1; len = 5; blocks = first_nine ∷ [] })
    ∷ Told.Done 2
    ∷ []

-- the refusals of the name tree, with an empty file in a directory
abbrev pub tree_asked : List Asked
tree_asked =
    (1, Ask.Mkdir path_d)
    ∷ (1, Ask.Mkdir path_d)
    ∷ (1, Ask.Mkdir path_xy)
    ∷ (1, Ask.OpenFile path_d)
    ∷ (1, Ask.Rmdir path_q)
    ∷ (1, Ask.Rename path_d path_de)
    ∷ (1, Ask.Create path_df 7 0)
    ∷ (1, Ask.Close 1)
    ∷ (1, Ask.Rmdir path_d)
    ∷ (1, Ask.List path_df)
    ∷ (1, Ask.List path_d)
    ∷ (1, Ask.Remove path_df)
    ∷ (1, Ask.Rmdir path_d)
    ∷ []

abbrev pub tree_replies : List MetaReply
tree_replies =
    Told.Done 0
    ∷ refused Not.Exists 1
    ∷ refused Not.NoParent 1
    ∷ refused Not.IsDir 1
    ∷ refused Not.Missing 1
    ∷ refused Not.IntoSelf 1
    ∷ Told.Created 1 1
    ∷ Told.Done 2
    ∷ refused Not.NotEmpty 3
    ∷ refused Not.NotDir 3
    ∷ Told.Names 3 (record { part = codes "f"; kind = Is.Closed } ∷ [])
    ∷ Told.Done 3
    ∷ Told.Done 4
    ∷ []

abbrev pub tree_history : List Entry
tree_history =
    Wrote.Mkdir path_d
    ∷ Wrote.Created 1 path_df
    ∷ Wrote.Closed 1 1 7
    ∷ Wrote.Removed path_df
    ∷ Wrote.Rmdir path_d
    ∷ []

-- a directory is renamed with the file in it, while another actor would open the file unclosed
abbrev pub rename_asked : List Asked
rename_asked =
    (1, Ask.Mkdir path_d)
    ∷ (1, Ask.Create path_df 2 0)
    ∷ (2, Ask.OpenFile path_df)
    ∷ (2, Ask.Rename path_d path_q)
    ∷ (2, Ask.List path_q)
    ∷ (2, Ask.Close 1)
    ∷ (1, Ask.Close 1)
    ∷ (2, Ask.Mkdir (codes "q" ∷ codes "f" ∷ codes "x" ∷ []))
    ∷ (2, Ask.List [])
    ∷ []

abbrev pub rename_replies : List MetaReply
rename_replies =
    Told.Done 0
    ∷ Told.Created 1 1
    ∷ refused Not.Unclosed 2
    ∷ Told.Done 2
    ∷ Told.Names 3 (record { part = codes "f"; kind = Is.Unclosed } ∷ [])
    ∷ Told.Gone
    ∷ Told.Done 3
    ∷ refused Not.NotDir 4
    ∷ Told.Names 4 (record { part = codes "q"; kind = Is.Directory } ∷ [])
    ∷ []

abbrev pub rename_history : List Entry
rename_history =
    Wrote.Mkdir path_d ∷ Wrote.Created 1 path_df ∷ Wrote.Renamed path_d path_q ∷ Wrote.Closed 1 1 2 ∷ []

-- a path is removed and put anew while a get of it runs, and read again
abbrev pub replace_asked : List Asked
replace_asked =
    put_asked 1 path_a 1 1
    ++ (1, Ask.OpenFile path_a)
    ∷ (2, Ask.Remove path_a)
    ∷ put_asked 2 path_a 2 2
    ++ (1, Ask.Release 1) ∷ (2, Ask.OpenFile path_a) ∷ []

abbrev pub replace_history : List Entry
replace_history =
    Wrote.Created 1 path_a
    ∷ Wrote.Closed 1 1 1
    ∷ Wrote.Removed path_a
    ∷ Wrote.Created 2 path_a
    ∷ Wrote.Closed 2 2 2
    ∷ []

-- what a run did
pub record PutAndGet : Type 0 where
  pub replies : (run (begins 9) put_and_get).replies ≡ put_and_get_replies

pub record TreeRefusals : Type 0 where
  pub replies : (run (begins 9) tree_asked).replies ≡ tree_replies
  pub history : (run (begins 9) tree_asked).meta.history ≡ tree_history

-- the files that are left, whatever the puts' bytes are: a directory with a file that was renamed with
-- it, and a file that was put anew
abbrev pub renamed_files : Puts → List FileEntry
renamed_files puts =
    record { path = path_q; content = IsDirectory }
    ∷ record { path = codes "q" ∷ codes "f" ∷ []; content = IsClosed 1 (puts 1 2) }
    ∷ []

abbrev pub replaced_files : Puts → List FileEntry
replaced_files puts = record { path = path_a; content = IsClosed 2 (puts 2 2) } ∷ []

-- the history and the tree of a run leave these files
pub record Leaves (asked : List Asked) (history : List Entry) (files : Puts → List FileEntry) : Type 0 where
  pub written : (run (begins 9) asked).meta.history ≡ history
  pub tree : (puts : Puts) → map (file_entry puts) (run (begins 9) asked).meta.tree ≡ files puts
  pub replayed : (puts : Puts) → files_of puts history ≡ files puts

pub record Renamed : Type 0 where
  pub replies : (run (begins 9) rename_asked).replies ≡ rename_replies
  pub leaves : Leaves rename_asked rename_history renamed_files

abbrev pub Replaced : Type 0
Replaced = Leaves replace_asked replace_history replaced_files
