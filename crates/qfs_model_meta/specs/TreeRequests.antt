-- The requests of the name tree, and the listing of a directory. A refusal comes with the place of
-- the request in the file history, and so does every other answer.
use Rattle.std.specs.Prelude.{ℕ, List, [], ◌∷◌, ◌++◌, length, map}
use Rattle.qfs_base.specs.declared.change.Change.{Change}
use Rattle.qfs_base.specs.declared.change.Change.TheVariants.{AddDirectory, TakeDirectory, RemoveFile, MovePath, EmptySlot}
use Rattle.qfs_base.specs.declared.image.MetaImage.{MetaImage}
use Rattle.qfs_base.specs.declared.image.SlotRow.{SlotRow}
use Rattle.qfs_base.specs.declared.reply.MetaReply.TheVariants as Told
use Rattle.qfs_base.specs.NameTree.{PathNames, add_refusal, rmdir_refusal, look_refusal, rename_refusal, directory_refusal, names_below}
use Rattle.qfs_model_meta.specs.Decision.{Decision, Tells, Makes, refuse_file}
use Rattle.qfs_model_meta.specs.Slots.{slots_of}
use Rattle.qfs_model_meta.specs.TreeRows.{standing, row_at}

-- a directory is made
unfoldable pub decide_mkdir : PathNames → MetaImage → Decision
decide_mkdir path m =
    refuse_file (length m.history) (add_refusal (standing m.tree) path)
    (Makes (AddDirectory path ∷ []) (Told.Done (length m.history)))

-- an empty directory is taken away
unfoldable pub decide_rmdir : PathNames → MetaImage → Decision
decide_rmdir path m =
    refuse_file (length m.history) (rmdir_refusal (standing m.tree) path)
    (Makes (TakeDirectory path ∷ []) (Told.Done (length m.history)))

-- the changes that take a closed file away: its copies are condemned by index and slot first
unfoldable pub remove_changes : PathNames → ℕ → List SlotRow → List Change
remove_changes path file slots =
    map (λ (row : SlotRow). EmptySlot row.block row.slot) (slots_of file slots) ++ RemoveFile path file ∷ []

-- a closed file is taken away
unfoldable pub decide_remove : PathNames → MetaImage → Decision
decide_remove path m =
    refuse_file (length m.history) (look_refusal (standing m.tree) path)
    (Makes (remove_changes path (row_at m.tree path).file m.slots) (Told.Done (length m.history)))

-- a file or directory is moved, with everything below it
unfoldable pub decide_rename : PathNames → PathNames → MetaImage → Decision
decide_rename from to m =
    refuse_file (length m.history) (rename_refusal (standing m.tree) from to)
    (Makes (MovePath from to ∷ []) (Told.Done (length m.history)))

-- a directory is listed: nothing changes
unfoldable pub decide_list : PathNames → MetaImage → Decision
decide_list path m =
    refuse_file (length m.history) (directory_refusal (standing m.tree) path)
    (Tells (Told.Names (length m.history) (names_below (standing m.tree) path)))
