-- The image of a state after a change of its namespace with an entry of the file history.
use Rattle.std.proofs.Common.{◌≡◌, ◌∙◌, ap, ℕ, ◌+◌, List, [], ◌∷◌, ◌++◌}
use Rattle.qfs_base.specs.declared.history.Entry.{Entry}
use Rattle.qfs_base.specs.declared.history.Entry.TheVariants as Wrote
use Rattle.qfs_base.specs.declared.image.DroppedActor.{DroppedActor}
use Rattle.qfs_base.specs.declared.image.MetaImage.{MetaImage}
use Rattle.qfs_base.specs.declared.image.ServerView.{ServerView}
use Rattle.qfs_base.specs.declared.image.TreeRow.{TreeRow}
use Rattle.qfs_base.specs.NameTree.{PathNames}
use Rattle.qfs_blocks.specs.BlockTables.{BlockTables}
use Rattle.qfs_lease.specs.LiveLeases.{LiveLeases}
use Rattle.qfs_model_meta.specs.Apply.{add_file, with_slots, write_entry}
use Rattle.qfs_model_meta.specs.TreeRows.{add_row, file_row}
use Rattle.qfs_namespace.specs.Namespaces.{IsRecorded, Namespace}
use Rattle.qfs_state.specs.Held.{image_of}

module _ (turn clock : ℕ) (servers : List ServerView) (leases : LiveLeases)
    (dropped : List DroppedActor) (old new : Namespace) where
  -- the entry is the one that the change wants
  pub written_image : (blocks : BlockTables) (entry wanted : Entry) (rows : List TreeRow)
      (taken : ℕ) → IsRecorded entry rows taken old new → new.next_file ≡ old.next_file
      → entry ≡ wanted
      → image_of turn clock servers new blocks leases dropped
      ≡ write_entry wanted rows (image_of turn clock servers old blocks leases dropped)
  unfolding write_entry
  written_image blocks entry wanted rows taken written same is =
      let m : MetaImage = image_of turn clock servers old blocks leases dropped in
      let history = written.history ∙ ap (λ entry. old.history ++ entry ∷ []) is in
      λ i. record m { next_file = same i; tree = written.tree i; history = history i }

  -- the same where slots changed with it
  pub written_with : (before after : BlockTables) (entry wanted : Entry) (rows : List TreeRow)
      (taken : ℕ) → IsRecorded entry rows taken old new → new.next_file ≡ old.next_file
      → entry ≡ wanted → after ≡ record before { slots = after.slots }
      → image_of turn clock servers new after leases dropped
      ≡ write_entry wanted rows
      (with_slots after.slots (image_of turn clock servers old before leases dropped))
  unfolding with_slots
  written_with before after entry wanted rows taken written same is kept =
      written_image after entry wanted rows taken written same is
      ∙ ap (λ blocks. write_entry wanted rows
      (image_of turn clock servers old blocks leases dropped)) kept

  -- and where a file got the next number
  pub numbered_image : (blocks : BlockTables) (path : PathNames) (entry : Entry)
      (actor command len taken : ℕ)
      → IsRecorded entry (add_row (file_row path old.next_file actor command len) old.tree) taken
      old new
      → new.next_file ≡ old.next_file + 1 → entry ≡ Wrote.Created old.next_file path
      → image_of turn clock servers new blocks leases dropped
      ≡ add_file path actor command len (image_of turn clock servers old blocks leases dropped)
  unfolding add_file write_entry
  numbered_image blocks path entry actor command len taken written next is =
      let m : MetaImage = image_of turn clock servers old blocks leases dropped in
      let history = written.history ∙ ap (λ entry. old.history ++ entry ∷ []) is in
      λ i. record m { next_file = next i; tree = written.tree i; history = history i }
