-- The requests of a get: a file is opened under a lease, which ends at its release.
use Rattle.std.specs.Prelude.{ℕ, [], ◌∷◌, length}
use Rattle.qfs_base.specs.declared.change.Change.TheVariants.{GiveLease, EndLease}
use Rattle.qfs_base.specs.declared.image.MetaImage.{MetaImage}
use Rattle.qfs_base.specs.declared.image.TreeRow.{TreeRow}
use Rattle.qfs_base.specs.declared.reply.MetaReply.TheVariants as Told
use Rattle.qfs_base.specs.declared.reply.Opened.{Opened}
use Rattle.qfs_base.specs.NameTree.{PathNames, look_refusal}
use Rattle.qfs_base.specs.Shape.{Shape}
use Rattle.qfs_model_meta.specs.Decision.{Decision, Makes, unless, refuse_file}
use Rattle.qfs_model_meta.specs.Leases.{holds_lease, lease_end}
use Rattle.qfs_model_meta.specs.Lists.{block_count, listed_blocks}
use Rattle.qfs_model_meta.specs.TreeRows.{standing, row_at}

-- what an actor is told of a file that it opens: its lease, its length and the listed copies of
-- every block
unfoldable pub opened : Shape → TreeRow → MetaImage → Opened
opened layout row m =
    record {
      lease = m.next_lease;
      place = length m.history;
      file = row.file;
      len = row.len;
      blocks = listed_blocks m.servers m.slots row.file (block_count layout row.len);
    }

-- a closed file is opened, under a lease for a term
unfoldable pub decide_open : Shape → ℕ → ℕ → PathNames → MetaImage → Decision
decide_open layout term actor path m =
    let row : TreeRow = row_at m.tree path in
    refuse_file (length m.history) (look_refusal (standing m.tree) path)
    (Makes (GiveLease actor row.file (lease_end term m.clock) ∷ []) (Told.Opened (opened layout row m)))

-- an actor's lease ends
unfoldable pub decide_release : ℕ → ℕ → MetaImage → Decision
decide_release actor lease m =
    unless (holds_lease actor lease m.leases) Told.Gone
    (Makes (EndLease lease ∷ []) (Told.Done (length m.history)))
