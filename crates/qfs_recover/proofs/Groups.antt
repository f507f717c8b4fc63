-- What is left of a command that makes a chunk anew group by group.
use Rattle.std.proofs.Common.{◌≡◌, ◌∙◌, refl, ap, sym, ℕ, ◌+◌, ◌*◌, ◌<◌, ◌≤◌, List, [], ◌++◌, length}
use Rattle.qfs_base.specs.Mask.{all_slots}
use Rattle.qfs_base.specs.Shape.{Shape}
use Rattle.qfs_base.specs.declared.reply.Granted.{Granted}
use Rattle.qfs_base.specs.declared.request.ChunkRequest.TheVariants as Serve
use Rattle.qfs_base.specs.declared.request.NodeRequest.{NodeRequest}
use Rattle.qfs_base.specs.declared.request.NodeRequest.TheVariants as To
use Rattle.qfs_model_actor.specs.Read.{Source, read_slots, read_windows}
use Rattle.qfs_model_actor.specs.Recover.{reading_for}
use Rattle.qfs_model_actor.specs.Pieces.{restored_slot}
use Rattle.qfs_model_actor.specs.Repair.{store_granted}
use Rattle.qfs_model_actor.specs.Work.{Work}
use Rattle.qfs_recover.specs.Rest.{behind_group, reading_in, rest_of_groups, rest_of_restoring}
use Rattle.qfs_recover.specs.declared.stage.Restoring.{Restoring}
use Rattle.qfs_repair.proofs.RowGroups.{filled-all, filled-none, windows-end, windows-next}
use Rattle.qfs_repair.specs.Deliveries.{Course, IsAskedByRepair}
use Rattle.qfs_repair.specs.RowGroups.{filled_before, group_window}
use Rattle.qfs_window.specs.WindowReads.{rest_of_read, IsFetch}

-- a group is read from its first slot that can be read
pub group-begins : (layout : Shape) (course : Course) (g : Granted) (group : ℕ) (sources : List Source) (chunk : List ℕ) → group * 16 < g.rows
    → read_slots (reading_in layout course g) (group_window g.block.index g.rows group) 6 all_slots sources [] (behind_group layout course g group chunk)
    ≡ rest_of_groups layout course g group sources (filled_before layout.s group chunk)
unfolding read_windows reading_for
group-begins layout course g group sources chunk more = rw (windows-next g.block.index g.rows group more) refl

-- behind the last group the whole chunk is stored
pub group-ends : (layout : Shape) (course : Course) (g : Granted) (group : ℕ) (sources : List Source) (chunk : List ℕ)
    → g.rows ≤ group * 16 → length chunk ≡ g.rows * layout.s
    → store_granted (course.done g) (course.failed g) g chunk ≡ rest_of_groups layout course g group sources (filled_before layout.s group chunk)
unfolding read_windows
group-ends layout course g group sources chunk past whole =
    rw (windows-end g.block.index g.rows group past, filled-all layout.s g.rows group chunk past whole) refl

-- with other room nothing that was made has changed
abbrev behind_bytes : Shape → Course → Restoring → List ℕ → Work
behind_bytes layout course c got =
    rest_of_read (reading_in layout course c.grant)
    (λ sources pieces. rest_of_groups layout course c.grant (c.group + 1) sources (got ++ restored_slot pieces c.grant.slot)) c.read

pub other-chunk : (layout : Shape) (course : Course) (before after : Restoring) → after ≡ record before { chunk = after.chunk } → before.group ≡ 0
    → rest_of_restoring layout course after ≡ rest_of_restoring layout course before
unfolding rest_of_restoring
other-chunk layout course before after is none =
    let same : filled_before layout.s before.group after.chunk.items ≡ filled_before layout.s before.group before.chunk.items =
    rw none (filled-none layout.s after.chunk.items ∙ sym (filled-none layout.s before.chunk.items)) in
    rw is (ap (behind_bytes layout course before) same)

pub fetch-asked : (request : NodeRequest) → IsFetch request → IsAskedByRepair request
fetch-asked (To.Meta request) fetch = absurd fetch
fetch-asked (To.Chunk server (Serve.Fetch key life from room)) fetch = tt
fetch-asked (To.Chunk server (Serve.Put key life bytes)) fetch = absurd fetch
fetch-asked (To.Chunk server (Serve.Erase key life)) fetch = absurd fetch
fetch-asked (To.Chunk server Serve.Stop) fetch = absurd fetch
fetch-asked (To.Chunk server Serve.Start) fetch = absurd fetch
fetch-asked (To.Chunk server Serve.Wipe) fetch = absurd fetch
fetch-asked (To.Chunk server Serve.Inventory) fetch = absurd fetch
fetch-asked (To.Chunk server Serve.Upgrade) fetch = absurd fetch
