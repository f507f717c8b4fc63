-- The state of an image as the program reads it: each list of failed servers is a set of servers, as it is in every image.
use Rattle.std.specs.Prelude.{Bool, List}
use Rattle.std.specs.List.{list_all}
use Rattle.qfs_base.specs.declared.history.Entry.{Entry}
use Rattle.qfs_base.specs.declared.image.CondemnedRow.{CondemnedRow}
use Rattle.qfs_base.specs.declared.image.DroppedActor.{DroppedActor}
use Rattle.qfs_base.specs.declared.image.Lease.{Lease}
use Rattle.qfs_base.specs.declared.image.MetaImage.{MetaImage}
use Rattle.qfs_base.specs.declared.image.SlotRow.{SlotRow}
use Rattle.qfs_model_disks.specs.Image.{condemned_row, counters, dropped_actor, entry, lease, server_view, tree_row}
use Rattle.qfs_record.specs.Part.{Part, listed, pair, shaped}
use Rattle.qfs_spelling.specs.Sets.{is_set, set_row}

-- the last four lists
abbrev pub later_lists : Part (List Lease × (List CondemnedRow × (List DroppedActor × List Entry)))
later_lists = pair (listed lease) (pair (listed condemned_row) (pair (listed dropped_actor) (listed entry)))

-- counters and lists, with slots of this spelling
abbrev pub state_with : Part SlotRow → Part MetaImage
state_with row =
    shaped
    (λ v. record {
      turn = v.0.0;
      clock = v.0.1.0;
      next_file = v.0.1.1.0;
      next_lease = v.0.1.1.1.0;
      next_condemned = v.0.1.1.1.1;
      servers = v.1.0;
      tree = v.1.1.0;
      slots = v.1.1.1.0;
      leases = v.1.1.1.1.0;
      condemned = v.1.1.1.1.1.0;
      dropped = v.1.1.1.1.1.1.0;
      history = v.1.1.1.1.1.1.1;
    })
    (λ (m : MetaImage). (
      (m.turn, (m.clock, (m.next_file, (m.next_lease, m.next_condemned)))),
      (m.servers, (m.tree, (m.slots, (m.leases, (m.condemned, (m.dropped, m.history)))))),
    ))
    (pair counters
    (pair (listed server_view)
    (pair (listed tree_row)
    (pair (listed row) later_lists))))

abbrev pub set_state : Part MetaImage
set_state = state_with set_row

-- whether a row's failed servers are a set
abbrev pub keeps_set : SlotRow → Bool
keeps_set row = is_set row.state.failed

-- whether those of each slot of a state are
abbrev pub keep_sets : MetaImage → Bool
keep_sets m = list_all keeps_set m.slots
