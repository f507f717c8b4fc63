-- Copies that are condemned one after another.
use Rattle.std.specs.Prelude.{ℕ, ◌+◌, List, [], ◌∷◌, ◌++◌, length, Option, Some, None}
use Rattle.std.specs.Bool.{then_some}
use Rattle.std.specs.List.{filter_map}
use Rattle.qfs_base.specs.declared.history.Entry.TheVariants as Wrote
use Rattle.qfs_base.specs.declared.image.CondemnedRow.{CondemnedRow}
use Rattle.qfs_base.specs.declared.image.Grant.{Grant}
use Rattle.qfs_base.specs.declared.image.Lease.{Lease}
use Rattle.qfs_base.specs.declared.image.MetaImage.{MetaImage}
use Rattle.qfs_base.specs.declared.image.ServerView.{ServerView}
use Rattle.qfs_base.specs.declared.image.SlotRow.{SlotRow}
use Rattle.qfs_base.specs.declared.request.SlotId.{SlotId}
use Rattle.qfs_model_meta.specs.Condemned.{condemned_row}
use Rattle.qfs_model_meta.specs.Servers.{is_live}
use Rattle.qfs_model_meta.specs.Slots.{slots_of, forget_file}
use Rattle.qfs_model_meta.specs.TreeRows.{take_file}
use Rattle.qfs_meta.specs.declared.condemning.SlotCopy.{SlotCopy}

-- the rows of live copies that are condemned now, numbered from this number on
abbrev pub condemned_rows : List Lease → ℕ → List SlotCopy → List CondemnedRow
condemned_rows leases number [] = []
condemned_rows leases number (it ∷ rest) =
    condemned_row number it.id.block it.id.slot it.copy leases ∷ condemned_rows leases (number + 1) rest

-- the state after live copies were condemned, one after another
abbrev pub condemning : List SlotCopy → MetaImage → MetaImage
condemning copies m =
    record m {
      condemned = m.condemned ++ condemned_rows m.leases m.next_condemned copies;
      next_condemned = m.next_condemned + length copies;
    }

-- the copy that a slot's pending grant allows, if there is one and it is live
abbrev pub live_granted : List ServerView → SlotId → Option Grant → Option SlotCopy
live_granted servers id None = None
live_granted servers id (Some grant) = then_some (is_live servers grant.copy) (record { id = id; copy = grant.copy })

abbrev pub live_grant : List ServerView → SlotRow → Option SlotCopy
live_grant servers row = live_granted servers (record { block = row.block; slot = row.slot }) row.state.grant

-- the same for each of these slots
abbrev pub live_grants : List ServerView → List SlotRow → List SlotCopy
live_grants servers rows = filter_map (live_grant servers) rows

-- the state after an unclosed file was given up: its live grants are condemned, and it and its slots are gone
abbrev pub aborting : ℕ → MetaImage → MetaImage
aborting file m =
    record (condemning (live_grants m.servers (slots_of file m.slots)) m) {
      slots = forget_file file m.slots;
      tree = take_file file m.tree;
      history = m.history ++ Wrote.Aborted file ∷ [];
    }
