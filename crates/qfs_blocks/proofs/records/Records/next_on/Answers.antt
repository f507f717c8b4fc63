-- What the check leaves to show of `records::Records::next_on`.
use Rattle.std.proofs.Common.{ap, find, ◌∙◌}
use Rattle.std.specs.Option.{option_map}
use Rattle.qfs_model_meta.specs.Slots.{slot_id}
use Rattle.qfs_blocks.specs.BlockTables.{SlotRecords}
use Rattle.qfs_blocks.specs.Records.{has_current_on, is_next_on}
use Rattle.qfs_blocks.proofs.RecordLaws.{found_on}
use Rattle.qfs_blocks.proofs.records.Records.next_on.Goals as goal

pub returns : goal.returns
returns c =
    let server = c.args.server in
    let life = c.args.life in
    c.first_on.ensures
    ∙ ap (option_map slot_id) (ap (find (has_current_on server life)) c.run.ensures
    ∙ found_on server life c.args.after c.self.inside.table.rows
    ∙ ap (λ (it : SlotRecords). find (is_next_on server life c.args.after) it.slots) c.self.view_is)
