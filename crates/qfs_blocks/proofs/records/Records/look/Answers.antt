-- What the check leaves to show of `records::Records::look`.
use Rattle.std.proofs.Common.{ap, find, sym, ◌∙◌, Some}
use Rattle.std.specs.Option.{option_copied, option_map}
use Rattle.qfs_base.specs.declared.image.SlotRow.{SlotRow}
use Rattle.qfs_model_meta.specs.Slots.{is_slot}
use Rattle.qfs_blocks.specs.BlockTables.{SlotRecords}
use Rattle.qfs_blocks.specs.Records.{is_of}
use Rattle.qfs_blocks.proofs.records.Records.look.Goals as goal

pub returns-in-Some : goal.returns-in-Some
unfolding is_slot
returns-in-Some c =
    let seen = ap (λ (it : SlotRecords). find (is_of c.args.id) it.slots) c.self.view_is in
    ap (λ state. Some state) c.state.ensures
    ∙ ap (option_map (λ (row : SlotRow). row.state))
    (sym (ap option_copied c.in-Some.is) ∙ c.get.ensures ∙ seen)

pub returns-in-None : goal.returns-in-None
unfolding is_slot
returns-in-None c =
    let seen = ap (λ (it : SlotRecords). find (is_of c.args.id) it.slots) c.self.view_is in
    ap (option_map (λ (row : SlotRow). row.state))
    (sym (ap option_copied c.in-None.is) ∙ c.get.ensures ∙ seen)
