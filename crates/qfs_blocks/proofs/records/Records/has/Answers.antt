-- What the check leaves to show of `records::Records::has`.
use Rattle.std.proofs.Common.{ap, find, subst, ◌∙◌}
use Rattle.std.specs.Option.{is_some}
use Rattle.qfs_base.specs.Table.{IsRising}
use Rattle.qfs_model_meta.specs.Slots.{is_slot, slot_cmp}
use Rattle.qfs_blocks.specs.BlockTables.{SlotRecords}
use Rattle.qfs_blocks.specs.Records.{is_of}
use Rattle.qfs_blocks.proofs.RowLaws.{some_copied}
use Rattle.qfs_blocks.proofs.records.Records.has.Goals as goal

pub returns-clause-found : goal.returns-clause-found
unfolding is_slot
returns-clause-found c =
    c.is_some.ensures ∙ some_copied c.get.result ∙ ap is_some c.get.ensures
    ∙ ap (λ (it : SlotRecords). is_some (find (is_of c.args.id) it.slots)) c.self.view_is

pub returns-clause-rising : goal.returns-clause-rising
returns-clause-rising c =
    subst (λ (it : SlotRecords). IsRising slot_cmp it.slots) c.self.view_is
    c.self.invariant.in_order
