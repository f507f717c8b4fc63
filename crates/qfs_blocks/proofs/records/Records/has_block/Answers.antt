-- What the check leaves to show of `records::Records::has_block`.
use Rattle.std.proofs.Common.{ap, ◌∙◌}
use Rattle.std.specs.List.{list_any}
use Rattle.std.specs.Option.{is_some}
use Rattle.qfs_base.specs.Table.{has_key}
use Rattle.qfs_laws_tables.specs.SomeRow.{some-any}
use Rattle.qfs_model_meta.specs.Slots.{block_order, is_of_block}
use Rattle.qfs_blocks.specs.BlockTables.{SlotRecords}
use Rattle.qfs_blocks.proofs.RowLaws.{some_copied}
use Rattle.qfs_blocks.proofs.records.Records.has_block.Goals as goal

pub returns : goal.returns
unfolding is_of_block
returns c =
    c.is_some.ensures ∙ some_copied c.get.result ∙ ap is_some c.get.ensures
    ∙ some-any (has_key (block_order c.args.block)) c.self.inside.table.rows
    ∙ ap (λ (it : SlotRecords). list_any (is_of_block c.args.block) it.slots) c.self.view_is
