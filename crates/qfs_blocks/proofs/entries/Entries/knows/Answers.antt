-- What the check leaves to show of `entries::Entries::knows`.
use Rattle.std.proofs.Common.{ap, find, ◌∙◌}
use Rattle.std.specs.List.{list_any}
use Rattle.std.specs.Option.{is_some}
use Rattle.qfs_base.specs.Table.{has_key}
use Rattle.qfs_blocks.specs.BlockTables.{CondemnedEntries}
use Rattle.qfs_blocks.specs.CopyIndex.{place_cmp}
use Rattle.qfs_blocks.specs.Entries.{is_entry_of}
use Rattle.qfs_blocks.proofs.IndexLaws.{known_copy}
use Rattle.qfs_blocks.proofs.RowLaws.{some_copied}
use Rattle.qfs_blocks.proofs.entries.Entries.knows.Goals as goal

pub returns : goal.returns
returns c =
    let id = c.args.id in
    let rows = c.self.inside.by_copy.rows in
    c.is_some.ensures ∙ some_copied c.get.result ∙ ap is_some c.get.ensures
    ∙ ap (λ row. is_some (find (has_key (place_cmp row)) rows)) c.first-row.ensures
    ∙ known_copy id.block id.slot c.args.copy rows c.self.inside.table.rows c.self.invariant.index
    ∙ ap (λ (it : CondemnedEntries). list_any (is_entry_of id.block id.slot c.args.copy) it.entries)
    c.self.view_is
