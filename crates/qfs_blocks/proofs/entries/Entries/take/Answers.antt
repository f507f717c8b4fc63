-- What the check leaves to show of `entries::Entries::take`.
use Rattle.std.proofs.Common.{ap, sym, ◌∙◌}
use Rattle.qfs_base.specs.Table.{has_key, without}
use Rattle.qfs_blocks.specs.CopyIndex.{copy_cmp, copy_row}
use Rattle.qfs_blocks.proofs.TableLaws.{entries_kept, entries_taken}
use Rattle.qfs_blocks.proofs.entries.Entries.take.Goals as goal

pub invariant_of-self : goal.invariant_of-self
invariant_of-self c =
    let rows = c.remove.ensures in
    let copies = c.remove-in-Some.ensures in
    entries_taken c.self.invariant c.remove.new.self c.remove-in-Some.new.self c.args.number
    c.in-Some.row (sym rows.row ∙ c.in-Some.is) rows.rows
    (copies.rows ∙ ap (λ row. without (has_key (copy_cmp row)) c.self.inside.by_copy.rows)
    (c.of.ensures ∙ ap copy_row c.entry.ensures))
    rows.spare copies.spare

pub invariant_of-self-in-None : goal.invariant_of-self-in-None
invariant_of-self-in-None c =
    let rows = c.remove.ensures in
    entries_kept c.self.invariant c.remove.new.self c.self.inside.by_copy c.args.number
    (sym rows.row ∙ c.in-None.is) rows.rows rows.spare
