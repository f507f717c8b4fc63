-- What the check leaves to show of `entries::Entries::first_on`.
use Rattle.std.proofs.Common.{◌≡◌, true, ap, sym, subst, ◌∙◌}
use Rattle.std.specs.List.{list_any}
use Rattle.std.specs.Option.{option_copied, IfNone}
use Rattle.qfs_base.specs.Table.{without}
use Rattle.qfs_blocks.specs.BlockTables.{CondemnedEntries}
use Rattle.qfs_blocks.specs.Entries.{AreOn, is_entry, is_entry_on}
use Rattle.qfs_blocks.proofs.IndexLaws.{entry_on, entry_there, none_on}
use Rattle.qfs_blocks.proofs.entries.Entries.first_on.Goals as goal

pub returns-in_err-row-clause-none : goal.returns-in_err-row-clause-none
returns-in_err-row-clause-none c =
    subst (λ entries. IfNone c.from_residual.result
    (without (is_entry_on c.args.server) entries ≡ entries))
    (ap (λ (it : CondemnedEntries). it.entries) c.self.view_is)
    (rw c.from_residual.ensures
    (none_on c.args.server c.self.inside.by_copy.rows c.self.inside.table.rows
    c.self.invariant.index (sym c.get.ensures ∙ ap option_copied c.in_err-row.was)))

pub returns-clause-there : goal.returns-clause-there
returns-clause-there c =
    subst (λ entries. list_any (is_entry c.in_ok-row.row.now.number) entries ≡ true)
    (ap (λ (it : CondemnedEntries). it.entries) c.self.view_is)
    (entry_there c.args.server c.in_ok-row.row.now c.self.inside.by_copy.rows
    c.self.inside.table.rows c.self.invariant.index
    (sym c.get.ensures ∙ ap option_copied c.in_ok-row.was))

pub returns-clause-on : goal.returns-clause-on
returns-clause-on c =
    subst (AreOn c.args.server c.in_ok-row.row.now.number)
    (ap (λ (it : CondemnedEntries). it.entries) c.self.view_is)
    (entry_on c.args.server c.in_ok-row.row.now c.self.inside.by_copy.rows
    c.self.inside.table.rows c.self.invariant.index
    (sym c.get.ensures ∙ ap option_copied c.in_ok-row.was) c.self.invariant.in_order)
