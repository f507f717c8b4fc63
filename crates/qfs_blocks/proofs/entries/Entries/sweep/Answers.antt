-- What the check leaves to show of `entries::Entries::sweep`.
use Rattle.std.proofs.Common.{find, refl, sym, ◌∙◌}
use Rattle.qfs_blocks.specs.Entries.{is_entry}
use Rattle.qfs_blocks.proofs.EntryLaws.{swept_as}
use Rattle.qfs_blocks.proofs.entries.Entries.sweep.Goals as goal

pub returns-then-is_ordered-clause-entries : goal.returns-then-is_ordered-clause-entries
returns-then-is_ordered-clause-entries c =
    let entries = c.args.self.now.entries in
    c.take.ensures.entries
    ∙ (swept_as c.args.number entries (find (is_entry c.args.number) entries) refl
    c.is_ordered.ensures.rising).0 (sym c.is_ordered.ensures.ordered ∙ c.if-is_ordered.true)

pub returns-else-is_ordered-clause-entries : goal.returns-else-is_ordered-clause-entries
returns-else-is_ordered-clause-entries c =
    let entries = c.args.self.now.entries in
    sym ((swept_as c.args.number entries (find (is_entry c.args.number) entries) refl
    c.is_ordered.ensures.rising).1 (sym c.is_ordered.ensures.ordered ∙ c.if-is_ordered.false))
