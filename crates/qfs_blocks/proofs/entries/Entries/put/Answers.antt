-- What the check leaves to show of `entries::Entries::put`.
use Rattle.std.proofs.Common.{◌≤◌, ◌++◌, ◌∷◌, [], ap, ◌∙◌, arith, length, length-append}
use Rattle.qfs_base.specs.Table.{place}
use Rattle.qfs_blocks.specs.BlockTables.{CondemnedEntries}
use Rattle.qfs_blocks.specs.CopyIndex.{copy_cmp}
use Rattle.qfs_blocks.specs.Entries.{entry_cmp}
use Rattle.qfs_blocks.proofs.EntryLaws.{put_last}
use Rattle.qfs_blocks.proofs.TableLaws.{entries_put}
use Rattle.qfs_blocks.proofs.entries.Entries.put.Goals as goal

pub invariant_of-self : goal.invariant_of-self
invariant_of-self c =
    let rows = c.self.inside.table.rows in
    let entry = c.args.entry in
    let seen = ap (λ (it : CondemnedEntries). it.next) c.self.view_is in
    let high : c.self.inside.next ≤ entry.condemned.number =
    omega (arith, seen, c.requires.number) in
    let placed = c.insert-2.ensures.rows ∙ ap (λ entry. place entry_cmp entry rows) c.new.ensures in
    let last = placed ∙ put_last entry c.self.inside.next rows c.self.invariant.numbers high in
    entries_put c.self.invariant c.insert-2.new.self c.insert.new.self entry high c.requires.last
    placed
    (c.insert.ensures.rows
    ∙ ap (λ row. place copy_cmp row c.self.inside.by_copy.rows) c.of.ensures)
    (omega (
      arith,
      c.insert-2.ensures.spare,
      ap length last,
      length-append rows (entry ∷ []),
    ))
    c.insert.ensures.few

pub returns-clause-entries : goal.returns-clause-entries
returns-clause-entries c =
    let rows = c.self.inside.table.rows in
    let entry = c.args.entry in
    let seen = ap (λ (it : CondemnedEntries). it.next) c.self.view_is in
    let high : c.self.inside.next ≤ entry.condemned.number =
    omega (arith, seen, c.requires.number) in
    c.insert-2.ensures.rows ∙ ap (λ entry. place entry_cmp entry rows) c.new.ensures
    ∙ put_last entry c.self.inside.next rows c.self.invariant.numbers high
    ∙ ap (λ (it : CondemnedEntries). it.entries ++ entry ∷ []) c.self.view_is

pub returns-clause-spare : goal.returns-clause-spare
returns-clause-spare c =
    let rows = c.self.inside.table.rows in
    let entry = c.args.entry in
    let seen = ap (λ (it : CondemnedEntries). it.next) c.self.view_is in
    let high : c.self.inside.next ≤ entry.condemned.number =
    omega (arith, seen, c.requires.number) in
    let last = c.insert-2.ensures.rows ∙ ap (λ entry. place entry_cmp entry rows) c.new.ensures
    ∙ put_last entry c.self.inside.next rows c.self.invariant.numbers high in
    omega (
      arith,
      c.insert-2.ensures.spare,
      ap length last,
      length-append rows (entry ∷ []),
      ap (λ (it : CondemnedEntries). it.spare) c.self.view_is,
    )
