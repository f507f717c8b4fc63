-- What the loop of `entries::Entries::from_list` keeps.
use Rattle.std.proofs.Common.{◌≡◌, ◌++◌, ◌≤◌}
use Rattle.std.specs.Vec.Iter.{into_iter_items}
use Rattle.qfs_base.specs.declared.image.CondemnedEntry.{CondemnedEntry}
use Rattle.qfs_base.specs.Table.{Each}
use Rattle.qfs_blocks.proofs.entries.Entries.from_list.Given as goal

-- the entries so far and those to come are those of the list, in their order
abbrev pub invariant-loop-entry : goal.invariant-loop-entry
invariant-loop-entry l = record {
  joined : l.entries.entries ++ into_iter_items l.entry-iterator ≡ l.fn.list;
  high : Each (λ (entry : CondemnedEntry). l.entries.next ≤ entry.condemned.number)
      (into_iter_items l.entry-iterator);
  spare : l.entries.spare ≡ 0;
}
