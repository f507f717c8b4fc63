-- What the loop of `table::Table::to_rows` keeps.
use Rattle.std.proofs.Common.{◌≡◌, length, take, drop}
use Rattle.std.specs.List.{AllZip}
use Rattle.qfs_table.proofs.table.Table.to_rows.Given as goal

-- the rows so far are copied, and the others are still to come
abbrev pub invariant-loop-row : goal.invariant-loop-row
invariant-loop-row g l = record {
  copied : AllZip g.T.Clone.is_clone (take (length l.rows.items) l.self.rows) l.rows.items;
  rest : drop (length l.rows.items) l.self.rows ≡ l.row-iterator;
}
