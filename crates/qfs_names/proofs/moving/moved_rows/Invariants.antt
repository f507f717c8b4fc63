-- What the loop of `moving::moved_rows` keeps.
use Rattle.std.proofs.Common.{◌≡◌, ◌++◌, drop, map}
use Rattle.qfs_base.specs.Table.{Each}
use Rattle.qfs_names.specs.declared.row.NameRow.{NameRow}
use Rattle.qfs_names.specs.Moves.{CanMove}
use Rattle.qfs_names.specs.Names.{at_path}
use Rattle.qfs_names.proofs.moving.moved_rows.Given as goal

-- the rows so far and those that are left are all
abbrev pub invariant-loop-row : goal.invariant-loop-row
invariant-loop-row l = record {
  joined : l.then.items ++ map (λ (row : NameRow). at_path (l.to ++ drop l.depth row.path) row) l.row-iterator
      ≡ map (λ (row : NameRow). at_path (l.to ++ drop l.depth row.path) row) l.fn.rows;
  short : Each (CanMove l.depth l.to) l.row-iterator;
}
