-- The rows of a table that have a key.
use Rattle.std.specs.Prelude.{◌≡◌, ◌≤◌, List, length, take, drop, slice_range}
use Rattle.std.specs.declared.cmp.Ordering.{Ordering}
use Rattle.std.specs.declared.cmp.Ordering.TheVariants.{Less, Equal, Greater}
use Rattle.std.specs.List.Sorted.{IsPartitionedBy}
use Rattle.std.specs.Ordering.{is_ge, is_gt}
use Rattle.qfs_base.specs.Table.{Each}
use Rattle.qfs_meta.specs.declared.rows.Run.{Run}

-- the rows below a key come first, then those with it, and then those above it
abbrev pub IsInOrder : {X : Type 0} → (X → Ordering) → List X → Type 0
IsInOrder order rows =
    IsPartitionedBy (λ row. is_gt (order row)) rows × IsPartitionedBy (λ row. is_ge (order row)) rows

-- the rows before a run are below a key, those of the run have it, and those behind are above it
pub record IsRun {X : Type 0} (order : X → Ordering) (rows : List X) (run : Run) : Type 0 where
  pub rises : run.start ≤ run.end
  pub within : run.end ≤ length rows
  pub before : Each (λ row. order row ≡ Greater) (take run.start rows)
  pub inside : Each (λ row. order row ≡ Equal) (slice_range rows run.start run.end)
  pub behind : Each (λ row. order row ≡ Less) (drop run.end rows)
