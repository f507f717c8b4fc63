-- What the loop of `files::Files::parents_refusal` keeps.
use Rattle.std.proofs.Common.{◌≡◌, ◌-◌, length, take, map}
use Rattle.std.specs.List.{range_with_len}
use Rattle.qfs_base.specs.NameTree.{kind_at, through_refusal, parents_refusal}
use Rattle.qfs_base.specs.Table.{first_of}
use Rattle.qfs_files.specs.Rows.{standing_of}
use Rattle.qfs_files.proofs.files.Files.parents_refusal.Given as goal

-- the parents that are left decide
abbrev pub invariant-loop-depth : goal.invariant-loop-depth
invariant-loop-depth l =
    parents_refusal l.absent (standing_of l.self) l.names
    ≡ first_of (λ parent. through_refusal l.absent (kind_at (standing_of l.self) parent))
    (map (λ n. take n l.names) (range_with_len l.depth (length l.names - l.depth)))
