-- What the loop of `files::uncount_current` keeps.
use Rattle.std.proofs.Common.{◌≡◌, fold}
use Rattle.qfs_base.specs.declared.image.SlotRow.{SlotRow}
use Rattle.qfs_place.specs.Loads.{uncount_live}
use Rattle.qfs_state.proofs.files.uncount_current.Given as goal

-- with the copies to come taken off, the loads are what they are in the end
abbrev pub invariant-loop-row : goal.invariant-loop-row
invariant-loop-row l =
    fold (λ loads (row : SlotRow). uncount_live l.servers row.state.current loads) l.loads
    l.row-iterator
    ≡ fold (λ loads (row : SlotRow). uncount_live l.servers row.state.current loads) l.fn.loads
    l.fn.rows
