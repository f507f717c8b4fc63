-- What the loop of `closing::ungranted_in_table` keeps.
use Rattle.std.proofs.Common.{◌≡◌, find, map}
use Rattle.qfs_model_meta.specs.PutRequests.{lacks_grant}
use Rattle.qfs_model_meta.specs.Slots.{slot_id, slots_of}
use Rattle.qfs_plan_files.proofs.closing.ungranted_in_table.Given as goal

-- the rows that are left decide
abbrev pub invariant-loop-row : goal.invariant-loop-row
invariant-loop-row l =
    find (lacks_grant l.blocks.slots) (map slot_id (slots_of l.file l.blocks.slots))
    ≡ find (lacks_grant l.blocks.slots) (map slot_id l.row-iterator)
