-- What the loop of `puts::commands_of` keeps.
use Rattle.std.proofs.Common.{◌≡◌, ◌-◌, drop}
use Rattle.std.specs.List.{flat_map, slice_get}
use Rattle.qfs_files.proofs.puts.commands_of.Given as goal

-- the actor's place among those that are left
abbrev pub invariant-loop-phase : goal.invariant-loop-phase
invariant-loop-phase l =
    slice_get (flat_map (λ phase. phase) l.phases) (l.actor - 1)
    ≡ slice_get (flat_map (λ phase. phase) (drop l.phase-index l.phases)) l.left
