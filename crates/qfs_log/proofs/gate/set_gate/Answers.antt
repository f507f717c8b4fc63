-- A write and its sync are one step.
use Rattle.std.proofs.Common.{◌∙◌}
use Rattle.qfs_disk.specs.Disk.{Torn}
use Rattle.qfs_disk.specs.Steps.{torn_itself, synced}
use Rattle.qfs_log.proofs.gate.set_gate.Goals as goal

pub returns-in_err-sync-clause-crash : goal.returns-in_err-sync-clause-crash
returns-in_err-sync-clause-crash g c = λ told.
    let d = g.L.LogDisk in
    synced d.clock d.leaves d.left_since c.args.disk.now c.write_at.new.self c.sync.new.self (Torn c.args.gate 1) c.write_at.result (torn_itself _ _) (c.write_at.ensures.crash told) (c.sync.ensures.crash (c.write_at.ensures.tells ∙ told))

pub returns-clause-crash : goal.returns-clause-crash
returns-clause-crash g c = λ told.
    let d = g.L.LogDisk in
    synced d.clock d.leaves d.left_since c.args.disk.now c.write_at.new.self c.sync.new.self (Torn c.args.gate 1) c.write_at.result (torn_itself _ _) (c.write_at.ensures.crash told) (c.sync.ensures.crash (c.write_at.ensures.tells ∙ told))
