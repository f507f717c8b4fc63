-- A call and the sync behind it are one step.
use Rattle.std.proofs.Common.{length, ◌∙◌}
use Rattle.qfs_disk.specs.Disk.{Torn}
use Rattle.qfs_disk.specs.Steps.{torn_itself, spoiled, synced}
use Rattle.qfs_disk.proofs.durable.write_durably.Goals as goal

pub returns-in_err-write_at-clause-crash : goal.returns-in_err-write_at-clause-crash
returns-in_err-write_at-clause-crash g c = λ told.
    let d = g.L.LogDisk in
    spoiled d.clock d.leaves d.left_since c.args.disk.now c.write_at.new.self (Torn c.args.at (length c.args.bytes.now)) c.write_at.result (torn_itself _ _) (c.write_at.ensures.crash told)

pub returns-clause-crash : goal.returns-clause-crash
returns-clause-crash g c = λ told.
    let d = g.L.LogDisk in
    synced d.clock d.leaves d.left_since c.args.disk.now c.write_at.new.self c.sync.new.self (Torn c.args.at (length c.args.bytes.now)) c.write_at.result (torn_itself _ _) (c.write_at.ensures.crash told) (c.sync.ensures.crash (c.write_at.ensures.tells ∙ told))
