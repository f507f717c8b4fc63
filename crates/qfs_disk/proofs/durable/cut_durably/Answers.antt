-- A call and the sync behind it are one step.
use Rattle.std.proofs.Common.{◌∙◌}
use Rattle.qfs_disk.specs.Disk.{CutShort}
use Rattle.qfs_disk.specs.Steps.{cut_itself, spoiled, synced}
use Rattle.qfs_disk.proofs.durable.cut_durably.Goals as goal

pub returns-in_err-cut-clause-crash : goal.returns-in_err-cut-clause-crash
returns-in_err-cut-clause-crash g c = λ told.
    let d = g.L.LogDisk in
    spoiled d.clock d.leaves d.left_since c.args.disk.now c.cut.new.self (CutShort c.args.len) c.cut.result (cut_itself _) (c.cut.ensures.crash told)

pub returns-clause-crash : goal.returns-clause-crash
returns-clause-crash g c = λ told.
    let d = g.L.LogDisk in
    synced d.clock d.leaves d.left_since c.args.disk.now c.cut.new.self c.sync.new.self (CutShort c.args.len) c.cut.result (cut_itself _) (c.cut.ensures.crash told) (c.sync.ensures.crash (c.cut.ensures.tells ∙ told))
