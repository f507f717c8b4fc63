-- A pair of images of now is one that a log that stands may leave.
use Rattle.qfs_log.specs.Log.{MayBe}
use Rattle.qfs_log.proofs.Logs.{current_now, other_now, pair_before, now_by_sides}
use Rattle.qfs_log.proofs.log.Log.crash_now.Goals as goal

pub returns : goal.returns
returns g c = λ content rival stands.
    let d = g.L.LogDisk in
    let log = c.args.self.now in
    now_by_sides d.tells d.clock d.leaves d.left_since d.content log.right log.current log.other (λ found. MayBe content log.unsettled rival found) (λ one two left_c left_o.
    pair_before d.tells d.clock d.leaves d.left_since d.content log content rival one two stands
    (current_now d.tells d.clock d.leaves d.left_since d.content log content rival stands one left_c)
    (other_now d.tells d.clock d.leaves d.left_since d.content log content rival stands two left_o))
