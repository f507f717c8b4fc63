use Rattle.qfs_disk.specs.Steps.{stays}
use Rattle.qfs_load.proofs.whole.read_whole.Goals as goal

pub returns-in_err-bytes-clause-crash : goal.returns-in_err-bytes-clause-crash
returns-in_err-bytes-clause-crash g c = λ told.
    let d = g.L.LogDisk in
    let met = g.met.L.LogDisk g.world.𝓛 g.world.𝓜 g.world.𝓡 ((λ s x. x), (λ x. x), (λ x. x), λ x. x) in
    stays d.clock d.leaves d.left_since c.args.disk.now (λ t x le left. met.counts_now c.args.disk.now t x told le left) (λ x left. met.only_now c.args.disk.now x told left)
