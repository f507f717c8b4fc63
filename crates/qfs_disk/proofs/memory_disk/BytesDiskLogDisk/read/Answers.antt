-- A read leaves the past.
use Rattle.std.proofs.Common.{refl}
use Rattle.qfs_disk.specs.declared.memory_disk.BytesDisk.{BytesDisk}
use Rattle.qfs_disk.specs.Disk.{Same}
use Rattle.qfs_disk.proofs.PastLaws.{idle}
use Rattle.qfs_disk.proofs.memory_disk.BytesDiskLogDisk.read.Goals as goal

pub returns-then-next_fails-clause-crash : goal.returns-then-next_fails-clause-crash
returns-then-next_fails-clause-crash g c = λ told. idle (λ (d : BytesDisk g.row.F.Denot g.row.M.Denot). g.M.Moments.past d.kept) Same c.args.self.now _ (λ _. refl) refl

pub returns-clause-crash : goal.returns-clause-crash
returns-clause-crash g c = λ told. idle (λ (d : BytesDisk g.row.F.Denot g.row.M.Denot). g.M.Moments.past d.kept) Same c.args.self.now _ (λ _. refl) refl
