-- A sync is one more moment.
use Rattle.std.proofs.Common.{refl, ap, length}
use Rattle.qfs_disk.specs.declared.memory_disk.BytesDisk.{BytesDisk}
use Rattle.qfs_disk.specs.Disk.{Same}
use Rattle.qfs_disk.specs.Moments.{Moment, now, after_sync}
use Rattle.qfs_disk.proofs.PastLaws.{same_images, without_memory, idle, syncs, settles, holds}
use Rattle.qfs_disk.proofs.memory_disk.BytesDiskLogDisk.sync.Goals as goal

pub returns-then-next_fails-clause-crash : goal.returns-then-next_fails-clause-crash
returns-then-next_fails-clause-crash g c = λ told. idle (λ (d : BytesDisk g.row.F.Denot g.row.M.Denot). g.M.Moments.past d.kept) Same c.args.self.now _ (λ _. refl) refl

pub returns-in_err-sync-clause-crash : goal.returns-in_err-sync-clause-crash
returns-in_err-sync-clause-crash g c = λ told. idle (λ (d : BytesDisk g.row.F.Denot g.row.M.Denot). g.M.Moments.past d.kept) Same c.args.self.now _ (λ _. refl) c.in_err-sync.ensures.err

pub returns-clause-size : goal.returns-clause-size
returns-clause-size g c =
    ap (λ (m : Moment). length m.bytes)
    (holds g.M.Moments.past c.args.self.now.kept c.sync.new.self (after_sync (now (g.M.Moments.past c.args.self.now.kept))) c.in_ok-sync.ensures.ok)

pub returns-clause-bytes : goal.returns-clause-bytes
returns-clause-bytes g c = λ told.
    ap (λ (m : Moment). m.bytes)
    (holds g.M.Moments.past c.args.self.now.kept c.sync.new.self (after_sync (now (g.M.Moments.past c.args.self.now.kept))) c.in_ok-sync.ensures.ok)

pub returns-clause-durable : goal.returns-clause-durable
returns-clause-durable g c = λ told. settles g.M.Moments.past c.args.self.now.kept c.sync.new.self c.in_ok-sync.ensures.ok

pub returns-clause-crash : goal.returns-clause-crash
returns-clause-crash g c = λ told. syncs (λ (d : BytesDisk g.row.F.Denot g.row.M.Denot). g.M.Moments.past d.kept) c.args.self.now _ c.in_ok-sync.ensures.ok

pub returns-in_err-sync-clause-leaves : goal.returns-in_err-sync-clause-leaves
returns-in_err-sync-clause-leaves g c = without_memory c.from_residual.result (λ told image is.
    same_images (g.M.Moments.past c.args.self.now.kept) (g.M.Moments.past c.sync.new.self) c.in_err-sync.ensures.err image is)
