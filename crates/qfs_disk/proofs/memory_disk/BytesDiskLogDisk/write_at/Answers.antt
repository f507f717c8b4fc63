-- A write is one more moment.
use Rattle.std.proofs.Common.{refl, ap, ◌∙◌, length}
use Rattle.qfs_disk.specs.declared.memory_disk.BytesDisk.{BytesDisk}
use Rattle.qfs_disk.specs.Disk.{Torn}
use Rattle.qfs_disk.specs.Moments.{Moment, now, after_write}
use Rattle.qfs_disk.specs.Steps.{torn_itself}
use Rattle.qfs_disk.proofs.Images.{length-written}
use Rattle.qfs_disk.proofs.PastLaws.{same_images, without_memory, idle, idle_spoils, writes, holds}
use Rattle.qfs_disk.proofs.memory_disk.BytesDiskLogDisk.write_at.Goals as goal

pub returns-then-next_fails-clause-crash : goal.returns-then-next_fails-clause-crash
returns-then-next_fails-clause-crash g c = λ told.
    idle (λ (d : BytesDisk g.row.F.Denot g.row.M.Denot). g.M.Moments.past d.kept) (Torn c.args.at (length c.args.bytes.now)) c.args.self.now _ (torn_itself _ _) refl

pub returns-in_err-write-clause-crash : goal.returns-in_err-write-clause-crash
returns-in_err-write-clause-crash g c = λ told.
    idle_spoils (λ (d : BytesDisk g.row.F.Denot g.row.M.Denot). g.M.Moments.past d.kept) (Torn c.args.at (length c.args.bytes.now)) _ c.args.self.now _ (torn_itself _ _) c.in_err-write.ensures.err

pub returns-clause-size : goal.returns-clause-size
returns-clause-size g c =
    let held = holds g.M.Moments.past c.args.self.now.kept c.write.new.self (after_write c.args.at c.args.bytes.now (now (g.M.Moments.past c.args.self.now.kept))) c.in_ok-write.ensures.ok in
    ap (λ (m : Moment). length m.bytes) held ∙ length-written c.args.at c.args.bytes.now (now (g.M.Moments.past c.args.self.now.kept)).bytes c.requires

pub returns-clause-bytes : goal.returns-clause-bytes
returns-clause-bytes g c = λ told.
    ap (λ (m : Moment). m.bytes)
    (holds g.M.Moments.past c.args.self.now.kept c.write.new.self (after_write c.args.at c.args.bytes.now (now (g.M.Moments.past c.args.self.now.kept))) c.in_ok-write.ensures.ok)

pub returns-clause-crash : goal.returns-clause-crash
returns-clause-crash g c = λ told. writes (λ (d : BytesDisk g.row.F.Denot g.row.M.Denot). g.M.Moments.past d.kept) c.args.at c.args.bytes.now c.args.self.now _ c.requires c.in_ok-write.ensures.ok

pub returns-in_err-write-clause-leaves : goal.returns-in_err-write-clause-leaves
returns-in_err-write-clause-leaves g c = without_memory c.from_residual.result (λ told image is.
    same_images (g.M.Moments.past c.args.self.now.kept) (g.M.Moments.past c.write.new.self) c.in_err-write.ensures.err image is)
