-- A cut is one more moment.
use Rattle.std.proofs.Common.{refl, ap, ◌∙◌, length}
use Rattle.qfs_disk.specs.declared.memory_disk.BytesDisk.{BytesDisk}
use Rattle.std.proofs.lemmas.List.{length-take-le}
use Rattle.qfs_disk.specs.Disk.{CutShort}
use Rattle.qfs_disk.specs.Moments.{Moment, now, after_cut}
use Rattle.qfs_disk.specs.Steps.{cut_itself}
use Rattle.qfs_disk.proofs.PastLaws.{same_images, without_memory, idle, idle_spoils, cuts, holds}
use Rattle.qfs_disk.proofs.memory_disk.BytesDiskLogDisk.cut.Goals as goal

pub returns-then-next_fails-clause-crash : goal.returns-then-next_fails-clause-crash
returns-then-next_fails-clause-crash g c = λ told. idle (λ (d : BytesDisk g.row.F.Denot g.row.M.Denot). g.M.Moments.past d.kept) (CutShort c.args.len) c.args.self.now _ (cut_itself _) refl

pub returns-in_err-cut-clause-crash : goal.returns-in_err-cut-clause-crash
returns-in_err-cut-clause-crash g c = λ told. idle_spoils (λ (d : BytesDisk g.row.F.Denot g.row.M.Denot). g.M.Moments.past d.kept) (CutShort c.args.len) _ c.args.self.now _ (cut_itself _) c.in_err-cut.ensures.err

pub returns-clause-size : goal.returns-clause-size
returns-clause-size g c =
    let held = holds g.M.Moments.past c.args.self.now.kept c.cut.new.self (after_cut c.args.len (now (g.M.Moments.past c.args.self.now.kept))) c.in_ok-cut.ensures.ok in
    ap (λ (m : Moment). length m.bytes) held ∙ length-take-le c.args.len (now (g.M.Moments.past c.args.self.now.kept)).bytes c.requires

pub returns-clause-bytes : goal.returns-clause-bytes
returns-clause-bytes g c = λ told.
    ap (λ (m : Moment). m.bytes)
    (holds g.M.Moments.past c.args.self.now.kept c.cut.new.self (after_cut c.args.len (now (g.M.Moments.past c.args.self.now.kept))) c.in_ok-cut.ensures.ok)

pub returns-clause-crash : goal.returns-clause-crash
returns-clause-crash g c = λ told. cuts (λ (d : BytesDisk g.row.F.Denot g.row.M.Denot). g.M.Moments.past d.kept) c.args.len c.args.self.now _ c.requires c.in_ok-cut.ensures.ok

pub returns-in_err-cut-clause-leaves : goal.returns-in_err-cut-clause-leaves
returns-in_err-cut-clause-leaves g c = without_memory c.from_residual.result (λ told image is.
    same_images (g.M.Moments.past c.args.self.now.kept) (g.M.Moments.past c.cut.new.self) c.in_err-cut.ensures.err image is)
