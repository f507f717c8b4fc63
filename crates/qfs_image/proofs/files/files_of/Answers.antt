use Rattle.std.proofs.Common.{◌∙◌, ◌+◌, ap, drop, sym}
use Rattle.qfs_image.specs.Files.{Files, with_files}
use Rattle.qfs_image.proofs.FileLaws.{files_end, step_known, step_over, step_put}
use Rattle.qfs_image.proofs.files.files_of.Goals as goal

pub loop-row-preserved-then-row-eq0 : goal.loop-row-preserved-then-row-eq0
loop-row-preserved-then-row-eq0 c =
    step_over c.loop-row.files c.args.tree.now c.loop-row.row-index c.row-item.result c.loop-row-test.true c.row-item.is c.if-row-eq0.true
    ∙ c.loop-row.invariant

pub returns-then-contains : goal.returns-then-contains
returns-then-contains c =
    step_known c.loop-row.files c.args.tree.now c.loop-row.row-index c.row-item.result c.loop-row-test.true c.row-item.is c.if-row-eq0.false
    (sym c.if-contains.true ∙ c.contains.ensures)
    ∙ c.loop-row.invariant

pub loop-row-preserved : goal.loop-row-preserved
loop-row-preserved c =
    ap (λ (files : Files). with_files files (drop (c.loop-row.row-index + 1) c.args.tree.now)) c.in_ok-insert.ensures.ok
    ∙ step_put c.loop-row.files c.args.tree.now c.loop-row.row-index c.row-item.result c.loop-row-test.true c.row-item.is c.if-row-eq0.false
    (sym c.if-contains.false ∙ c.contains.ensures)
    ∙ c.loop-row.invariant

pub returns : goal.returns
returns c = files_end c.loop-row.files c.args.tree.now c.loop-row.row-index c.loop-row-test.false ∙ c.loop-row.invariant
