use Rattle.std.proofs.Common.{◌≡◌, refl, sym, ap, ◌∙◌, take, None}
use Rattle.qfs_base.specs.NameTree.{parents_refusal, kind_at, through_refusal}
use Rattle.qfs_names.specs.Names.{standing_of}
use Rattle.qfs_laws_tree.specs.TreeFacts.{parents_next}
use Rattle.qfs_names.proofs.tree.Tree.parents_refusal.Goals as goal

pub loop-depth-init : goal.loop-depth-init
unfolding parents_refusal
loop-depth-init c = refl

pub loop-depth-preserved : goal.loop-depth-preserved
loop-depth-preserved c =
    let passed : through_refusal c.args.absent (kind_at (standing_of c.args.self.now.rows) (take c.loop-depth.depth c.args.names.now)) ≡ None =
    ap (through_refusal c.args.absent) (sym c.kind_at.ensures)
    ∙ sym c.through_refusal.ensures
    ∙ c.in_default.is in
    c.loop-depth.invariant
    ∙ parents_next (λ parent. through_refusal c.args.absent (kind_at (standing_of c.args.self.now.rows) parent)) c.args.names.now c.loop-depth.depth c.loop-depth-test.true passed
