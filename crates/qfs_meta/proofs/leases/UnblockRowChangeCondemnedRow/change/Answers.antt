use Rattle.std.proofs.Common.{rules, ◌≡◌, ◌==◌, ◌∙◌, ap, not}
use Rattle.std.proofs.lemmas.Fn.{filter_same}
use Rattle.qfs_base.specs.Table.{without}
use Rattle.qfs_model_meta.specs.Condemned.{unblock}
use Rattle.qfs_meta.proofs.leases.UnblockRowChangeCondemnedRow.change.Goals as goal

pub returns : goal.returns
unfolding unblock
returns c =
    let blockers : c.from_vec.result ≡ without (λ blocker. blocker == c.args.self.now.lease) c.args.row.now.blockers =
    c.from_vec.ensures
    ∙ filter_same _ (λ blocker. not (blocker == c.args.self.now.lease)) _ (λ x b f' k. search rules) _ _ c.retain.ensures.filtered
    ∙ ap (without (λ blocker. blocker == c.args.self.now.lease)) c.take_items-blockers.ensures.items in
    λ i. record c.args.row.now { blockers = blockers i }
