use Rattle.std.proofs.Common.{rules, ◌∙◌, ap, not}
use Rattle.std.proofs.lemmas.Fn.{filter_same}
use Rattle.qfs_base.specs.declared.image.Lease.{Lease}
use Rattle.qfs_model_meta.specs.Leases.{end_lease, is_lease}
use Rattle.qfs_meta.proofs.leases.end_lease.Goals as goal

pub returns : goal.returns
unfolding end_lease is_lease
returns c =
    c.from_vec.ensures
    ∙ filter_same _ (λ (lease : Lease). not (is_lease c.args.number lease)) _ (λ x b f' k. search rules) _ _ c.retain.ensures.filtered
    ∙ ap (end_lease c.args.number) c.take_items-rows.ensures.items
