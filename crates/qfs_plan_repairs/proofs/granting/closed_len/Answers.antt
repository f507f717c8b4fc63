-- What the check leaves to show of `granting::closed_len`.
use Rattle.std.proofs.Common.{◌∙◌, sym, ap}
use Rattle.std.specs.Option.{option_map}
use Rattle.qfs_model_meta.specs.TreeRows.{closed_file}
use Rattle.qfs_namespace.specs.Joined.{known_in}
use Rattle.qfs_plan_repairs.proofs.Found.{len_some, len_none}
use Rattle.qfs_plan_repairs.proofs.granting.closed_len.Goals as goal

pub returns-in-Some : goal.returns-in-Some
returns-in-Some c =
    len_some (closed_file c.args.file c.args.state.now.image.tree) c.in-Some.known
    (ap (λ tree. option_map known_in (closed_file c.args.file tree)) (sym c.names.ensures.tree)
    ∙ sym c.closed_file.ensures ∙ c.in-Some.is)

pub returns-in-None : goal.returns-in-None
returns-in-None c =
    len_none (closed_file c.args.file c.args.state.now.image.tree)
    (ap (λ tree. option_map known_in (closed_file c.args.file tree)) (sym c.names.ensures.tree)
    ∙ sym c.closed_file.ensures ∙ c.in-None.is)
