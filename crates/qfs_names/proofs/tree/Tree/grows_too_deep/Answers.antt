-- What the check leaves to show of `tree::Tree::grows_too_deep`.
use Rattle.std.proofs.Common.{ap, sym, ◌∙◌}
use Rattle.std.specs.List.{list_any}
use Rattle.qfs_names.specs.Names.{is_deep}
use Rattle.qfs_names.proofs.MoveLaws.{too_deep_within}
use Rattle.qfs_names.proofs.tree.Tree.grows_too_deep.Goals as goal

pub returns : goal.returns
returns c =
    c.any_too_deep.ensures
    ∙ ap (list_any (is_deep c.args.from.now c.args.to.now)) c.rows_within.ensures
    ∙ sym (too_deep_within c.args.from.now c.args.to.now c.args.self.now.rows)
