-- What the check leaves to show of `ending::is_live`.
use Rattle.std.proofs.Common.{◌∙◌, is_some, ap}
use Rattle.qfs_plan_slots.proofs.Found.{some_holder}
use Rattle.qfs_plan_slots.proofs.ending.is_live.Goals as goal

pub returns : goal.returns
returns c =
    c.is_some.ensures ∙ ap is_some c.look.ensures
    ∙ some_holder c.args.lease c.args.leases.now.leases
