use Rattle.std.proofs.Common.{◌∙◌, sym, ap}
use Rattle.qfs_move.specs.Sources.{with_listed}
use Rattle.qfs_move.specs.declared.grant.Listed.{Listed}
use Rattle.qfs_move.proofs.Sources.{listed-next}
use Rattle.qfs_move.proofs.grant.listed_in.Goals as goal

pub loop-slot-preserved : goal.loop-slot-preserved
loop-slot-preserved c =
    c.with_listed-seen.ensures
    ∙ ap (λ (seen : Listed). with_listed seen c.loop-slot.slot c.listed_at.result) c.loop-slot.invariant
    ∙ sym (listed-next c.args.nine.now c.loop-slot.slot c.listed_at.result c.listed_at.ensures)
