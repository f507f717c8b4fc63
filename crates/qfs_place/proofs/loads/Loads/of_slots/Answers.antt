use Rattle.std.proofs.Common.{ap, ◌∙◌}
use Rattle.qfs_model_meta.specs.Slots.{granted_copy}
use Rattle.qfs_place.specs.Loads.{count_live}
use Rattle.qfs_place.proofs.BuiltLaws.{row_next}
use Rattle.qfs_place.proofs.loads.Loads.of_slots.Goals as goal

pub loop-row-preserved : goal.loop-row-preserved
loop-row-preserved c =
    let servers = c.args.servers.now in
    let row = c.row-item.result in
    c.in_ok-count_live-2.ensures.ok
    ∙ ap (λ copy. count_live servers copy c.count_live.new.self) c.granted_copy.ensures
    ∙ ap (count_live servers (granted_copy row.state.grant))
    (c.in_ok-count_live.ensures.ok ∙ ap (count_live servers row.state.current) c.loop-row.invariant)
    ∙ row_next servers c.args.slots.now c.loop-row.row-index row c.loop-row-test.true c.row-item.is
