use Rattle.std.proofs.Common.{◌≡◌, ◌+◌, drop, count_by, ap, ◌∙◌, arith}
use Rattle.std.specs.Option.{option_to_list}
use Rattle.std.proofs.Math.ListN.{drop_of_length-le}
use Rattle.qfs_model_meta.specs.Slots.{is_on, count_on, granted_copy}
use Rattle.qfs_meta.proofs.LoadLaws.{count_on-none, count_on-next, copies_of_row}
use Rattle.qfs_meta.proofs.ListedLaws.{drop-read}
use Rattle.qfs_meta.proofs.loads.count_on.Goals as goal

pub loop-row-preserved : goal.loop-row-preserved
loop-row-preserved c =
    let rest = drop (c.loop-row.row-index + 1) c.args.slots.now in
    let next : count_on c.args.server c.args.life (drop c.loop-row.row-index c.args.slots.now) ≡ copies_of_row c.args.server c.args.life c.row-item.result + count_on c.args.server c.args.life rest =
    ap (count_on c.args.server c.args.life) (drop-read c.args.slots.now c.loop-row.row-index c.row-item.result c.loop-row-test.true c.row-item.is)
    ∙ count_on-next c.args.server c.args.life c.row-item.result rest in
    let granted : c.copies_on-in-loop-row.result ≡ count_by (is_on c.args.server c.args.life) (option_to_list (granted_copy c.row-item.result.state.grant)) =
    c.copies_on-in-loop-row.ensures.count ∙ ap (λ copy. count_by (is_on c.args.server c.args.life) (option_to_list copy)) c.granted_copy.ensures in
    (omega (arith, c.loop-row.invariant.0), omega (arith, c.loop-row.invariant.1))

pub returns : goal.returns
returns c =
    let none : count_on c.args.server c.args.life (drop c.loop-row.row-index c.args.slots.now) ≡ 0 =
    ap (count_on c.args.server c.args.life) (drop_of_length-le c.args.slots.now c.loop-row-test.false)
    ∙ count_on-none c.args.server c.args.life in
    omega (arith, c.loop-row.invariant.0)
