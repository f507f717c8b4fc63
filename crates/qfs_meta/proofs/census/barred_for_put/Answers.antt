use Rattle.std.proofs.Common.{◌+◌, drop, ap, sym, subst, ◌∙◌}
use Rattle.std.proofs.Math.ListN.{drop_of_length-le}
use Rattle.std.proofs.lemmas.List.Elements.{All-filter}
use Rattle.std.specs.List.{All}
use Rattle.qfs_model_meta.specs.Placing.{with_live_servers}
use Rattle.qfs_model_meta.specs.Slots.{is_of_block}
use Rattle.qfs_meta.specs.Kept.{IsGrantedOnServer}
use Rattle.qfs_meta.proofs.CensusLaws.{grants_of, barred-next, barred-none}
use Rattle.qfs_meta.proofs.ListedLaws.{drop-read}
use Rattle.qfs_meta.proofs.census.barred_for_put.Goals as goal

pub loop-row-init : goal.loop-row-init
loop-row-init c = ap (λ rows. with_live_servers c.args.servers.now c.args.failed (grants_of c.args.id.slot rows)) c.slots_of_block-rows.ensures

pub loop-row-preserved : goal.loop-row-preserved
loop-row-preserved c =
    let rows = c.slots_of_block-rows.result.now in
    let slot = c.args.id.slot in
    let rest = drop (c.loop-row.row-index + 1) rows in
    sym (
    ap (λ some. with_live_servers c.args.servers.now c.loop-row.barred (grants_of slot some)) (drop-read rows c.loop-row.row-index c.row-item.result c.loop-row-test.true c.row-item.is)
    ∙ barred-next c.args.servers.now c.loop-row.barred slot c.row-item.result rest
    ∙ ap (λ set. with_live_servers c.args.servers.now set (grants_of slot rest)) (sym c.barred_with-barred.ensures))
    ∙ c.loop-row.invariant

pub returns : goal.returns
returns c =
    sym (
    ap (λ some. with_live_servers c.args.servers.now c.loop-row.barred (grants_of c.args.id.slot some)) (drop_of_length-le c.slots_of_block-rows.result.now c.loop-row-test.false)
    ∙ barred-none c.args.servers.now c.loop-row.barred c.args.id.slot)
    ∙ c.loop-row.invariant

pub barred_with-barred-requires : goal.barred_with-barred-requires
barred_with-barred-requires c =
    let all = subst (All IsGrantedOnServer) (sym c.slots_of_block-rows.ensures) (All-filter (is_of_block c.args.id.block) IsGrantedOnServer c.args.slots.now c.requires.grants) in
    subst IsGrantedOnServer (sym c.row-item.is) (all c.loop-row.row-index c.row-item.result c.loop-row-test.true)
