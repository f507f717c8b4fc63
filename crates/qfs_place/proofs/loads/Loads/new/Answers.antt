use Rattle.std.proofs.Common.{◌++◌, [], ◌∷◌, ◌+◌, drop, ap, ◌∙◌}
use Rattle.qfs_place.proofs.BuiltLaws.{empty_from, empty_all, empty_next}
use Rattle.qfs_place.proofs.loads.Loads.new.Goals as goal

pub loop-server-init : goal.loop-server-init
loop-server-init c =
    ap (λ done. done ++ empty_from 1 c.args.servers.now) c.in_ok-census.ensures
    ∙ empty_all c.args.servers.now

pub loop-server-preserved : goal.loop-server-preserved
loop-server-preserved c =
    let at = c.loop-server.server-index in
    let rest = empty_from (at + 1 + 1) (drop (at + 1) c.args.servers.now) in
    ap (λ done. done ++ rest)
    (c.in_ok-push.ensures.ok ∙ ap (λ load. c.loop-server.census ++ load ∷ []) c.empty.ensures)
    ∙ empty_next c.args.servers.now c.loop-server.census at _ c.loop-server-test.true
    ∙ c.loop-server.invariant
