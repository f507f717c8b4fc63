-- A closed gate stays closed while what stands behind it is cut.
use Rattle.std.proofs.Common.{◌≡◌, take, ◌∙◌, ◌+◌, sym, subst}
use Rattle.qfs_disk.specs.Disk.{CutShort}
use Rattle.qfs_disk.specs.Steps.{joined}
use Rattle.qfs_log.specs.Gates.{Guarded, GateIs, GateWas}
use Rattle.qfs_log.proofs.Gates.{cut_at_rest, cut_guarded, was_guarded}
use Rattle.qfs_log.proofs.Results.{on_ok2}
use Rattle.qfs_log.proofs.gate.clear_gate.Goals as goal

pub returns-clause-rest : goal.returns-clause-rest
returns-clause-rest g c = on_ok2 c.cut_durably.result c.cut_durably.ensures.bytes c.cut_durably.ensures.durable (λ bytes only front test long told has.
    let d = g.L.LogDisk in
    let tells = c.close_gate.ensures.tells ∙ told in
    let closed : Guarded front (d.content c.close_gate.new.disk) = subst (λ b. GateIs b front test (d.content c.close_gate.new.disk)) c.in_ok-close_gate.ensures.settled
    (c.close_gate.ensures.gate front test long told has (d.content c.close_gate.new.disk) ((g.met.L.LogDisk g.world.𝓛 g.world.𝓜 g.world.𝓡 ((λ s x. x), (λ x. x), (λ x. x), λ x. x)).reads_an_image c.close_gate.new.disk tells)) in
    cut_at_rest front (d.leaves c.cut_durably.new.disk) (d.content c.close_gate.new.disk) (d.content c.cut_durably.new.disk) closed (subst (λ k. d.content c.cut_durably.new.disk ≡ take (k + 1) (d.content c.close_gate.new.disk)) (sym long) (bytes tells)) (only tells))

pub returns-clause-gate : goal.returns-clause-gate
returns-clause-gate g c = λ front test long told has e left.
    let d = g.L.LogDisk in
    let moves = c.cut_durably.ensures.crash (c.close_gate.ensures.tells ∙ told) in
    let from = moves.during e (moves.now e left) in
    let closed : Guarded front from.0 = subst (λ b. GateIs b front test from.0) c.in_ok-close_gate.ensures.settled (c.close_gate.ensures.gate front test long told has from.0 from.1) in
    subst (λ b. GateIs b front test e) (sym c.in_ok-close_gate.ensures.settled) (cut_guarded front c.args.gate long from.0 e closed from.2)

pub returns-clause-crash : goal.returns-clause-crash
returns-clause-crash g c = λ front test long told has.
    let d = g.L.LogDisk in
    joined d.clock d.leaves d.left_since c.args.disk.now c.close_gate.new.disk c.cut_durably.new.disk (λ e f. GateWas c.args.settled.now front test f) (CutShort (c.args.gate + 1)) (λ e f. GateWas c.args.settled.now front test f)
    (λ e f was by. by)
    (λ e f i was then by cut. was_guarded front c.args.settled.now test i (cut_guarded front c.args.gate long f i
    (subst (λ b. GateIs b front test f) c.in_ok-close_gate.ensures.settled (c.close_gate.ensures.gate front test long told has f then)) cut))
    (c.close_gate.ensures.crash front test long told has) (c.cut_durably.ensures.crash (c.close_gate.ensures.tells ∙ told))
