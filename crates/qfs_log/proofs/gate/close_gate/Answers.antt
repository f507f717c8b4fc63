-- A gate that is written closed is closed, or what stands behind it still passes its test.
use Rattle.std.proofs.Common.{inr, ◌∙◌, sym, subst, true≢false}
use Rattle.qfs_disk.specs.Disk.{Torn}
use Rattle.qfs_disk.specs.Steps.{becomes}
use Rattle.qfs_log.specs.Gates.{GateIs, GateWas}
use Rattle.qfs_log.proofs.Gates.{gate_closed, staged_on}
use Rattle.qfs_log.proofs.Results.{on_ok, on_err}
use Rattle.qfs_log.proofs.gate.close_gate.Goals as goal

pub returns-clause-gate : goal.returns-clause-gate
returns-clause-gate g c = λ front test long told has.
    let d = g.L.LogDisk in
    let moves = c.set_gate.ensures.crash told in
    gate_closed front c.args.gate long (d.leaves c.args.disk.now) (d.leaves c.set_gate.new.disk) (d.content c.args.disk.now) (d.content c.set_gate.new.disk) test c.set_gate.new.settled c.set_gate.result
    (λ e left. subst (λ b. GateIs b front test e) c.if-settled.false (has e left)) ((g.met.L.LogDisk g.world.𝓛 g.world.𝓜 g.world.𝓡 ((λ s x. x), (λ x. x), (λ x. x), λ x. x)).reads_an_image c.args.disk.now told)
    (λ e left. moves.during e (moves.now e left)) (on_ok c.set_gate.result c.set_gate.ensures.content (λ h. h told)) (on_ok c.set_gate.result c.set_gate.ensures.durable (λ h. h told)) (on_err c.set_gate.result c.set_gate.ensures.untouched (λ kept is. true≢false (sym (kept is).0 ∙ c.if-settled.false)))

pub returns-clause-crash : goal.returns-clause-crash
returns-clause-crash g c = λ front test long told has.
    let d = g.L.LogDisk in
    becomes d.clock d.leaves d.left_since c.args.disk.now c.set_gate.new.disk (Torn c.args.gate 1) (λ e f. GateWas c.args.settled.now front test f)
    (λ e f left torn. subst (λ b. GateWas b front test f) (sym c.if-settled.false) (inr (staged_on front c.args.gate long test e f (subst (λ b. GateIs b front test e) c.if-settled.false (has e left)) torn)))
    (c.set_gate.ensures.crash told)
