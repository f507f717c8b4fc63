-- What is written behind a closed gate counts once the gate is open.
use Rattle.std.proofs.Common.{◌⊎◌, inl, inr, ◌∙◌, ◌+◌, sym, subst, List, ℕ, length}
use Rattle.qfs_disk.specs.Disk.{Torn}
use Rattle.qfs_disk.specs.Steps.{becomes, joined}
use Rattle.qfs_log.specs.Gates.{Guarded, Staged, GateIs, equals}
use Rattle.qfs_log.proofs.Gates.{rest_images, behind_guarded, tail_staged, tail_guarded, staged_on, gate_failed, gate_opened}
use Rattle.qfs_log.proofs.Results.{on_ok2, on_err, any_err}
use Rattle.qfs_log.proofs.gate.write_behind_gate.Goals as goal

pub returns-in_err-write_durably-clause-gate : goal.returns-in_err-write_durably-clause-gate
returns-in_err-write_durably-clause-gate g c = any_err c.from_residual.result (λ front long told rest e left.
    let d = g.L.LogDisk in
    let moves = c.write_durably.ensures.crash told in
    let from = moves.during e (moves.now e left) in
    subst (λ b. GateIs b front (equals c.args.tail.now) e) (sym c.requires.settled)
    (behind_guarded front c.args.gate long (length c.args.tail.now) from.0 e (rest_images front c.args.gate long (d.leaves c.args.disk.now) (d.content c.args.disk.now) rest from.0 from.1) from.2))

pub returns-in_err-write_durably-clause-crash : goal.returns-in_err-write_durably-clause-crash
returns-in_err-write_durably-clause-crash g c = λ front long told rest.
    let d = g.L.LogDisk in
    becomes d.clock d.leaves d.left_since c.args.disk.now c.write_durably.new.disk (Torn (c.args.gate + 1) (length c.args.tail.now)) (λ e f. Guarded front f ⊎ Staged front (equals c.args.tail.now) f)
    (λ e f left torn. inl (behind_guarded front c.args.gate long (length c.args.tail.now) e f (rest_images front c.args.gate long (d.leaves c.args.disk.now) (d.content c.args.disk.now) rest e left) torn))
    (c.write_durably.ensures.crash told)

pub returns-clause-gate : goal.returns-clause-gate
returns-clause-gate g c = on_err c.set_gate.result c.set_gate.ensures.untouched (λ kept front long told rest.
    let d = g.L.LogDisk in
    let tells = c.write_durably.ensures.tells ∙ told in
    let wrote = c.in_ok-write_durably.ensures.bytes told in
    let moves = c.set_gate.ensures.crash tells in
    gate_failed front c.args.gate long (d.leaves c.write_durably.new.disk) (d.leaves c.set_gate.new.disk) (d.content c.write_durably.new.disk) c.args.tail.now c.set_gate.new.settled
    (tail_staged front c.args.gate long (d.leaves c.args.disk.now) (d.content c.args.disk.now) (d.content c.write_durably.new.disk) c.args.tail.now rest wrote)
    (tail_guarded front c.args.gate long (d.leaves c.args.disk.now) (d.content c.args.disk.now) (d.content c.write_durably.new.disk) c.args.tail.now rest wrote)
    (c.in_ok-write_durably.ensures.durable told)
    (λ e left. moves.during e (moves.now e left))
    (λ is e left. let still = (kept is).1 tells in let from = still.during e (still.now e left) in subst (λ f. d.leaves c.write_durably.new.disk f) (sym from.2) from.1))

pub returns-clause-crash : goal.returns-clause-crash
returns-clause-crash g c = λ front long told rest.
    let d = g.L.LogDisk in
    let tells = c.write_durably.ensures.tells ∙ told in
    let tail = c.args.tail.now in
    joined d.clock d.leaves d.left_since c.args.disk.now c.write_durably.new.disk c.set_gate.new.disk (Torn (c.args.gate + 1) (length tail)) (Torn c.args.gate 1) (λ e f. Guarded front f ⊎ Staged front (equals tail) f)
    (λ e f left torn. inl (behind_guarded front c.args.gate long (length tail) e f (rest_images front c.args.gate long (d.leaves c.args.disk.now) (d.content c.args.disk.now) rest e left) torn))
    (λ e f i was then by torn. inr (staged_on front c.args.gate long (equals tail) f i
    (subst (λ (l : List ℕ). Staged front (equals tail) l) (sym (c.in_ok-write_durably.ensures.durable told f then)) (tail_staged front c.args.gate long (d.leaves c.args.disk.now) (d.content c.args.disk.now) (d.content c.write_durably.new.disk) tail rest (c.in_ok-write_durably.ensures.bytes told))) torn))
    (c.write_durably.ensures.crash told) (c.set_gate.ensures.crash tells)

pub returns-clause-open : goal.returns-clause-open
returns-clause-open g c = on_ok2 c.set_gate.result c.set_gate.ensures.content c.set_gate.ensures.durable (λ opened only front long told rest.
    let d = g.L.LogDisk in
    let tells = c.write_durably.ensures.tells ∙ told in
    gate_opened front c.args.gate long (d.leaves c.args.disk.now) (d.leaves c.set_gate.new.disk) (d.content c.args.disk.now) (d.content c.write_durably.new.disk) (d.content c.set_gate.new.disk) c.args.tail.now rest (c.in_ok-write_durably.ensures.bytes told) (opened tells) (only tells))
