-- The other disk has the checkpoint behind a closed gate, and then behind an open one.
use Rattle.std.proofs.Common.{◌⊎◌, inl, inr, ◌∙◌, refl, subst, ℕ, List, [], Some, false, true≢false}
use Rattle.qfs_disk.specs.Steps.{becomes, joined}
use Rattle.qfs_log.specs.Gates.{GateWas, Guarded, Staged, equals, HasGate}
use Rattle.qfs_log.specs.Log.{OtherWas, other_test}
use Rattle.qfs_log.proofs.Results.{on_ok, on_err, any_err}
use Rattle.qfs_log.proofs.log.Log.write_other.Goals as goal

pub returns-in_err-clear_gate-clause-crash : goal.returns-in_err-clear_gate-clause-crash
returns-in_err-clear_gate-clause-crash g c = λ room content rival stands.
    let d = g.L.LogDisk in
    let log = c.args.self.now in
    becomes d.clock d.leaves d.left_since log.other c.clear_gate.new.disk (λ e o. OtherWas log rival o)
    (λ e o. OtherWas log rival o ⊎ GateWas false [] (other_test log.right log.epoch (Some c.args.image.now)) o) (λ e o left was. inl was)
    (c.clear_gate.ensures.crash [] (other_test log.right log.epoch rival) refl stands.other_tells stands.other.images)

pub returns-in_err-clear_gate-clause-err : goal.returns-in_err-clear_gate-clause-err
returns-in_err-clear_gate-clause-err g c = any_err c.from_residual.result (λ room content rival stands.
    let log = c.args.self.now in
    inl (record {
      current_tells = stands.current_tells;
      other_tells = c.clear_gate.ensures.tells ∙ stands.other_tells;
      current = stands.current;
      other = record {
        images = c.clear_gate.ensures.gate [] (other_test log.right log.epoch rival) refl stands.other_tells stands.other.images;
        due = λ is. absurd (true≢false is);
        image = stands.other.image;
        room = stands.other.room;
      };
    }))

pub returns-clause-ok : goal.returns-clause-ok
returns-clause-ok g c = on_ok c.write_behind_gate.result c.write_behind_gate.ensures.open (λ opened content rival stands.
    let log = c.args.self.now in
    let tells = c.clear_gate.ensures.tells ∙ stands.other_tells in
    let rest = c.in_ok-clear_gate.ensures.rest [] (other_test log.right log.epoch rival) refl stands.other_tells stands.other.images in
    (c.write_behind_gate.ensures.tells ∙ tells, opened [] refl tells rest))

pub returns-clause-err : goal.returns-clause-err
returns-clause-err g c = on_err c.write_behind_gate.result c.write_behind_gate.ensures.gate (λ gate room content rival stands.
    let d = g.L.LogDisk in
    let log = c.args.self.now in
    let tells = c.clear_gate.ensures.tells ∙ stands.other_tells in
    let rest = c.in_ok-clear_gate.ensures.rest [] (other_test log.right log.epoch rival) refl stands.other_tells stands.other.images in
    inr (record {
      current_tells = stands.current_tells;
      other_tells = c.write_behind_gate.ensures.tells ∙ tells;
      current = stands.current;
      other = record {
        images = subst (λ (l : List ℕ). HasGate (d.leaves c.write_behind_gate.new.disk) c.write_behind_gate.new.settled [] (equals l)) (c.requires.tail room) (gate [] refl tells rest);
        due = λ is. absurd (true≢false is);
        image = c.requires.fits;
        room = room;
      };
    }))

pub returns-clause-crash : goal.returns-clause-crash
returns-clause-crash g c = λ room content rival stands.
    let d = g.L.LogDisk in
    let log = c.args.self.now in
    let test = other_test log.right log.epoch rival in
    let tells = c.clear_gate.ensures.tells ∙ stands.other_tells in
    let rest = c.in_ok-clear_gate.ensures.rest [] test refl stands.other_tells stands.other.images in
    joined d.clock d.leaves d.left_since log.other c.clear_gate.new.disk c.write_behind_gate.new.disk (λ e o. OtherWas log rival o) (λ e o. Guarded [] o ⊎ Staged [] (equals c.args.tail.now) o)
    (λ e o. OtherWas log rival o ⊎ GateWas false [] (other_test log.right log.epoch (Some c.args.image.now)) o)
    (λ e o left was. inl was)
    (λ e f o left then was by. inr (subst (λ (l : List ℕ). Guarded [] o ⊎ Staged [] (equals l) o) (c.requires.tail room) by))
    (c.clear_gate.ensures.crash [] test refl stands.other_tells stands.other.images)
    (c.write_behind_gate.ensures.crash [] refl tells rest)
