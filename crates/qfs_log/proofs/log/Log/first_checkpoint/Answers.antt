-- Nothing, or the checkpoint.
use Rattle.std.proofs.Common.{◌≡◌, ◌⊎◌, inl, inr, ◌∙◌, refl, subst, ℕ, List, [], ◌∷◌, ◌++◌, length, Some, false, rules, arith}
use Rattle.qfs_disk.specs.Steps.{joined}
use Rattle.qfs_log.specs.Gates.{GateWas, HasGate, Guarded, Staged, equals}
use Rattle.qfs_log.specs.Found.{checkpoint_text}
use Rattle.qfs_log.specs.Log.{empty_test}
use Rattle.qfs_log.proofs.Logs.{switched_current}
use Rattle.qfs_log.proofs.Opening.{empty_pair, empty_now, empty_loses}
use Rattle.qfs_log.proofs.Results.{any_err}
use Rattle.qfs_log.proofs.log.Log.first_checkpoint.Goals as goal

pub returns-in_err-tail-clause-any_moment : goal.returns-in_err-tail-clause-any_moment
returns-in_err-tail-clause-any_moment g c = λ rival empty l r left_l left_r.
    let log = c.args.self.now in
    empty_pair log.settled rival c.args.image.now l r empty.image c.requires.fits (empty.other r ((g.met.L.LogDisk g.world.𝓛 g.world.𝓜 g.world.𝓡 ((λ s x. x), (λ x. x), (λ x. x), λ x. x)).only_now log.other r empty.other_tells left_r))
    (inl (empty_now log.settled (empty_test rival) l (empty.images l ((g.met.L.LogDisk g.world.𝓛 g.world.𝓜 g.world.𝓡 ((λ s x. x), (λ x. x), (λ x. x), λ x. x)).only_now log.current l empty.current_tells left_l))))

pub returns-in_err-clear_gate-clause-err : goal.returns-in_err-clear_gate-clause-err
returns-in_err-clear_gate-clause-err g c = any_err c.from_residual-in_err-clear_gate.result (λ rival empty. inl (record {
  current_tells = c.clear_gate.ensures.tells ∙ empty.current_tells;
  other_tells = empty.other_tells;
  images = c.clear_gate.ensures.gate [] (empty_test rival) refl empty.current_tells empty.images;
  other = empty.other;
  image = empty.image;
}))

pub returns-in_err-clear_gate-clause-any_moment : goal.returns-in_err-clear_gate-clause-any_moment
returns-in_err-clear_gate-clause-any_moment g c = λ rival empty l r left_l left_r.
    let log = c.args.self.now in
    empty_pair log.settled rival c.args.image.now l r empty.image c.requires.fits (empty.other r ((g.met.L.LogDisk g.world.𝓛 g.world.𝓜 g.world.𝓡 ((λ s x. x), (λ x. x), (λ x. x), λ x. x)).only_now log.other r empty.other_tells left_r))
    (inl ((c.clear_gate.ensures.crash [] (empty_test rival) refl empty.current_tells empty.images).during l left_l).2)

pub returns-in_err-write_behind_gate-clause-err : goal.returns-in_err-write_behind_gate-clause-err
returns-in_err-write_behind_gate-clause-err g c = any_err c.from_residual-in_err-write_behind_gate.result (λ rival empty.
    let d = g.L.LogDisk in
    let tells = c.clear_gate.ensures.tells ∙ empty.current_tells in
    let rest = c.in_ok-clear_gate.ensures.rest [] (empty_test rival) refl empty.current_tells empty.images in
    let tail_is : c.deref.result.now ≡ checkpoint_text 1 c.args.image.now ++ 0 ∷ [] = c.deref.ensures.value ∙ c.in_ok-tail.ensures in
    inr (record {
      current_tells = c.write_behind_gate.ensures.tells ∙ tells;
      other_tells = empty.other_tells;
      images = subst (λ (t : List ℕ). HasGate (d.leaves c.write_behind_gate.new.disk) c.write_behind_gate.new.settled [] (equals t)) tail_is (c.in_err-write_behind_gate.ensures.gate [] refl tells rest);
      other = empty.other;
      image = c.requires.fits;
    }))

pub returns-in_err-write_behind_gate-clause-any_moment : goal.returns-in_err-write_behind_gate-clause-any_moment
returns-in_err-write_behind_gate-clause-any_moment g c = λ rival empty l r left_l left_r.
    let d = g.L.LogDisk in
    let log = c.args.self.now in
    let test = empty_test rival in
    let tells = c.clear_gate.ensures.tells ∙ empty.current_tells in
    let rest = c.in_ok-clear_gate.ensures.rest [] test refl empty.current_tells empty.images in
    let tail_is : c.deref.result.now ≡ checkpoint_text 1 c.args.image.now ++ 0 ∷ [] = c.deref.ensures.value ∙ c.in_ok-tail.ensures in
    let moves = joined d.clock d.leaves d.left_since log.current c.clear_gate.new.disk c.write_behind_gate.new.disk (λ e f. GateWas log.settled [] test f) (λ e f. Guarded [] f ⊎ Staged [] (equals c.deref.result.now) f)
    (λ e f. GateWas log.settled [] test f ⊎ GateWas false [] (empty_test (Some c.args.image.now)) f)
    (λ e f left was. inl was)
    (λ e f i left then was by. inr (subst (λ (t : List ℕ). Guarded [] i ⊎ Staged [] (equals t) i) tail_is by))
    (c.clear_gate.ensures.crash [] test refl empty.current_tells empty.images) (c.write_behind_gate.ensures.crash [] refl tells rest) in
    empty_pair log.settled rival c.args.image.now l r empty.image c.requires.fits (empty.other r ((g.met.L.LogDisk g.world.𝓛 g.world.𝓜 g.world.𝓡 ((λ s x. x), (λ x. x), (λ x. x), λ x. x)).only_now log.other r empty.other_tells left_r)) (moves.during l left_l).2

pub returns-clause-any_moment : goal.returns-clause-any_moment
returns-clause-any_moment g c = λ rival empty l r left_l left_r.
    let d = g.L.LogDisk in
    let log = c.args.self.now in
    let test = empty_test rival in
    let tells = c.clear_gate.ensures.tells ∙ empty.current_tells in
    let rest = c.in_ok-clear_gate.ensures.rest [] test refl empty.current_tells empty.images in
    let tail_is : c.deref.result.now ≡ checkpoint_text 1 c.args.image.now ++ 0 ∷ [] = c.deref.ensures.value ∙ c.in_ok-tail.ensures in
    let moves = joined d.clock d.leaves d.left_since log.current c.clear_gate.new.disk c.write_behind_gate.new.disk (λ e f. GateWas log.settled [] test f) (λ e f. Guarded [] f ⊎ Staged [] (equals c.deref.result.now) f)
    (λ e f. GateWas log.settled [] test f ⊎ GateWas false [] (empty_test (Some c.args.image.now)) f)
    (λ e f left was. inl was)
    (λ e f i left then was by. inr (subst (λ (t : List ℕ). Guarded [] i ⊎ Staged [] (equals t) i) tail_is by))
    (c.clear_gate.ensures.crash [] test refl empty.current_tells empty.images) (c.write_behind_gate.ensures.crash [] refl tells rest) in
    empty_pair log.settled rival c.args.image.now l r empty.image c.requires.fits (empty.other r ((g.met.L.LogDisk g.world.𝓛 g.world.𝓜 g.world.𝓡 ((λ s x. x), (λ x. x), (λ x. x), λ x. x)).only_now log.other r empty.other_tells left_r)) (moves.during l left_l).2

pub returns-clause-ok : goal.returns-clause-ok
returns-clause-ok g c = λ rival empty.
    let d = g.L.LogDisk in
    let log = c.args.self.now in
    let tells = c.clear_gate.ensures.tells ∙ empty.current_tells in
    let rest = c.in_ok-clear_gate.ensures.rest [] (empty_test rival) refl empty.current_tells empty.images in
    let tail_is : c.deref.result.now ≡ checkpoint_text 1 c.args.image.now ++ 0 ∷ [] = c.deref.ensures.value ∙ c.in_ok-tail.ensures in
    let place : c.len.result ≡ length c.deref.result.now = search rules in
    record {
      current_tells = c.write_behind_gate.ensures.tells ∙ tells;
      other_tells = empty.other_tells;
      current = switched_current (d.leaves c.write_behind_gate.new.disk) (d.content c.write_behind_gate.new.disk) 1 c.len.result c.args.image.now c.deref.result.now false tail_is c.requires.fits (omega arith) place
          (c.in_ok-write_behind_gate.ensures.open [] refl tells rest);
      other = record {
        images = λ o left. record { same = refl; behind = empty_loses log.right 1 o (empty.other o left) };
        due = λ _. refl;
        image = tt;
        room = tt;
      };
    }
