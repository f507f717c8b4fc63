-- The disks change places, and the old one loses.
use Rattle.std.proofs.Common.{◌≡◌, ◌⊎◌, inl, ◌∙◌, refl, sym, ap, subst, arith, ◌+◌, [], ◌∷◌, ◌++◌, length, IsTrue, None, true, false, cond, rules}
use Rattle.std.specs.Prelude.{not}
use Rattle.qfs_log.specs.Gates.{HasGate}
use Rattle.qfs_log.specs.Found.{loaded, new_content, checkpoint_text}
use Rattle.qfs_log.specs.Log.{MayBe, Current, other_test}
use Rattle.qfs_log.proofs.Logs.{current_now, other_now, pair_before, pair_image, by_sides, by_switched, switched_current, switched_other}
use Rattle.qfs_log.proofs.Results.{any_err}
use Rattle.qfs_log.proofs.log.Log.checkpoint.Goals as goal

pub returns-in_err-tail-clause-any_moment : goal.returns-in_err-tail-clause-any_moment
returns-in_err-tail-clause-any_moment g c = λ room content rival stands.
    let d = g.L.LogDisk in
    let log = c.args.self.now in
    by_sides d.tells d.clock d.leaves d.left_since d.content log.right log.current log.other log.current log.other
    (λ found. MayBe content log.unsettled rival found ⊎ (found ≡ loaded (new_content c.args.image.now))) (λ one two left_c left_o.
    inl (pair_before d.tells d.clock d.leaves d.left_since d.content log content rival one two stands
    (current_now d.tells d.clock d.leaves d.left_since d.content log content rival stands one ((g.met.L.LogDisk g.world.𝓛 g.world.𝓜 g.world.𝓡 ((λ s x. x), (λ x. x), (λ x. x), λ x. x)).only_now log.current one stands.current_tells left_c))
    (other_now d.tells d.clock d.leaves d.left_since d.content log content rival stands two ((g.met.L.LogDisk g.world.𝓛 g.world.𝓜 g.world.𝓡 ((λ s x. x), (λ x. x), (λ x. x), λ x. x)).only_now log.other two stands.other_tells left_o))))

pub returns-in_err-write_other-clause-any_moment : goal.returns-in_err-write_other-clause-any_moment
returns-in_err-write_other-clause-any_moment g c = λ room content rival stands l r left_l left_r.
    let d = g.L.LogDisk in
    let log = c.args.self.now in
    let new = c.write_other.new.self in
    let same = c.write_other.ensures.same in
    by_sides d.tells d.clock d.leaves d.left_since d.content log.right new.current new.other log.current log.other
    (λ found. MayBe content log.unsettled rival found ⊎ (found ≡ loaded (new_content c.args.image.now))) (λ one two left_c left_o.
    pair_image d.tells d.clock d.leaves d.left_since d.content log content rival c.args.image.now one two stands c.requires.fits room
    (current_now d.tells d.clock d.leaves d.left_since d.content log content rival stands one
    ((g.met.L.LogDisk g.world.𝓛 g.world.𝓜 g.world.𝓡 ((λ s x. x), (λ x. x), (λ x. x), λ x. x)).only_now log.current one stands.current_tells (subst (λ e. d.left_since e (d.clock log.current) one) same.0 left_c)))
    ((c.write_other.ensures.crash room content rival stands).during two left_o).2) l r
    (subst (λ b. d.left_since (cond b new.other new.current) (d.clock (cond log.right log.other log.current)) l) same.1 left_l)
    (subst (λ b. d.left_since (cond b new.current new.other) (d.clock (cond log.right log.current log.other)) r) same.1 left_r)

pub returns-in_err-write_other-clause-err : goal.returns-in_err-write_other-clause-err
returns-in_err-write_other-clause-err g c = any_err c.from_residual-in_err-write_other.result c.in_err-write_other.ensures.err

pub returns-clause-any_moment : goal.returns-clause-any_moment
returns-clause-any_moment g c = λ room content rival stands l r left_l left_r.
    let d = g.L.LogDisk in
    let log = c.args.self.now in
    let mid = c.write_other.new.self in
    let same = c.write_other.ensures.same in
    by_switched d.tells d.clock d.leaves d.left_since d.content log.right c.swap.new.y c.swap.new.x log.current log.other
    (λ found. MayBe content log.unsettled rival found ⊎ (found ≡ loaded (new_content c.args.image.now))) (λ one two left_c left_o.
    pair_image d.tells d.clock d.leaves d.left_since d.content log content rival c.args.image.now one two stands c.requires.fits room
    (current_now d.tells d.clock d.leaves d.left_since d.content log content rival stands one
    ((g.met.L.LogDisk g.world.𝓛 g.world.𝓜 g.world.𝓡 ((λ s x. x), (λ x. x), (λ x. x), λ x. x)).only_now log.current one stands.current_tells (subst (λ e. d.left_since e (d.clock log.current) one) (c.swap.ensures.y_after ∙ same.0) left_c)))
    ((c.write_other.ensures.crash room content rival stands).during two (subst (λ e. d.left_since e (d.clock log.other) two) c.swap.ensures.x_after left_o)).2) l r
    (subst (λ b. d.left_since (cond (not b) c.swap.new.y c.swap.new.x) (d.clock (cond log.right log.other log.current)) l) same.1 left_l)
    (subst (λ b. d.left_since (cond (not b) c.swap.new.x c.swap.new.y) (d.clock (cond log.right log.current log.other)) r) same.1 left_r)

pub returns-clause-ok : goal.returns-clause-ok
returns-clause-ok g c = λ room content rival stands.
    let d = g.L.LogDisk in
    let log = c.args.self.now in
    let mid = c.write_other.new.self in
    let same = c.write_other.ensures.same in
    let image = c.args.image.now in
    let tail = c.deref.result.now in
    let done = c.in_ok-write_other.ensures.ok content rival stands in
    let epoch_is : c.saturating_add-epoch.result ≡ log.epoch + 1 = omega (arith, c.saturating_add-epoch.ensures, room) in
    let tail_is : tail ≡ checkpoint_text (log.epoch + 1) image ++ 0 ∷ [] = c.deref.ensures.value ∙ c.in_ok-tail.ensures ∙ ap (λ n. checkpoint_text n image ++ 0 ∷ []) epoch_is in
    let place : c.len.result ≡ length tail = search rules in
    let front = switched_current (d.leaves mid.other) (d.content mid.other) (log.epoch + 1) c.len.result image tail false tail_is c.requires.fits room place done.1 in
    record {
      current_tells = subst (λ e. IsTrue (d.tells e)) (sym c.swap.ensures.x_after) done.0;
      other_tells = subst (λ e. IsTrue (d.tells e)) (sym (c.swap.ensures.y_after ∙ same.0)) stands.current_tells;
      current = subst (λ n. Current (d.leaves c.swap.new.x) (d.content c.swap.new.x) n c.len.result true false None (new_content image)) (sym epoch_is)
          (subst (λ e. Current (d.leaves e) (d.content e) (log.epoch + 1) c.len.result true false None (new_content image)) (sym c.swap.ensures.x_after) front);
      other = record {
        images = subst (λ n. HasGate (d.leaves c.swap.new.y) false [] (other_test (not mid.right) n None)) (sym epoch_is)
            (switched_other d.tells d.clock d.leaves d.left_since d.content log content rival (not mid.right) c.swap.new.y (c.swap.ensures.y_after ∙ same.0) stands);
        due = λ _. refl;
        image = tt;
        room = tt;
      };
    }
