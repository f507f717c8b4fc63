-- The disks one after the other, and their images in pairs.
use Rattle.std.proofs.Common.{◌≡◌, ◌⊎◌, inl, inr, ◌∙◌, sym, subst, ap, ℕ, List, Some, None, false, rules, cond, refl}
use Rattle.qfs_disk.specs.Steps.{joined}
use Rattle.qfs_log.specs.Gates.{GateWas}
use Rattle.qfs_log.specs.Found.{with_body, front_text, found_by, loaded, FitsRecord}
use Rattle.qfs_log.specs.Log.{Stands, CurrentWas, MayBe, tail_test}
use Rattle.qfs_log.proofs.Logs.{current_now, other_now, was_same, pair_before, pair_after, by_sides}
use Rattle.qfs_log.proofs.Results.{on_ok, on_err, any_err}
use Rattle.qfs_log.proofs.log.Log.append.Goals as goal

pub returns-in_err-tail-clause-any_moment : goal.returns-in_err-tail-clause-any_moment
returns-in_err-tail-clause-any_moment g c = λ content rival stands l r left_l left_r.
    let d = g.L.LogDisk in
    let log = c.args.self.now in
    let after = log in
    by_sides d.tells d.clock d.leaves d.left_since d.content log.right after.current after.other log.current log.other
    (λ found. MayBe content log.unsettled rival found ⊎ (found ≡ loaded (with_body content c.args.body.now))) (λ one two left_c left_o.
    let d = g.L.LogDisk in
    let log = c.args.self.now in
    let only = (g.met.L.LogDisk g.world.𝓛 g.world.𝓜 g.world.𝓡 ((λ s x. x), (λ x. x), (λ x. x), λ x. x)).only_now in
    inl (pair_before d.tells d.clock d.leaves d.left_since d.content log content rival one two stands
    (current_now d.tells d.clock d.leaves d.left_since d.content log content rival stands one (only log.current one stands.current_tells left_c))
    (other_now d.tells d.clock d.leaves d.left_since d.content log content rival stands two (only log.other two stands.other_tells left_o)))
    ) l r
    (subst (λ b. d.left_since (cond b after.other after.current) (d.clock (cond log.right log.other log.current)) l) refl left_l)
    (subst (λ b. d.left_since (cond b after.current after.other) (d.clock (cond log.right log.current log.other)) r) refl left_r)

pub returns-in_err-kept-clause-any_moment : goal.returns-in_err-kept-clause-any_moment
returns-in_err-kept-clause-any_moment g c = λ content rival stands l r left_l left_r.
    let d = g.L.LogDisk in
    let log = c.args.self.now in
    let after = log in
    by_sides d.tells d.clock d.leaves d.left_since d.content log.right after.current after.other log.current log.other
    (λ found. MayBe content log.unsettled rival found ⊎ (found ≡ loaded (with_body content c.args.body.now))) (λ one two left_c left_o.
    let d = g.L.LogDisk in
    let log = c.args.self.now in
    let only = (g.met.L.LogDisk g.world.𝓛 g.world.𝓜 g.world.𝓡 ((λ s x. x), (λ x. x), (λ x. x), λ x. x)).only_now in
    inl (pair_before d.tells d.clock d.leaves d.left_since d.content log content rival one two stands
    (current_now d.tells d.clock d.leaves d.left_since d.content log content rival stands one (only log.current one stands.current_tells left_c))
    (other_now d.tells d.clock d.leaves d.left_since d.content log content rival stands two (only log.other two stands.other_tells left_o)))
    ) l r
    (subst (λ b. d.left_since (cond b after.other after.current) (d.clock (cond log.right log.other log.current)) l) refl left_l)
    (subst (λ b. d.left_since (cond b after.current after.other) (d.clock (cond log.right log.current log.other)) r) refl left_r)

pub returns-in_err-settle_other-clause-err : goal.returns-in_err-settle_other-clause-err
returns-in_err-settle_other-clause-err g c = any_err c.from_residual-in_err-settle_other.result (λ content rival stands. inl (c.in_err-settle_other.ensures.err content rival stands))

pub returns-in_err-settle_other-clause-any_moment : goal.returns-in_err-settle_other-clause-any_moment
returns-in_err-settle_other-clause-any_moment g c = λ content rival stands l r left_l left_r.
    let d = g.L.LogDisk in
    let log = c.args.self.now in
    let after = c.settle_other.new.self in
    by_sides d.tells d.clock d.leaves d.left_since d.content log.right after.current after.other log.current log.other
    (λ found. MayBe content log.unsettled rival found ⊎ (found ≡ loaded (with_body content c.args.body.now))) (λ one two left_c left_o.
    let d = g.L.LogDisk in
    let log = c.args.self.now in
    let was_c = subst (λ e. d.left_since e (d.clock log.current) one) c.settle_other.ensures.same.0 left_c in
    inl (pair_before d.tells d.clock d.leaves d.left_since d.content log content rival one two stands
    (current_now d.tells d.clock d.leaves d.left_since d.content log content rival stands one ((g.met.L.LogDisk g.world.𝓛 g.world.𝓜 g.world.𝓡 ((λ s x. x), (λ x. x), (λ x. x), λ x. x)).only_now log.current one stands.current_tells was_c))
    ((c.settle_other.ensures.crash content rival stands).during two left_o).2)
    ) l r
    (subst (λ b. d.left_since (cond b after.other after.current) (d.clock (cond log.right log.other log.current)) l) c.settle_other.ensures.same.2 left_l)
    (subst (λ b. d.left_since (cond b after.current after.other) (d.clock (cond log.right log.current log.other)) r) c.settle_other.ensures.same.2 left_r)

pub returns-in_err-repair-clause-err : goal.returns-in_err-repair-clause-err
returns-in_err-repair-clause-err g c = any_err c.from_residual-in_err-repair.result (λ content rival stands. inr (c.repair.ensures.stands content None (c.in_ok-settle_other.ensures.ok content rival stands)))

pub returns-in_err-repair-clause-any_moment : goal.returns-in_err-repair-clause-any_moment
returns-in_err-repair-clause-any_moment g c = λ content rival stands l r left_l left_r.
    let d = g.L.LogDisk in
    let log = c.args.self.now in
    let after = c.repair.new.self in
    by_sides d.tells d.clock d.leaves d.left_since d.content log.right after.current after.other log.current log.other
    (λ found. MayBe content log.unsettled rival found ⊎ (found ≡ loaded (with_body content c.args.body.now))) (λ one two left_c left_o.
    let d = g.L.LogDisk in
    let log = c.args.self.now in
    let mid = c.settle_other.new.self in
    let same = c.settle_other.ensures.same in
    let was_c = subst (λ t. d.left_since c.repair.new.self.current t one) (ap (λ e. d.clock e) (sym same.0)) left_c in
    let was_o = subst (λ e. d.left_since e (d.clock log.other) two) c.repair.ensures.same.0 left_o in
    inl (pair_before d.tells d.clock d.leaves d.left_since d.content log content rival one two stands
    (was_same d.tells d.clock d.leaves d.left_since d.content log mid content one same.3 same.1 same.4
    ((c.repair.ensures.crash content None (c.in_ok-settle_other.ensures.ok content rival stands)).during one was_c).2)
    ((c.settle_other.ensures.crash content rival stands).during two was_o).2)
    ) l r
    (subst (λ b. d.left_since (cond b after.other after.current) (d.clock (cond log.right log.other log.current)) l) (c.repair.ensures.same.2 ∙ c.settle_other.ensures.same.2) left_l)
    (subst (λ b. d.left_since (cond b after.current after.other) (d.clock (cond log.right log.current log.other)) r) (c.repair.ensures.same.2 ∙ c.settle_other.ensures.same.2) left_r)

pub returns-clause-ok : goal.returns-clause-ok
returns-clause-ok g c = on_ok c.append_at_rest.result c.append_at_rest.ensures.ok (λ done content rival stands.
    let d = g.L.LogDisk in
    let same : c.in_ok-kept.kept.items ≡ c.args.body.now = search rules in
    subst (λ (l : List ℕ). Stands d.tells d.leaves d.content c.append_at_rest.new.self (with_body content l) None) same
    (done content None (c.repair.ensures.stands content None (c.in_ok-settle_other.ensures.ok content rival stands))))

pub returns-clause-err : goal.returns-clause-err
returns-clause-err g c = on_err c.append_at_rest.result c.append_at_rest.ensures.err (λ done content rival stands.
    inr (done content None (c.repair.ensures.stands content None (c.in_ok-settle_other.ensures.ok content rival stands))))

pub returns-clause-any_moment : goal.returns-clause-any_moment
returns-clause-any_moment g c = λ content rival stands l r left_l left_r.
    let d = g.L.LogDisk in
    let log = c.args.self.now in
    let after = c.append_at_rest.new.self in
    by_sides d.tells d.clock d.leaves d.left_since d.content log.right after.current after.other log.current log.other
    (λ found. MayBe content log.unsettled rival found ⊎ (found ≡ loaded (with_body content c.args.body.now))) (λ one two left_c left_o.
    let d = g.L.LogDisk in
    let log = c.args.self.now in
    let mid = c.settle_other.new.self in
    let rest = c.repair.new.self in
    let new = c.append_at_rest.new.self in
    let kept = c.in_ok-kept.kept in
    let same = c.settle_other.ensures.same in
    let body_is : kept.items ≡ c.args.body.now = search rules in
    let fits = subst (λ (l : List ℕ). FitsRecord l) (sym body_is) c.requires.fits in
    let mid_stands = c.in_ok-settle_other.ensures.ok content rival stands in
    let rest_stands = c.repair.ensures.stands content None mid_stands in
    let both : List ℕ → List ℕ → Type 0 = λ e f. CurrentWas log content f ⊎ GateWas false (front_text log.epoch content) (tail_test (Some kept)) f in
    let moves = joined d.clock d.leaves d.left_since mid.current rest.current new.current (λ e f. CurrentWas mid content f) (λ e f. GateWas false (front_text rest.epoch content) (tail_test (Some kept)) f) both
    (λ e f was by. inl (was_same d.tells d.clock d.leaves d.left_since d.content log mid content f same.3 same.1 same.4 by))
    (λ e f i was then by by2. inr (subst (λ n. GateWas false (front_text n content) (tail_test (Some kept)) i) (c.repair.ensures.same.1 ∙ same.1) by2))
    (c.repair.ensures.crash content None mid_stands) (c.append_at_rest.ensures.crash content None rest_stands) in
    let was_c = subst (λ t. d.left_since new.current t one) (ap (λ e. d.clock e) (sym same.0)) left_c in
    let was_o = subst (λ e. d.left_since e (d.clock log.other) two) (c.append_at_rest.ensures.same.0 ∙ c.repair.ensures.same.0) left_o in
    subst (λ (l : List ℕ). MayBe content log.unsettled rival (found_by log.right one two) ⊎ (found_by log.right one two ≡ loaded (with_body content l))) body_is
    (pair_after d.tells d.clock d.leaves d.left_since d.content log content rival kept one two stands fits (moves.during one was_c).2
    ((c.settle_other.ensures.crash content rival stands).during two was_o).2)
    ) l r
    (subst (λ b. d.left_since (cond b after.other after.current) (d.clock (cond log.right log.other log.current)) l) (c.append_at_rest.ensures.same.2 ∙ c.repair.ensures.same.2 ∙ c.settle_other.ensures.same.2) left_l)
    (subst (λ b. d.left_since (cond b after.current after.other) (d.clock (cond log.right log.current log.other)) r) (c.append_at_rest.ensures.same.2 ∙ c.repair.ensures.same.2 ∙ c.settle_other.ensures.same.2) left_r)
