-- A step of the actor whose turn it is.
use Rattle.std.proofs.Common.{◌≡◌, ◌-◌, ◌++◌, length, take, drop, arith}
use Rattle.std.proofs.lemmas.Option.{slice_get_within}
use Rattle.qfs_world.proofs.Step.{turn-place, turn-at, slice-back, length-with, works, tells, stays-same}
use Rattle.qfs_world.proofs.world.World.step.Goals as goal

pub overflow_sub-actor : goal.overflow_sub-actor
overflow_sub-actor g c =
    let turn = rw (← c.self.view_is) at c.requires.turn in
    let at = turn-place _ _ _ _ _ _ c.self.invariant.0 c.args.actor turn in omega (arith, at.1.number_is)

pub index_mut-requires : goal.index_mut-requires
index_mut-requires g c =
    let turn = rw (← c.self.view_is) at c.requires.turn in
    let at = turn-place _ _ _ _ _ _ c.self.invariant.0 c.args.actor turn in
    let within = slice_get_within c.self.inside.actors.items (c.args.actor - 1) at.0 at.1.there in
    let long = c.self.inside.actors.ok.0 in omega (arith, within, long)

pub step_on-requires-clause-resting : goal.step_on-requires-clause-resting
step_on-requires-clause-resting g c κs within =
    let turn = rw (← c.self.view_is) at c.requires.turn in
    (turn-at _ _ _ _ _ _ c.self.invariant.0 c.args.actor turn c.index_mut.result.now c.index_mut.ensures.value).rests

pub step_on-requires-clause-unfinished : goal.step_on-requires-clause-unfinished
step_on-requires-clause-unfinished g c κs within =
    let turn = rw (← c.self.view_is) at c.requires.turn in
    (turn-at _ _ _ _ _ _ c.self.invariant.0 c.args.actor turn c.index_mut.result.now c.index_mut.ensures.value).unfinished

pub invariant_of-self : goal.invariant_of-self
invariant_of-self g c =
    let inside = c.self.inside in
    let turn = rw (← c.self.view_is) at c.requires.turn in
    let at = turn-at _ _ _ _ _ _ c.self.invariant.0 c.args.actor turn c.index_mut.result.now c.index_mut.ensures.value in
    let long = rw c.deref_mut.ensures.value at c.step_on.auto.nodes in
    let back : take inside.nodes.len (c.step_on.new.nodes ++ drop (length c.step_on.new.nodes) inside.nodes.items) ≡ c.step_on.new.nodes =
    slice-back inside.nodes.len inside.nodes.items c.step_on.new.nodes inside.nodes.ok.0 long in
    let on =
    works inside.script.value inside.counts.value inside.nodes.items inside.actors.items inside.phases.items inside.order inside.spare.items inside.disks
    c.self.invariant.0 c.args.actor (c.args.actor - 1) c.index_mut.result.now c.step_on.new.actor at turn c.step_on.ensures.rests
    c.step_on.new.nodes c.step_on.new.order c.step_on.result
    (rw c.deref_mut.ensures.value at c.step_on.ensures.turn) c.step_on.ensures.order
    (rw c.deref_mut.ensures.value at c.step_on.ensures.err_nodes) c.step_on.ensures.err_actor c.step_on.ensures.err_order in
    rw back
    (on, omega (arith, length-with _ _ _ c.self.invariant.0.nodes_are, length-with _ _ _ on.nodes_are, long, c.self.invariant.1))

pub returns-clause-ok : goal.returns-clause-ok
returns-clause-ok g c =
    let inside = c.self.inside in
    let turn = rw (← c.self.view_is) at c.requires.turn in
    let at = turn-at _ _ _ _ _ _ c.self.invariant.0 c.args.actor turn c.index_mut.result.now c.index_mut.ensures.value in
    let long = rw c.deref_mut.ensures.value at c.step_on.auto.nodes in
    let back : take inside.nodes.len (c.step_on.new.nodes ++ drop (length c.step_on.new.nodes) inside.nodes.items) ≡ c.step_on.new.nodes =
    slice-back inside.nodes.len inside.nodes.items c.step_on.new.nodes inside.nodes.ok.0 long in
    let told =
    tells inside.script.value inside.counts.value inside.nodes.items inside.actors.items inside.phases.items inside.order inside.spare.items inside.disks
    c.self.invariant.0 c.args.actor (c.args.actor - 1) c.index_mut.result.now c.step_on.new.actor at turn c.step_on.ensures.rests
    c.step_on.new.nodes c.step_on.new.order c.step_on.result
    (rw c.deref_mut.ensures.value at c.step_on.ensures.turn) c.step_on.ensures.order in
    rw (back, ← c.self.view_is) told

pub returns-clause-err : goal.returns-clause-err
returns-clause-err g c =
    let inside = c.self.inside in
    let turn = rw (← c.self.view_is) at c.requires.turn in
    let at = turn-at _ _ _ _ _ _ c.self.invariant.0 c.args.actor turn c.index_mut.result.now c.index_mut.ensures.value in
    let long = rw c.deref_mut.ensures.value at c.step_on.auto.nodes in
    let back : take inside.nodes.len (c.step_on.new.nodes ++ drop (length c.step_on.new.nodes) inside.nodes.items) ≡ c.step_on.new.nodes =
    slice-back inside.nodes.len inside.nodes.items c.step_on.new.nodes inside.nodes.ok.0 long in
    let same =
    stays-same inside.script.value inside.counts.value inside.nodes.items inside.actors.items inside.phases.items inside.order inside.spare.items inside.disks
    c.self.invariant.0 c.args.actor (c.args.actor - 1) c.index_mut.result.now c.step_on.new.actor at turn c.step_on.ensures.rests
    c.step_on.new.nodes c.step_on.new.order c.step_on.result
    (rw c.deref_mut.ensures.value at c.step_on.ensures.err_nodes) c.step_on.ensures.err_actor c.step_on.ensures.err_order in
    rw (back, ← c.self.view_is) same
