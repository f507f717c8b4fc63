use Rattle.std.proofs.Common.{◌++◌, List, length, take, drop, slice_index_or, ap, sym, ◌∙◌, arith}
use Rattle.qfs_base.specs.declared.image.SlotRow.{SlotRow}
use Rattle.qfs_meta.proofs.LoadLaws.{past_end, length-loads, load-parts, length-mixed, mixed-at, mixed-next, mixed-end}
use Rattle.qfs_meta.proofs.loads.uncount.Goals as goal

pub loop-at-init : goal.loop-at-init
loop-at-init c = c.requires.loads

pub bounds-loads-at : goal.bounds-loads-at
bounds-loads-at c =
    let all = length-loads c.args.servers.now c.args.slots.now in
    let others = length-loads c.args.servers.now (take c.args.run.start c.args.slots.now ++ drop c.args.run.end c.args.slots.now) in
    let now = ap length c.loop-at.invariant ∙ length-mixed _ _ c.loop-at.at (omega (arith, c.loop-at-test.true, others)) (others ∙ sym all) in
    omega (arith, c.loop-at-test.true, now, all, others)

pub bounds-loads-at-in-loop-at : goal.bounds-loads-at-in-loop-at
bounds-loads-at-in-loop-at c =
    let all = length-loads c.args.servers.now c.args.slots.now in
    let others = length-loads c.args.servers.now (take c.args.run.start c.args.slots.now ++ drop c.args.run.end c.args.slots.now) in
    let now = ap length c.loop-at.invariant ∙ length-mixed _ _ c.loop-at.at (omega (arith, c.loop-at-test.true, others)) (others ∙ sym all) in
    omega (arith, c.loop-at-test.true, now, all, others)

pub overflow_sub-loads : goal.overflow_sub-loads
overflow_sub-loads c =
    let slots : List SlotRow = c.args.slots.now in
    let rest : List SlotRow = take c.args.run.start slots ++ drop c.args.run.end slots in
    let all = length-loads c.args.servers.now slots in
    let others = length-loads c.args.servers.now rest in
    let load = ap (λ loads. slice_index_or loads c.loop-at.at 0) c.loop-at.invariant ∙ mixed-at _ _ c.loop-at.at 0 (omega (arith, c.loop-at-test.true, others)) (others ∙ sym all) in
    let parts = load-parts c.args.servers.now slots c.args.run.start c.args.run.end c.loop-at.at 0 past_end c.requires.start c.loop-at-test.true in
    omega (arith, load, parts, c.count_on.ensures)

pub loop-at-preserved : goal.loop-at-preserved
loop-at-preserved c =
    let slots : List SlotRow = c.args.slots.now in
    let rest : List SlotRow = take c.args.run.start slots ++ drop c.args.run.end slots in
    let all = length-loads c.args.servers.now slots in
    let others = length-loads c.args.servers.now rest in
    let load = ap (λ loads. slice_index_or loads c.loop-at.at 0) c.loop-at.invariant ∙ mixed-at _ _ c.loop-at.at 0 (omega (arith, c.loop-at-test.true, others)) (others ∙ sym all) in
    let parts = load-parts c.args.servers.now slots c.args.run.start c.args.run.end c.loop-at.at 0 past_end c.requires.start c.loop-at-test.true in
    mixed-next _ _ c.loop-at.loads c.loop-at.at _ 0 (omega (arith, c.loop-at-test.true, others)) (others ∙ sym all) c.loop-at.invariant (omega (arith, load, parts, c.count_on.ensures))

pub returns : goal.returns
returns c =
    let all = length-loads c.args.servers.now c.args.slots.now in
    let others = length-loads c.args.servers.now (take c.args.run.start c.args.slots.now ++ drop c.args.run.end c.args.slots.now) in
    mixed-end _ _ c.loop-at.loads c.loop-at.at (omega (arith, c.loop-at-test.false, others)) (others ∙ sym all) c.loop-at.invariant
