-- What the check leaves to show of `puts::commands_of`.
use Rattle.std.proofs.Common.{◌+◌, ◌-◌, drop, ap, sym, ◌∙◌, arith}
use Rattle.std.specs.List.{flat_map, slice_get}
use Rattle.qfs_files.proofs.PutLaws.{drop_read, get_behind, get_front, numbered_is}
use Rattle.qfs_files.proofs.puts.commands_of.Goals as goal

pub returns-then-left-len : goal.returns-then-left-len
returns-then-left-len c =
    let phases = c.args.phases.now in
    let at = c.loop-phase.phase-index in
    let phase = c.phase-item.result in
    c.get.ensures.value
    ∙ sym (get_front phase (flat_map (λ phase. phase) (drop (at + 1) phases)) c.loop-phase.left
    (omega (arith, c.if-left-len.true, c.len.ensures)))
    ∙ sym (ap (λ phases. slice_get (flat_map (λ phase. phase) phases) c.loop-phase.left)
    (drop_read phases at phase c.loop-phase-test.true c.phase-item.is))
    ∙ sym c.loop-phase.invariant
    ∙ sym (numbered_is (flat_map (λ phase. phase) phases) c.args.actor c.if-actor-eq0.false)

pub loop-phase-preserved : goal.loop-phase-preserved
loop-phase-preserved c =
    let phases = c.args.phases.now in
    let at = c.loop-phase.phase-index in
    let phase = c.phase-item.result in
    c.loop-phase.invariant
    ∙ ap (λ phases. slice_get (flat_map (λ phase. phase) phases) c.loop-phase.left)
    (drop_read phases at phase c.loop-phase-test.true c.phase-item.is)
    ∙ get_behind phase (flat_map (λ phase. phase) (drop (at + 1) phases)) c.loop-phase.left
    (omega (arith, c.if-left-len.false, c.len.ensures))
    ∙ ap (λ n. slice_get (flat_map (λ phase. phase) (drop (at + 1) phases)) (c.loop-phase.left - n))
    (sym c.len-left.ensures)
