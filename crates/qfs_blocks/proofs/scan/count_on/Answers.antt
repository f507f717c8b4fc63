-- What the check leaves to show of `scan::count_on`.
use Rattle.std.proofs.Common.{ap, arith, ◌∙◌}
use Rattle.qfs_base.specs.declared.image.SlotRecord.{SlotRecord}
use Rattle.qfs_model_meta.specs.Slots.{count_on, granted_copy}
use Rattle.qfs_blocks.specs.Records.{one_on}
use Rattle.qfs_blocks.proofs.RecordLaws.{counted_first, counted_none}
use Rattle.qfs_blocks.proofs.scan.count_on.Goals as goal

pub loop-row-preserved : goal.loop-row-preserved
loop-row-preserved c =
    let server = c.args.server in
    let life = c.args.life in
    let steps = ap (count_on server life) c.in-Some.ensures.steps
    ∙ counted_first server life c.in-Some.row.now c.next.new.self in
    let current = c.one_on-current.ensures.one
    ∙ ap (λ (state : SlotRecord). one_on server life state.current) c.state-state.ensures in
    let granted = c.one_on-granted.ensures.one ∙ ap (one_on server life) c.granted_copy.ensures
    ∙ ap (λ (state : SlotRecord). one_on server life (granted_copy state.grant))
    c.state-state.ensures in
    record {
      left = omega (
        arith,
        steps,
        c.loop-row.invariant.left,
        c.saturating_add-count.ensures,
        current,
        granted,
      );
      fits = omega (arith, c.saturating_add-count.ensures);
    }

pub returns : goal.returns
returns c =
    let none = ap (count_on c.args.server c.args.life) c.in-None.ensures.steps.0
    ∙ counted_none c.args.server c.args.life in
    omega (arith, none, c.loop-row.invariant.left, c.loop-row.invariant.fits)
