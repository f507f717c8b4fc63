use Rattle.std.proofs.Common.{◌++◌, ◌∙◌, sym, ap, arith, append-nil}
use Rattle.qfs_print.proofs.Lines.{one_phase_more, actors_left, no_phase}
use Rattle.qfs_print.proofs.script.push_phases.Goals as goal

pub loop-phase-preserved : goal.loop-phase-preserved
loop-phase-preserved c = record {
  few = omega (
    arith,
    c.loop-phase.invariant.few,
    c.len.ensures,
    actors_left c.args.phases.now c.loop-phase.phase-index c.phase-item.result
        c.loop-phase-test.true c.phase-item.is,
  );
  told =
      one_phase_more c.args.phases.now c.loop-phase.phase-index c.loop-phase.next c.len.result
      c.phase-item.result c.as_slice.result.now c.loop-phase.out.items c.push_bare.new.out.items
      c.push_actors.new.out.items _ c.loop-phase-test.true c.phase-item.is
      c.in_ok-push_bare.ensures c.as_slice.ensures c.in_ok-push_actors.ensures c.len.ensures
      c.loop-phase.invariant.told;
}

pub returns : goal.returns
returns c =
    sym (append-nil c.loop-phase.out.items)
    ∙ ap (λ text. c.loop-phase.out.items ++ text)
    (sym (no_phase c.args.phases.now c.loop-phase.phase-index c.loop-phase.next
    (omega (arith, c.loop-phase-test.false))))
    ∙ c.loop-phase.invariant.told
