-- Each drawn step adds to the order and takes a word.
use Rattle.std.proofs.Common.{rules, ◌∙◌}
use Rattle.std.proofs.lemmas.Result.{err_from_is_err_and}
use Rattle.qfs_driver.proofs.PlayLaws.{drawn_at_start, words_at_start, continues_itself, continues_further, drawn_step_further, drawn_step_stops, words_further}
use Rattle.qfs_driver.proofs.play.play.Goals as goal

pub loop-turns-init : goal.loop-turns-init
loop-turns-init g c = record {
  drawn = drawn_at_start c.args.number c.args.world.now c.requires;
  words = c.generator_of-generator.ensures ∙ words_at_start _ c.args.world.now c.requires;
  continues = continues_itself c.args.world.now;
}

pub loop-turns-preserved : goal.loop-turns-preserved
loop-turns-preserved g c = record {
  drawn = drawn_step_further c.args.number c.loop-turns.generator c.loop-turns.world c.take_drawn_step.new.world c.as_slice.result.now
      c.turn.ensures.after (search rules) c.loop-turns.invariant.words c.in_ok-take_drawn_step.ensures.done c.loop-turns.invariant.drawn;
  words = c.take_drawn_step.ensures.next
      ∙ words_further c.args.number c.loop-turns.generator c.loop-turns.world c.take_drawn_step.new.world c.as_slice.result.now
      c.loop-turns.invariant.words c.in_ok-take_drawn_step.ensures.done;
  continues = continues_further c.args.world.now c.loop-turns.world c.take_drawn_step.new.world c.loop-turns.invariant.continues c.take_drawn_step.ensures.continues;
}

pub returns-in_err-take_drawn_step-clause-continues : goal.returns-in_err-take_drawn_step-clause-continues
returns-in_err-take_drawn_step-clause-continues g c =
    continues_further c.args.world.now c.loop-turns.world c.take_drawn_step.new.world c.loop-turns.invariant.continues c.take_drawn_step.ensures.continues

pub returns-in_err-take_drawn_step-clause-err : goal.returns-in_err-take_drawn_step-clause-err
returns-in_err-take_drawn_step-clause-err g c =
    let p = err_from_is_err_and c.from_residual.result c.from_residual.ensures.1 in
    rw (p.1, p.2)
    (drawn_step_stops c.args.number c.loop-turns.generator c.args.world.now c.loop-turns.world c.take_drawn_step.new.world c.as_slice.result.now
    c.in_err-take_drawn_step.field-0.0 c.loop-turns.invariant.continues c.turn.ensures.after (search rules) c.loop-turns.invariant.words
    c.in_err-take_drawn_step.ensures.err c.loop-turns.invariant.drawn)
