use Rattle.std.proofs.Common.{◌++◌, ◌∙◌, sym, ap, arith, append-nil}
use Rattle.qfs_print.proofs.Lines.{one_actor_more, no_actor}
use Rattle.qfs_print.proofs.script.push_actors.Goals as goal

pub loop-commands-preserved : goal.loop-commands-preserved
loop-commands-preserved c = record {
  next = omega (arith, c.loop-commands.invariant.next);
  told =
      one_actor_more c.args.actors.now c.loop-commands.commands-index c.loop-commands.next
      c.commands-item.result c.loop-commands.out.items c.push_actor.new.out.items _
      c.loop-commands-test.true c.commands-item.is c.in_ok-push_actor.ensures
      c.loop-commands.invariant.told;
}

pub returns : goal.returns
returns c =
    sym (append-nil c.loop-commands.out.items)
    ∙ ap (λ text. c.loop-commands.out.items ++ text)
    (sym (no_actor c.args.actors.now c.loop-commands.commands-index c.loop-commands.next
    (omega (arith, c.loop-commands-test.false))))
    ∙ c.loop-commands.invariant.told
