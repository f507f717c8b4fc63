use Rattle.std.proofs.Common.{◌≡◌, ◌∙◌, ◌+◌, ap, subst, sym, arith, ℕ, List, ◌∷◌, Result}
use Rattle.qfs_base.specs.declared.command.Command.{Command}
use Rattle.qfs_first.specs.Refusal.{TellsBadLine}
use Rattle.qfs_first.specs.Script.{read_commands, first_command}
use Rattle.qfs_first.proofs.CommandLines.{after, one_more, bad_line, all_read, passed_on}
use Rattle.qfs_first.proofs.commands.read_commands.Goals as goal

pub loop-line-preserved : goal.loop-line-preserved
loop-line-preserved c = record {
  said = c.loop-line.invariant.said
      ∙ ap (λ (lines : List (List ℕ)). after c.loop-line.commands (read_commands c.loop-line.number lines)) c.in-Some.ensures
      ∙ one_more _ _ _ _ _ c.in_ok-command_at.ensures.ok
      ∙ ap (λ (done : List Command). after done (read_commands (c.loop-line.number + 1) c.next_line.new.self)) (sym c.in_ok-push.ensures.ok);
  room = omega (arith, c.in_ok-command_at.ensures.room);
}

pub returns-clause-ok : goal.returns-clause-ok
returns-clause-ok c =
    c.loop-line.invariant.said
    ∙ ap (λ (lines : List (List ℕ)). after c.loop-line.commands (read_commands c.loop-line.number lines)) c.in_default.ensures.0
    ∙ all_read _ _

pub returns-in_err-command_at-clause-bad : goal.returns-in_err-command_at-clause-bad
returns-in_err-command_at-clause-bad c =
    let error = c.in_err-command_at.field-0.0 in
    let lines : c.loop-line.lines ≡ c.in-Some.line.now ∷ c.next_line.new.self = c.in-Some.ensures in
    let tells = bad_line c.loop-line.commands c.loop-line.number c.in-Some.line.now c.next_line.new.self error c.in_err-command_at.ensures.bad in
    let said : after c.loop-line.commands (read_commands c.loop-line.number (c.in-Some.line.now ∷ c.next_line.new.self)) ≡ read_commands first_command c.args.lines.now =
    ap (λ (ls : List (List ℕ)). after c.loop-line.commands (read_commands c.loop-line.number ls)) (sym lines) ∙ sym c.loop-line.invariant.said in
    passed_on _ error _ c.from_residual.ensures.1 (subst (λ (r : Result (List Command) ℕ). TellsBadLine r error) said tells)
