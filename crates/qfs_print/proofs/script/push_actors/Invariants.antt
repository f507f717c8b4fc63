-- What the loop of `push_actors` keeps.
use Rattle.std.proofs.Common.{◌≡◌, ◌+◌, ◌++◌, drop}
use Rattle.qfs_model_script.specs.ScriptText.{actor_lines}
use Rattle.qfs_print.specs.Texts.{text_of_lines}
use Rattle.qfs_print.proofs.script.push_actors.Given as goal

-- with the actors that are left, the text is that of all actors
abbrev pub invariant-loop-commands : goal.invariant-loop-commands
invariant-loop-commands l = record {
  next : l.next ≡ l.number + l.commands-index;
  told : l.out.items ++ text_of_lines (actor_lines l.next (drop l.commands-index l.actors))
      ≡ l.initial.out.items ++ text_of_lines (actor_lines l.number l.actors);
}
