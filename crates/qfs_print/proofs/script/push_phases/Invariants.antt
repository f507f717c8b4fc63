-- What the loop of `push_phases` keeps.
use Rattle.std.proofs.Common.{◌≡◌, ◌+◌, ◌≤◌, ◌++◌, drop, length}
use Rattle.qfs_model_script.specs.Limits.{MOST_ACTORS}
use Rattle.qfs_model_script.specs.ScriptText.{phase_lines}
use Rattle.qfs_print.specs.Texts.{actors_in, text_of_lines}
use Rattle.qfs_print.proofs.script.push_phases.Given as goal

-- the actors that are left have numbers, and with them the text is that of all phases
abbrev pub invariant-loop-phase : goal.invariant-loop-phase
invariant-loop-phase l = record {
  few : l.next + length (actors_in (drop l.phase-index l.phases)) ≤ MOST_ACTORS + 1;
  told : l.out.items ++ text_of_lines (phase_lines l.next (drop l.phase-index l.phases))
      ≡ l.initial.out.items ++ text_of_lines (phase_lines 1 l.phases);
}
