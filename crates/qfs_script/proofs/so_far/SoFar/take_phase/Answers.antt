use Rattle.std.proofs.Common.{◌≡◌, ◌∙◌, sym, ap, arith, List, [], ◌∷◌, ◌++◌}
use Rattle.qfs_base.specs.declared.command.Command.{Command}
use Rattle.qfs_model_grammar.specs.SoFar.{SoFar, with_head, take_phase}
use Rattle.qfs_script.specs.Meant.{place_meant}
use Rattle.qfs_script.proofs.Taken.{taken_phase}
use Rattle.qfs_script.proofs.so_far.SoFar.take_phase.Goals as goal

pub returns : goal.returns
unfolding with_head place_meant
returns c =
    ap (λ (so : SoFar). take_phase so c.args.words.now) (sym c.self.view_is)
    ∙ taken_phase _ _ _ _ c.in_ok-no_word.ensures (omega arith)
    (c.in_ok-push.ensures.ok ∙ ap (λ (phase : List (List Command)). c.self.inside.script.phases ++ phase ∷ []) c.new.ensures)
