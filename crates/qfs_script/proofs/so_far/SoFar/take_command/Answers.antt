use Rattle.std.proofs.Common.{◌≡◌, ◌∙◌, sym, ap, arith}
use Rattle.qfs_model_grammar.specs.SoFar.{SoFar, with_head, take_command}
use Rattle.qfs_words.specs.Meant.{command_meant}
use Rattle.qfs_script.specs.Meant.{place_meant}
use Rattle.qfs_script.proofs.Taken.{taken_command}
use Rattle.qfs_script.proofs.so_far.SoFar.take_command.Goals as goal

pub returns : goal.returns
unfolding with_head place_meant
returns c =
    ap (λ (so : SoFar). take_command so (command_meant c.args.word) c.args.words.now) (sym c.self.view_is)
    ∙ taken_command _ _ _ _ _ _ _ c.in_ok-command.ensures c.put_len-len.ensures.value c.in-Some.ensures.value c.in_ok-push_command.ensures
