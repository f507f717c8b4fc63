use Rattle.std.proofs.Common.{◌≡◌, ◌∙◌, sym, ap, arith}
use Rattle.qfs_model_grammar.specs.SoFar.{SoFar, with_head, take_qfs}
use Rattle.qfs_script.specs.Meant.{place_meant}
use Rattle.qfs_script.proofs.Taken.{taken_qfs}
use Rattle.qfs_script.proofs.so_far.SoFar.take_qfs.Goals as goal

pub returns : goal.returns
unfolding with_head place_meant
returns c =
    ap (λ (so : SoFar). take_qfs so c.args.words.now) (sym c.self.view_is)
    ∙ taken_qfs _ _ _ _ c.in_ok-word.ensures c.in_ok-number_in.ensures.value
