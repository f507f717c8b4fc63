use Rattle.std.proofs.Common.{◌≡◌, ◌∙◌, sym, ap, arith}
use Rattle.qfs_model_grammar.specs.SoFar.{SoFar, with_head, take_order}
use Rattle.qfs_script.specs.Meant.{place_meant}
use Rattle.qfs_script.proofs.Taken.{taken_order}
use Rattle.qfs_script.proofs.so_far.SoFar.take_order.Goals as goal

pub returns : goal.returns
unfolding with_head place_meant
returns c =
    ap (λ (so : SoFar). take_order so c.args.words.now) (sym c.self.view_is)
    ∙ taken_order _ _ _ c.in_ok-order.ensures
