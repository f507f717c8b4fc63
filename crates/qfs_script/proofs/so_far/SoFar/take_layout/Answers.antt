use Rattle.std.proofs.Common.{◌≡◌, ◌∙◌, sym, ap, arith}
use Rattle.qfs_model_grammar.specs.SoFar.{SoFar, with_head, take_layout}
use Rattle.qfs_script.specs.Meant.{place_meant}
use Rattle.qfs_script.proofs.Taken.{taken_layout}
use Rattle.qfs_script.proofs.so_far.SoFar.take_layout.Goals as goal

pub returns : goal.returns
unfolding with_head place_meant
returns c =
    ap (λ (so : SoFar). take_layout so c.args.words.now) (sym c.self.view_is)
    ∙ taken_layout _ _ _ _ _ _ c.in_ok-stripe.ensures c.in_ok-s.ensures.value c.in_ok-r.ensures.value
