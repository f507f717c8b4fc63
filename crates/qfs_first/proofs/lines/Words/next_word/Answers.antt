use Rattle.std.proofs.Common.{◌∙◌, ap, sym}
use Rattle.qfs_first.specs.Lines.{words_left}
use Rattle.qfs_first.proofs.Splits.{words_at, words_nowhere}
use Rattle.qfs_first.proofs.lines.Words.next_word.Goals as goal

pub returns-in-Some : goal.returns-in-Some
returns-in-Some c =
    sym c.self.view_is ∙ ap words_left c.in_ok-line.was ∙ words_at _ _ (sym c.in-Some.ensures)

pub returns-in-None : goal.returns-in-None
returns-in-None c =
    sym c.self.view_is ∙ ap words_left c.in_ok-line.was ∙ words_nowhere _ (sym c.in-None.ensures)
