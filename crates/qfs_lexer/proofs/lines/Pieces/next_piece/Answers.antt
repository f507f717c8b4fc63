use Rattle.std.proofs.Common.{◌∙◌, ap, sym}
use Rattle.qfs_lexer.specs.Left.{pieces_left}
use Rattle.qfs_lexer.proofs.Splits.{pieces_at, pieces_nowhere}
use Rattle.qfs_lexer.proofs.lines.Pieces.next_piece.Goals as goal

pub returns-in-Some : goal.returns-in-Some
returns-in-Some c =
    sym c.self.view_is ∙ ap pieces_left c.in_ok-line.was ∙ pieces_at _ _ (sym c.in-Some.ensures)

pub returns-in-None : goal.returns-in-None
returns-in-None c =
    sym c.self.view_is ∙ ap pieces_left c.in_ok-line.was ∙ pieces_nowhere _ (sym c.in-None.ensures)
