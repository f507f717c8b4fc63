use Rattle.qfs_lexer.proofs.TextLines.{is_text_line}
use Rattle.qfs_lexer.proofs.lines.is_text.Goals as goal

pub returns : goal.returns
returns c = is_text_line _ _ c.all_visible.ensures
