use Rattle.std.proofs.Common.{◌≡◌, length}
use Rattle.qfs_lexer.specs.Left.{words_among}
use Rattle.qfs_lexer.proofs.lines.first_word.Given as goal

abbrev pub invariant-loop-piece : goal.invariant-loop-piece
invariant-loop-piece l = words_among l.initial.pieces ≡ words_among l.pieces

abbrev pub decreases-loop-piece : goal.decreases-loop-piece
decreases-loop-piece l = length l.pieces
