-- A few replies, and the lines that they are printed as.
use Rattle.std.specs.Prelude.{ℕ, List, [], ◌∷◌, ◌++◌, codes}
use Rattle.qfs_base.specs.declared.command.Reply.TheVariants as Says
use Rattle.qfs_base.specs.declared.command.ReplyLine.{ReplyLine}
use Rattle.qfs_base.specs.declared.command.Shown.TheVariants as Show

-- five bytes are stored and read again
abbrev pub first_replies : List ReplyLine
first_replies =
    record { actor = 1; command = 1; reply = Says.Stored 1 5 }
    ∷ record { actor = 1; command = 2; reply = Says.Read 2 (record { len = 5; shown = Show.Whole (1 ∷ 2 ∷ 3 ∷ 4 ∷ 5 ∷ []) }) }
    ∷ []

abbrev pub first_lines : List ℕ
first_lines = codes "1 1 at 1 stored 5" ++ 10 ∷ [] ++ codes "1 2 at 2 read 5 hex 0102030405" ++ 10 ∷ []
