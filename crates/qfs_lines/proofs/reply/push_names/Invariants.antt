use Rattle.std.proofs.Common.{◌≡◌, ◌++◌, drop}
use Rattle.std.specs.Prelude.{map}
use Rattle.qfs_model_text.specs.Line.{more_words}
use Rattle.qfs_model_text.specs.Reply.{name_word}
use Rattle.qfs_lines.proofs.reply.push_names.Given as goal

-- with the names that are left, the text is that of all names
abbrev pub invariant-loop-name : goal.invariant-loop-name
invariant-loop-name l =
    l.out.items ++ more_words (map name_word (drop l.name-index l.names))
    ≡ l.initial.out.items ++ more_words (map name_word l.names)
