use Rattle.std.proofs.Common.{◌≡◌, ◌++◌, drop}
use Rattle.std.specs.Prelude.{map}
use Rattle.qfs_model_text.specs.Line.{more_words}
use Rattle.qfs_model_text.specs.Reply.{slot_cause}
use Rattle.qfs_lines.proofs.reply.push_too_few.Given as goal

-- with the causes that are left, the text is that of all causes
abbrev pub invariant-loop-cause : goal.invariant-loop-cause
invariant-loop-cause l =
    l.out.items ++ more_words (map slot_cause (drop l.cause-index l.causes))
    ≡ l.initial.out.items ++ more_words (map slot_cause l.causes)
