use Rattle.std.proofs.Common.{◌≡◌, ◌++◌, drop}
use Rattle.qfs_model_text.specs.Reply.{reply_lines}
use Rattle.qfs_lines.proofs.reply.push_replies.Given as goal

-- with the lines that are left, the text is that of all lines
abbrev pub invariant-loop-reply : goal.invariant-loop-reply
invariant-loop-reply l =
    l.out.items ++ reply_lines (drop l.reply-index l.replies) ≡ l.initial.out.items
    ++ reply_lines l.replies
