-- The whole output of a run.
use Rattle.std.specs.Prelude.{ℕ, List, [], ◌++◌, Option, Some, None}
use Rattle.qfs_base.specs.declared.command.ReplyLine.{ReplyLine}
use Rattle.qfs_base.specs.declared.history.Entry.{Entry}
use Rattle.qfs_base.specs.declared.history.Step.{Step}
use Rattle.qfs_model_text.specs.Audit.{Audit, audit_lines}
use Rattle.qfs_model_text.specs.Reply.{reply_lines}
use Rattle.qfs_model_text.specs.History.{history_lines}
use Rattle.qfs_model_text.specs.Order.{order_line}

-- the lines of an audit, if the script asks for one
unfoldable pub asked_audit : Option Audit → List ℕ
asked_audit None = []
asked_audit (Some audit) = audit_lines audit

-- the replies, the file history, the audit and the order
unfoldable pub output : List ReplyLine → List Entry → Option Audit → List Step → List ℕ
output replies history audit order =
    reply_lines replies ++ history_lines history ++ asked_audit audit ++ order_line order

-- the output of a script that asks for no audit
abbrev pub plain_output : List ReplyLine → List Entry → List Step → List ℕ
plain_output replies history order = output replies history None order
