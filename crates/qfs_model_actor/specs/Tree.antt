-- The commands on the name tree: one request each.
use Rattle.std.specs.Prelude.{ℕ, List}
use Rattle.qfs_base.specs.declared.command.Reply.TheVariants as Report
use Rattle.qfs_base.specs.declared.reply.MetaReply.{MetaReply}
use Rattle.qfs_base.specs.declared.reply.MetaReply.TheVariants as Said
use Rattle.qfs_base.specs.declared.request.MetaRequest.{MetaRequest}
use Rattle.qfs_base.specs.declared.request.MetaRequest.TheVariants as Ask
use Rattle.qfs_model_actor.specs.Work.{Work, ends}
use Rattle.qfs_model_actor.specs.Hold.{nothing, unnamed}
use Rattle.qfs_model_actor.specs.Ask.{ask}

-- a file command that wants something else than this answer: it ends at a refusal of the tree
unfoldable pub refused : MetaReply → Work
refused (Said.Refused refusal place) = ends (Report.Refused place refusal)
refused answer = unnamed

unfoldable pub changed : MetaReply → Work
changed (Said.Done place) = ends (Report.Done place)
changed answer = refused answer

unfoldable pub listed : MetaReply → Work
listed (Said.Names place names) = ends (Report.Listed place names)
listed answer = refused answer

-- mkdir, rmdir, remove and rename
unfoldable pub change_work : MetaRequest → Work
change_work request = ask nothing request changed

unfoldable pub list_work : List (List ℕ) → Work
list_work path = ask nothing (Ask.List path) listed
