-- The commands on the metaserver as a whole: one request each.
use Rattle.std.specs.Prelude.{ℕ}
use Rattle.qfs_base.specs.declared.command.Reply.TheVariants as Report
use Rattle.qfs_base.specs.declared.reply.MetaReply.{MetaReply}
use Rattle.qfs_base.specs.declared.reply.MetaReply.TheVariants as Said
use Rattle.qfs_base.specs.declared.request.MetaRequest.TheVariants as Ask
use Rattle.qfs_model_actor.specs.Work.{Work, ends}
use Rattle.qfs_model_actor.specs.Hold.{nothing, unnamed}
use Rattle.qfs_model_actor.specs.Ask.{ask}

unfoldable pub ticked : MetaReply → Work
ticked (Said.Clock now) = ends (Report.Clock now)
ticked answer = unnamed

unfoldable pub dropped : MetaReply → Work
dropped (Said.Done place) = ends Report.DropDone
dropped answer = unnamed

unfoldable pub saved : MetaReply → Work
saved (Said.Saved turn) = ends (Report.Saved turn)
saved answer = unnamed

unfoldable pub restarted : MetaReply → Work
restarted (Said.Restarted turn) = ends (Report.Restarted turn)
restarted answer = unnamed

unfoldable pub tick_work : Work
tick_work = ask nothing Ask.Tick ticked

unfoldable pub drop_work : ℕ → Work
drop_work actor = ask nothing (Ask.Drop actor) dropped

unfoldable pub checkpoint_work : Work
checkpoint_work = ask nothing Ask.Checkpoint saved

unfoldable pub restart_work : Work
restart_work = ask nothing Ask.Restart restarted
