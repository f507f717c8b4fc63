-- Servers that go and come, and the version of the chunk records that they write: stop, start, wipe, hibernate and
-- upgrade.
use Rattle.std.specs.Prelude.{ℕ}
use Rattle.qfs_base.specs.declared.command.Reply.TheVariants as Report
use Rattle.qfs_base.specs.declared.reply.ChunkAnswer.{ChunkAnswer}
use Rattle.qfs_base.specs.declared.reply.ChunkAnswer.TheVariants as Did
use Rattle.qfs_base.specs.declared.reply.MetaReply.{MetaReply}
use Rattle.qfs_base.specs.declared.reply.MetaReply.TheVariants as Said
use Rattle.qfs_base.specs.declared.request.ChunkRequest.TheVariants as Serve
use Rattle.qfs_base.specs.declared.request.MetaRequest.TheVariants as Ask
use Rattle.qfs_model_actor.specs.Work.{Report, Work, ends}
use Rattle.qfs_model_actor.specs.Hold.{nothing, unnamed}
use Rattle.qfs_model_actor.specs.Ask.{ask, ask_server}

-- the metaserver knows that the server is down
unfoldable pub after_bye : MetaReply → Work
after_bye (Said.Done place) = ends Report.Stopped
after_bye answer = unnamed

-- the server is down
unfoldable pub after_stop : ℕ → ChunkAnswer → Work
after_stop server Did.Stopped = ask nothing (Ask.Bye server) after_bye
after_stop server answer = unnamed

unfoldable pub stop_work : ℕ → Work
stop_work server = ask_server nothing server Serve.Stop (after_stop server)

-- the metaserver knows the server's copies, or knows of a later life
unfoldable pub after_hello : Report → MetaReply → Work
after_hello report (Said.Done place) = ends report
after_hello report (Said.Old known) = ends report
after_hello report answer = unnamed

-- the server told its life and copies, or it is down again
unfoldable pub after_inventory : ℕ → Report → ChunkAnswer → Work
after_inventory server report (Did.Inventory life keys) = ask nothing (Ask.Hello server life keys) (after_hello report)
after_inventory server report Did.Down = ends report
after_inventory server report answer = unnamed

-- tells the metaserver what the server has, and ends with the report
unfoldable pub tell_copies : ℕ → Report → Work
tell_copies server report = ask_server nothing server Serve.Inventory (after_inventory server report)

-- the server is up
unfoldable pub after_start : ℕ → ChunkAnswer → Work
after_start server (Did.Started life) = tell_copies server (Report.Started life)
after_start server Did.Fault = ends Report.Fault
after_start server answer = unnamed

unfoldable pub start_work : ℕ → Work
start_work server = ask_server nothing server Serve.Start (after_start server)

-- the server is empty
unfoldable pub after_wipe : ℕ → ChunkAnswer → Work
after_wipe server (Did.Wiped life) = tell_copies server (Report.Wiped life)
after_wipe server Did.Fault = ends Report.Fault
after_wipe server answer = unnamed

unfoldable pub wipe_work : ℕ → Work
wipe_work server = ask_server nothing server Serve.Wipe (after_wipe server)

-- the server is down, and is expected back
unfoldable pub after_rest : ℕ → ChunkAnswer → Work
after_rest until Did.Stopped = ends (Report.Hibernating until)
after_rest until answer = unnamed

-- the metaserver expects the server back at a reading of the clock
unfoldable pub after_hibernate : ℕ → MetaReply → Work
after_hibernate server (Said.Until clock) = ask_server nothing server Serve.Stop (after_rest clock)
after_hibernate server Said.NotUp = ends Report.NotUp
after_hibernate server answer = unnamed

unfoldable pub hibernate_work : ℕ → ℕ → Work
hibernate_work server ticks = ask nothing (Ask.Hibernate server ticks) (after_hibernate server)

-- the server writes its chunk records in the second version from now on, or it isn't up
unfoldable pub after_upgrade : ChunkAnswer → Work
after_upgrade Did.Upgraded = ends Report.Upgraded
after_upgrade Did.Down = ends Report.Down
after_upgrade answer = unnamed

unfoldable pub upgrade_work : ℕ → Work
upgrade_work server = ask_server nothing server Serve.Upgrade after_upgrade
