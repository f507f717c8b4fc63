-- Every request of the metaserver, and what it decides.
use Rattle.std.specs.Prelude.{ℕ, length}
use Rattle.qfs_base.specs.declared.image.MetaImage.{MetaImage}
use Rattle.qfs_base.specs.declared.reply.MetaReply.TheVariants as Told
use Rattle.qfs_base.specs.declared.request.MetaRequest.{MetaRequest}
use Rattle.qfs_base.specs.declared.request.MetaRequest.TheVariants as Ask
use Rattle.qfs_base.specs.declared.rules.Rules.{Rules}
use Rattle.qfs_model_meta.specs.Decision.{Decision, UsesDisks, unless}
use Rattle.qfs_model_meta.specs.DropRequest.{decide_drop}
use Rattle.qfs_model_meta.specs.GetRequests.{decide_open, decide_release}
use Rattle.qfs_model_meta.specs.MoveRequests.{decide_move, decide_evacuate, decide_balance}
use Rattle.qfs_model_meta.specs.PutRequests.{decide_create, decide_grant, decide_close, decide_abort}
use Rattle.qfs_model_meta.specs.Range.{in_range}
use Rattle.qfs_model_meta.specs.RepairRequests.{decide_recover, decide_heal}
use Rattle.qfs_model_meta.specs.ServerRequests.{decide_hello, decide_bye, decide_leave, decide_hibernate, decide_tick, decide_left_on}
use Rattle.qfs_model_meta.specs.SettleRequests.{decide_confirm, decide_abandon}
use Rattle.qfs_model_meta.specs.SweepRequests.{decide_order, decide_swept}
use Rattle.qfs_model_meta.specs.TreeRequests.{decide_mkdir, decide_rmdir, decide_remove, decide_rename, decide_list}

-- what is decided on an actor's request
unfoldable pub decide_request : Rules → ℕ → MetaImage → MetaRequest → Decision
decide_request rules actor m (Ask.Mkdir path) = decide_mkdir path m
decide_request rules actor m (Ask.Rmdir path) = decide_rmdir path m
decide_request rules actor m (Ask.Remove path) = decide_remove path m
decide_request rules actor m (Ask.Rename from to) = decide_rename from to m
decide_request rules actor m (Ask.Create path command len) = decide_create actor path command len m
decide_request rules actor m (Ask.Grant file index slot again) =
    decide_grant rules.layout actor (record { file = file; index = index }) slot again m
decide_request rules actor m (Ask.Close file) = decide_close rules.layout actor file m
decide_request rules actor m (Ask.Abort file) = decide_abort actor file m
decide_request rules actor m (Ask.OpenFile path) = decide_open rules.layout rules.term actor path m
decide_request rules actor m (Ask.Release lease) = decide_release actor lease m
decide_request rules actor m (Ask.RecoverAt path index slot) =
    decide_recover rules.layout rules.term actor path index slot m
decide_request rules actor m (Ask.HealNext after) = decide_heal rules.layout rules.term actor after m
decide_request rules actor m (Ask.MoveAt path index slot to) =
    decide_move rules.layout rules.term actor path index slot to m
decide_request rules actor m (Ask.EvacNext server after) = decide_evacuate rules.layout rules.term actor server after m
decide_request rules actor m Ask.BalanceNext = decide_balance rules.layout rules.term actor m
decide_request rules actor m (Ask.Confirm block slot version lease) =
    decide_confirm actor block slot version lease m
decide_request rules actor m (Ask.Abandon block slot version lease) =
    decide_abandon actor block slot version lease m
decide_request rules actor m (Ask.OrderNext after) = decide_order after m
decide_request rules actor m (Ask.Swept number) = decide_swept number m
decide_request rules actor m (Ask.Hello server life keys) = decide_hello server life keys m
decide_request rules actor m (Ask.Bye server) = decide_bye server m
decide_request rules actor m (Ask.Leave server) = decide_leave server m
decide_request rules actor m (Ask.Hibernate server ticks) = decide_hibernate server ticks m
decide_request rules actor m Ask.Tick = decide_tick m
decide_request rules actor m (Ask.Drop dropped) = decide_drop dropped m
decide_request rules actor m (Ask.List path) = decide_list path m
decide_request rules actor m (Ask.LeftOn server) = decide_left_on server m
decide_request rules actor m Ask.Checkpoint = UsesDisks (Told.Saved m.turn)
decide_request rules actor m Ask.Restart = UsesDisks (Told.Restarted m.turn)

-- the same, where a request whose numbers are out of range finds nothing: no actor asks one
unfoldable pub decide : Rules → ℕ → MetaImage → MetaRequest → Decision
decide rules actor m request =
    unless (in_range (length m.servers) request) Told.Nothing (decide_request rules actor m request)
