-- What each command of an actor asks, from its first request on.
use Rattle.std.specs.Prelude.{ℕ}
use Rattle.qfs_base.specs.declared.command.Command.{Command}
use Rattle.qfs_base.specs.declared.command.Command.TheVariants as Does
use Rattle.qfs_base.specs.declared.command.FileCommand.{FileCommand}
use Rattle.qfs_base.specs.declared.command.FileCommand.TheVariants as File
use Rattle.qfs_base.specs.declared.request.MetaRequest.TheVariants as Ask
use Rattle.qfs_base.specs.declared.rules.Rules.{Rules}
use Rattle.qfs_model_actor.specs.Work.{Work}
use Rattle.qfs_model_actor.specs.Tree.{change_work, list_work}
use Rattle.qfs_model_actor.specs.Put.{put_work}
use Rattle.qfs_model_actor.specs.Get.{get_work}
use Rattle.qfs_model_actor.specs.Recover.{recover_work, heal_work}
use Rattle.qfs_model_actor.specs.Move.{move_work, rebalance_work, evacuate_work}
use Rattle.qfs_model_actor.specs.Sweep.{sweep_work}
use Rattle.qfs_model_actor.specs.Servers.{stop_work, start_work, wipe_work, hibernate_work, upgrade_work}
use Rattle.qfs_model_actor.specs.System.{tick_work, drop_work, checkpoint_work, restart_work}
use Rattle.qfs_base.specs.Recipe.{bytes_of}

-- a file command, the actor's command of this number
unfoldable pub file_work : Rules → ℕ → FileCommand → Work
file_work rules number (File.Mkdir path) = change_work (Ask.Mkdir path)
file_work rules number (File.Rmdir path) = change_work (Ask.Rmdir path)
file_work rules number (File.Remove path) = change_work (Ask.Remove path)
file_work rules number (File.Rename from to) = change_work (Ask.Rename from to)
file_work rules number (File.List path) = list_work path
file_work rules number (File.Put path recipe) = put_work rules.layout number path (bytes_of recipe)
file_work rules number (File.Get path range) = get_work rules.layout rules.tries path range

-- the actor's command of this number
unfoldable pub work_of : Rules → ℕ → Command → Work
work_of rules number (Does.File command) = file_work rules number command
work_of rules number (Does.Recover path index slot) = recover_work rules.layout path index slot
work_of rules number (Does.Move path index slot server) = move_work rules.layout path index slot server
work_of rules number (Does.Heal budget) = heal_work rules.layout budget
work_of rules number (Does.Rebalance budget) = rebalance_work rules.layout budget
work_of rules number (Does.Evacuate server budget) = evacuate_work rules.layout server budget
work_of rules number (Does.Sweep budget) = sweep_work budget
work_of rules number (Does.Stop server) = stop_work server
work_of rules number (Does.Start server) = start_work server
work_of rules number (Does.Wipe server) = wipe_work server
work_of rules number (Does.Hibernate server ticks) = hibernate_work server ticks
work_of rules number (Does.Upgrade server) = upgrade_work server
work_of rules number Does.Tick = tick_work
work_of rules number (Does.Drop actor) = drop_work actor
work_of rules number Does.Checkpoint = checkpoint_work
work_of rules number Does.Restart = restart_work
