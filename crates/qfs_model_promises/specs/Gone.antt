-- A recovery or move whose file was removed before its grant was confirmed replies that it is gone, and no other does.
use Rattle.std.specs.Prelude.{◌≡◌, ℕ, Bool, true, false, List, Some, IsTrue}
use Rattle.std.specs.List.{list_any}
use Rattle.qfs_base.specs.declared.command.Reply.TheVariants as Says
use Rattle.qfs_base.specs.declared.history.Step.{Step}
use Rattle.qfs_base.specs.declared.reply.MetaReply.{MetaReply}
use Rattle.qfs_base.specs.declared.reply.MetaReply.TheVariants as Told
use Rattle.qfs_base.specs.declared.reply.NodeReply.{NodeReply}
use Rattle.qfs_base.specs.declared.reply.NodeReply.TheVariants as From
use Rattle.qfs_base.specs.declared.script.Script.{Script}
use Rattle.qfs_model_actor.specs.Work.{Report}
use Rattle.qfs_model_world.specs.Events.{Event, events, steps_of}
use Rattle.qfs_model_world.specs.Reports.{report_of}
use Rattle.qfs_model_world.specs.World.{after}
use Rattle.qfs_model_promises.specs.FailedServers.{HasEnded, stores_slot}

-- whether a Confirm was answered that the file is gone: no other request is
unfoldable pub says_vanished : MetaReply → Bool
says_vanished Told.Vanished = true
says_vanished reply = false

unfoldable pub has_vanished : NodeReply → Bool
has_vanished (From.Meta reply) = says_vanished reply
has_vanished (From.Chunk reply) = false

abbrev pub FileVanished : List Event → Type 0
FileVanished own = IsTrue (list_any (λ (event : Event). has_vanished event.reply) own)

pub record GoneIsVanished (script : Script) (order : List Step) : Type 0 where
  pub told : (actor number : ℕ)
      → report_of (after script order) actor number ≡ Some Says.Gone
      → FileVanished (steps_of actor number (events script order))
  pub tells : (actor number : ℕ) (report : Report)
      → HasEnded stores_slot script order actor number report
      → FileVanished (steps_of actor number (events script order))
      → report ≡ Says.Gone
