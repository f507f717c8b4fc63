-- What becomes of a server's answer at each stage of a command on it.
use Rattle.std.specs.Prelude.{ℕ, ⊤}
use Rattle.qfs_base.specs.declared.reply.ChunkAnswer.{ChunkAnswer}
use Rattle.qfs_base.specs.declared.reply.MetaReply.{MetaReply}
use Rattle.qfs_machine.specs.declared.ending.Ending.TheVariants as By
use Rattle.qfs_model_actor.specs.Hold.{unnamed}
use Rattle.qfs_model_actor.specs.Servers.{after_stop, after_inventory, after_start, after_wipe}
use Rattle.qfs_model_actor.specs.Servers.{after_rest, after_upgrade}
use Rattle.qfs_model_actor.specs.Servers.{after_bye, after_hello, after_hibernate}
use Rattle.qfs_model_actor.specs.Work.{Work}
use Rattle.qfs_hiber.specs.Rest.{report_of_up}
use Rattle.qfs_hiber.specs.declared.ending.ChangeEnding.TheVariants as With
use Rattle.qfs_hiber.specs.declared.stage.Stage.{Stage}
use Rattle.qfs_hiber.specs.declared.stage.Stage.TheVariants as At

-- the stages whose request goes to the metaserver, and to the server
abbrev pub AsksMeta : Stage → Type 0
AsksMeta At.Parting = ⊤
AsksMeta (At.Telling up life keys) = ⊤
AsksMeta (At.Announcing ticks) = ⊤
AsksMeta stage = ⊥

abbrev pub AsksServer : Stage → Type 0
AsksServer At.Parting = ⊥
AsksServer (At.Telling up life keys) = ⊥
AsksServer (At.Announcing ticks) = ⊥
AsksServer (At.Ended ending) = ⊥
AsksServer stage = ⊤

-- what becomes of an answer of the metaserver that doesn't end every command, and of such an answer
-- of the server
unfoldable pub after_answer : ℕ → Stage → MetaReply → Work
after_answer server At.Parting = after_bye
after_answer server (At.Telling up life keys) = after_hello (report_of_up up)
after_answer server (At.Announcing ticks) = after_hibernate server
after_answer server stage = λ answer. unnamed

unfoldable pub after_served : ℕ → Stage → ChunkAnswer → Work
after_served server At.Stopping = after_stop server
after_served server At.Starting = after_start server
after_served server At.Wiping = after_wipe server
after_served server (At.Listing up) = after_inventory server (report_of_up up)
after_served server (At.Resting until) = after_rest until
after_served server At.Upgrading = after_upgrade
after_served server stage = λ answer. unnamed

-- the stage behind a reply of a node that wasn't asked
abbrev pub strange_stage : Stage → Stage
strange_stage (At.Ended ending) = At.Ended ending
strange_stage stage = At.Ended (With.Common By.Unnamed)
