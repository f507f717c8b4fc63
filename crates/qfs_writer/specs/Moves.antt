-- What becomes of a node's answer at each stage of a put.
use Rattle.std.specs.Prelude.{ℕ, zero, suc, true, length, ⊤}
use Rattle.qfs_base.specs.declared.reply.ChunkAnswer.{ChunkAnswer}
use Rattle.qfs_base.specs.declared.reply.Granted.{Granted}
use Rattle.qfs_base.specs.declared.reply.MetaReply.{MetaReply}
use Rattle.qfs_base.specs.declared.reply.NodeReply.{NodeReply}
use Rattle.qfs_model_actor.specs.Ask.{on_served, after_store}
use Rattle.qfs_model_actor.specs.Hold.{Hold, nothing, unclosed, unnamed, was_given_back}
use Rattle.qfs_model_actor.specs.Put.{aborted, chosen, closed, created, store}
use Rattle.qfs_model_actor.specs.Work.{Work, ends, goes_on}
use Rattle.qfs_machine.specs.Endings.{report_of_ending}
use Rattle.qfs_writer.specs.declared.stage.Put.{Put}
use Rattle.qfs_writer.specs.declared.stage.PutSlot.{PutSlot}
use Rattle.qfs_writer.specs.declared.stage.Stage.{Stage}
use Rattle.qfs_writer.specs.declared.stage.Stage.TheVariants as At
use Rattle.qfs_writer.specs.Rest.{bytes_put, rest_behind, rest_of_grant, rest_of_put}

-- what becomes of an answer to the request that makes the file
abbrev pub after_create : Put → MetaReply → Work
after_create put answer = created put.layout (bytes_put put) answer

-- what comes behind a grant: the slot is stored, unless the put has taken as many grants as it may
unfoldable pub behind_grant : Put → PutSlot → ℕ → Granted → Work
behind_grant put at zero g = unnamed
behind_grant put at (suc grants) g =
    store put.layout (bytes_put put) at.file at.index at.slot (rest_behind put at)
    (rest_of_grant put at grants true) g

-- what becomes of an answer to the request for a server
unfoldable pub on_grant : Put → PutSlot → MetaReply → Work
on_grant put at answer = chosen at.file at.index at.slot (behind_grant put at at.grants) answer

-- what becomes of a server's answer to a slot that is stored there, which doesn't end every
-- command, and of any answer
unfoldable pub behind_store : Put → PutSlot → ChunkAnswer → Work
behind_store put at answer =
    after_store (rest_behind put at) (λ cause. rest_of_grant put at at.grants true) answer

unfoldable pub on_store : Put → PutSlot → ChunkAnswer → Work
on_store put at answer = on_served (unclosed at.file) (behind_store put at) answer

-- what is given back where an answer ends the put
unfoldable pub hold_at : Stage → Hold
hold_at (At.Granting at) = unclosed at.file
hold_at (At.Closing file) = unclosed file
hold_at stage = nothing

-- what becomes of an answer of the metaserver that doesn't end every command
unfoldable pub on_answer_at : Put → Stage → MetaReply → Work
on_answer_at put At.Creating answer = after_create put answer
on_answer_at put (At.Granting at) answer = on_grant put at answer
on_answer_at put (At.Closing file) answer = closed (length (bytes_put put)) answer
on_answer_at put (At.Aborting file index slot) answer = aborted index slot answer
on_answer_at put (At.GivingUp file ending) answer =
    was_given_back (ends (report_of_ending ending)) answer
on_answer_at put stage answer = unnamed

-- what is left of a put behind a node's reply
abbrev pub rest_after : Put → Stage → NodeReply → Work
rest_after put stage reply = goes_on (rest_of_put put stage) reply

-- the stages whose request goes to the metaserver
abbrev pub AsksMeta : Stage → Type 0
AsksMeta (At.Storing at copy) = ⊥
AsksMeta (At.Ended ending) = ⊥
AsksMeta stage = ⊤
