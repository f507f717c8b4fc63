-- What is left of a put at each of its stages.
use Rattle.std.specs.Prelude.{ℕ, ◌+◌, ◌<◌, Bool, true, false, List, [], length, ⊤}
use Rattle.qfs_base.specs.Layout.{blocks_of}
use Rattle.qfs_base.specs.Recipe.{bytes_of}
use Rattle.qfs_base.specs.Sizes.{SLOTS}
use Rattle.qfs_base.specs.declared.chunk.Copy.{Copy}
use Rattle.qfs_base.specs.declared.command.Reply.TheVariants as Report
use Rattle.qfs_base.specs.declared.reply.Granted.{Granted}
use Rattle.qfs_base.specs.declared.request.MetaRequest.TheVariants as Ask
use Rattle.qfs_model_actor.specs.Ask.{ask}
use Rattle.qfs_model_actor.specs.Hold.{nothing, unclosed, end_with}
use Rattle.qfs_model_actor.specs.Put.{MOST_GRANTS, aborted, store, store_slot, put_slots_from, close_file, put_work}
use Rattle.qfs_model_actor.specs.Work.{Report, Work, ends}
use Rattle.qfs_machine.specs.Endings.{report_of_ending}
use Rattle.qfs_writer.specs.declared.stage.PutEnding.{PutEnding}
use Rattle.qfs_writer.specs.declared.stage.PutEnding.TheVariants as With
use Rattle.qfs_writer.specs.declared.stage.Put.{Put}
use Rattle.qfs_writer.specs.declared.stage.PutSlot.{PutSlot}
use Rattle.qfs_writer.specs.declared.stage.Stage.{Stage}
use Rattle.qfs_writer.specs.declared.stage.Stage.TheVariants as At

-- the bytes that are put
unfoldable pub bytes_put : Put → List ℕ
bytes_put put = bytes_of put.recipe

-- the report of a put that ends so
unfoldable pub report_of_put : PutEnding → Report
report_of_put (With.Stored place len) = Report.Stored place len
report_of_put (With.NoServer place index slot) = Report.PutNoServer place index slot
report_of_put (With.Refused place refusal) = Report.Refused place refusal
report_of_put (With.Common ending) = report_of_ending ending

-- a slot that has had no server yet
abbrev pub fresh_slot : ℕ → ℕ → ℕ → PutSlot
fresh_slot file index slot =
    record { file = file; index = index; slot = slot; grants = MOST_GRANTS; again = false }

-- a grant of a copy
unfoldable pub grant_of : PutSlot → Copy → Granted
grant_of at copy =
    record {
      block = record { file = at.file; index = at.index };
      slot = at.slot;
      version = copy.version;
      server = copy.server;
      life = copy.life;
      lease = 0;
      sources = [];
      rows = 0;
    }

-- what is left of a put behind a slot
unfoldable pub rest_behind : Put → PutSlot → Work
rest_behind put at = put_slots_from put.layout (bytes_put put) at.file at.index (at.slot + 1)

-- what is left of a put that asks for a server, `again` or for the first time, and may take so many
-- grants
unfoldable pub rest_of_grant : Put → PutSlot → ℕ → Bool → Work
rest_of_grant put at grants again =
    store_slot grants again put.layout (bytes_put put) at.file at.index at.slot (rest_behind put at)

-- what is left of a put
unfoldable pub rest_of_put : Put → Stage → Work
rest_of_put put At.Creating = put_work put.layout put.number put.path (bytes_put put)
rest_of_put put (At.Granting at) = rest_of_grant put at at.grants at.again
rest_of_put put (At.Storing at copy) =
    store put.layout (bytes_put put) at.file at.index at.slot (rest_behind put at)
    (rest_of_grant put at at.grants true) (grant_of at copy)
rest_of_put put (At.Closing file) = close_file (length (bytes_put put)) file
rest_of_put put (At.Aborting file index slot) = ask nothing (Ask.Abort file) (aborted index slot)
rest_of_put put (At.GivingUp file ending) = end_with (unclosed file) (report_of_ending ending)
rest_of_put put (At.Ended ending) = ends (report_of_put ending)

-- the slot is one of a block of the file
pub record IsPutSlot (put : Put) (at : PutSlot) : Type 0 where
  pub block : at.index < blocks_of put.layout.s put.layout.r (length (bytes_put put))
  pub slot : at.slot < SLOTS

-- what holds at each stage
abbrev pub IsPutStage : Put → Stage → Type 0
IsPutStage put (At.Granting at) = IsPutSlot put at
IsPutStage put (At.Storing at copy) = IsPutSlot put at
IsPutStage put stage = ⊤
