-- One step of the metaserver.
use Rattle.std.specs.Prelude.{ℕ, Bool, true, false, cond, [], replicate, Option, Some, None}
use Rattle.qfs_base.specs.declared.history.Outcome.{Outcome}
use Rattle.qfs_base.specs.declared.history.Outcome.TheVariants as Ended
use Rattle.qfs_base.specs.declared.image.MetaImage.{MetaImage}
use Rattle.qfs_base.specs.declared.image.ServerView.{ServerView}
use Rattle.qfs_base.specs.declared.reply.MetaReply.{MetaReply}
use Rattle.qfs_base.specs.declared.reply.MetaReply.TheVariants as Told
use Rattle.qfs_base.specs.declared.request.MetaRequest.{MetaRequest}
use Rattle.qfs_base.specs.declared.rules.Rules.{Rules}
use Rattle.qfs_base.specs.Sizes.{LAST_U64}
use Rattle.qfs_model_meta.specs.Apply.{apply_all}
use Rattle.qfs_model_meta.specs.Counters.{risen, counters_fit}
use Rattle.qfs_model_meta.specs.Decide.{decide}
use Rattle.qfs_model_meta.specs.Decision.{Decision, Tells, UsesDisks, Makes}
use Rattle.qfs_model_meta.specs.Dropped.{dropped_at}

-- the metaserver after a step, and what it answered
pub record Served : Type 0 where
  pub meta : MetaImage
  pub reply : MetaReply

-- the state stays
unfoldable pub stays : MetaImage → MetaReply → Served
stays m reply = record { meta = m; reply = reply }

-- the turn rises with each request that is logged
unfoldable pub next_turn : MetaImage → MetaImage
next_turn m = record m { turn = risen LAST_U64 m.turn }

-- the step is taken, unless a number would be its type's last one
unfoldable pub take_step : MetaImage → MetaImage → MetaReply → Bool → Served
take_step m next reply true = record { meta = next_turn next; reply = reply }
take_step m next reply false = stays m Told.NoMemory

-- what is decided is done
unfoldable pub carry_out : MetaImage → Decision → Served
carry_out m (Tells reply) = stays m reply
carry_out m (UsesDisks reply) = stays m reply
carry_out m (Makes changes reply) =
    let next : MetaImage = apply_all changes m in
    take_step m next reply (counters_fit next)

-- the log's disks fail, where the step would use them
unfoldable pub fail_disks : MetaImage → Decision → Served
fail_disks m (Tells reply) = stays m reply
fail_disks m (UsesDisks reply) = stays m Told.LogFault
fail_disks m (Makes changes reply) =
    stays m (cond (counters_fit (apply_all changes m)) Told.LogFault Told.NoMemory)

-- a decision with the outcome of its step
unfoldable pub end_step : MetaImage → Decision → Outcome → Served
end_step m decision Ended.Done = carry_out m decision
end_step m decision Ended.Failed = fail_disks m decision
end_step m decision Ended.NoMemory = stays m Told.NoMemory

-- an actor that was dropped is told so, whatever it asks
unfoldable pub serve_unless_dropped : MetaImage → Served → Option ℕ → Served
serve_unless_dropped m served None = served
serve_unless_dropped m served (Some turn) = stays m (Told.Dropped turn)

-- the step of a request
unfoldable pub meta_step : Rules → ℕ → MetaRequest → Outcome → MetaImage → Served
meta_step rules actor request outcome m =
    serve_unless_dropped m (end_step m (decide rules actor m request) outcome) (dropped_at actor m.dropped)

-- a server as every run begins
unfoldable pub first_server : ServerView
first_server = record { up = true; leaving = false; life = 1; until = 0 }

-- the metaserver of so many servers as every run begins
unfoldable pub opening : ℕ → MetaImage
opening servers =
    record {
      turn = 0;
      clock = 0;
      next_file = 1;
      next_lease = 1;
      next_condemned = 1;
      servers = replicate servers first_server;
      tree = [];
      slots = [];
      leases = [];
      condemned = [];
      dropped = [];
      history = [];
    }

-- a request to the metaserver, with the actor who asked it
abbrev pub Logged : Type 0
Logged = ℕ × MetaRequest
