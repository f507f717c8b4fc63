-- How a request was served: as it was decided, with the outcome that the reply shows.
use Rattle.std.specs.Prelude.{◌≡◌, ℕ}
use Rattle.qfs_base.specs.declared.history.Outcome.TheVariants as Ended
use Rattle.qfs_base.specs.declared.image.MetaImage.{MetaImage}
use Rattle.qfs_base.specs.declared.reply.MetaReply.{MetaReply}
use Rattle.qfs_base.specs.declared.request.MetaRequest.{MetaRequest}
use Rattle.qfs_base.specs.declared.rules.Rules.{Rules}
use Rattle.qfs_base.specs.Outcome.{meta_outcome}
use Rattle.qfs_base.specs.Shape.{Shape}
use Rattle.qfs_model_meta.specs.Decide.{decide}
use Rattle.qfs_model_meta.specs.Decision.{Decision}
use Rattle.qfs_model_meta.specs.Step.{end_step}

-- the reply isn't one of a log's disks that failed: the metaserver in memory has no disks
abbrev pub IsNoFailure : MetaReply → Type 0
IsNoFailure reply = meta_outcome reply ≡ Ended.Failed → ⊥

-- this decision took the metaserver from the first state to the second one, and gave this reply
pub record Serves (old : MetaImage) (decision : Decision) (new : MetaImage) (reply : MetaReply) : Type 0 where
  pub step : end_step old decision (meta_outcome reply) ≡ record { meta = new; reply = reply }
  pub never_fails : IsNoFailure reply

-- a request of an actor that wasn't dropped is served as it is decided, by each rules of this layout and term
abbrev pub ServesBy : Shape → ℕ → ℕ → MetaImage → MetaRequest → MetaImage → MetaReply → Type 0
ServesBy layout term actor old request new reply =
    (rules : Rules) → rules.layout ≡ layout → rules.term ≡ term → Serves old (decide rules actor old request) new reply
