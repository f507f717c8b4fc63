-- The metaserver as its callers see it, the requests that it serves so far, and its step.
use Rattle.std.specs.Prelude.{◌≡◌, ℕ, Bool, true, false, None}
use Rattle.qfs_base.specs.declared.image.MetaImage.{MetaImage}
use Rattle.qfs_base.specs.declared.reply.MetaReply.{MetaReply}
use Rattle.qfs_base.specs.declared.reply.MetaReply.TheVariants.{NoMemory}
use Rattle.qfs_base.specs.declared.request.MetaRequest.{MetaRequest}
use Rattle.qfs_base.specs.declared.request.MetaRequest.TheVariants as Ask
use Rattle.qfs_base.specs.declared.rules.Rules.{Rules}
use Rattle.qfs_base.specs.Outcome.{meta_outcome}
use Rattle.qfs_base.specs.Shape.{Shape}
use Rattle.qfs_model_meta.specs.Dropped.{dropped_at}
use Rattle.qfs_model_meta.specs.Step.{meta_step, opening}

-- the layout of all files, the ticks that a lease lives (0 where it lasts), and the state
pub record Metaserver : Type 0 where
  pub layout : Shape
  pub term : ℕ
  pub image : MetaImage

-- the metaserver as every run begins
abbrev pub first_meta : Shape → ℕ → ℕ → Metaserver
first_meta layout term servers = record { layout = layout; term = term; image = opening servers }

-- a script has the rules that a metaserver goes by. How often a get may open its file is no matter of
-- the metaserver
pub record GoesBy (rules : Rules) (meta : Metaserver) : Type 0 where
  pub layout : rules.layout ≡ meta.layout
  pub term : rules.term ≡ meta.term

-- a request took the metaserver from the old state to the new one, by each rules that it goes by, with
-- this reply and the outcome that the reply shows
abbrev pub Steps : ℕ → Metaserver → MetaRequest → MetaReply → Metaserver → Type 0
Steps actor old request reply new =
    (rules : Rules) → GoesBy rules old
    → meta_step rules actor request (meta_outcome reply) old.image ≡ record { meta = new.image; reply = reply }

-- the requests of puts and gets
abbrev pub is_built : MetaRequest → Bool
is_built (Ask.Create path command len) = true
is_built (Ask.Grant file index slot again) = true
is_built (Ask.Close file) = true
is_built (Ask.Abort file) = true
is_built (Ask.OpenFile path) = true
is_built (Ask.Release lease) = true
is_built _ = false

-- a request that isn't built yet finds no memory, whoever asks it but a dropped actor
abbrev pub IsPutOff : ℕ → Metaserver → MetaRequest → MetaReply → Type 0
IsPutOff actor old request reply =
    is_built request ≡ false → dropped_at actor old.image.dropped ≡ None → reply ≡ NoMemory
