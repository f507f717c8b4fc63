-- What is decided on each request that is served, and the step that it makes.
use Rattle.std.proofs.Common.{◌≡◌, ℕ, nat_lt, nat_le, Bool, true, false, Some, None, refl, ap, ◌∙◌}
use Rattle.qfs_base.specs.declared.history.Outcome.{Outcome}
use Rattle.qfs_base.specs.declared.image.MetaImage.{MetaImage}
use Rattle.qfs_base.specs.declared.reply.MetaReply.{MetaReply}
use Rattle.qfs_base.specs.declared.reply.MetaReply.TheVariants as Told
use Rattle.qfs_base.specs.declared.request.MetaRequest.{MetaRequest}
use Rattle.qfs_base.specs.declared.request.MetaRequest.TheVariants as Ask
use Rattle.qfs_base.specs.NameTree.{PathNames}
use Rattle.qfs_base.specs.Outcome.{meta_outcome}
use Rattle.qfs_base.specs.declared.rules.Rules.{Rules}
use Rattle.qfs_base.specs.Sizes.{SLOTS, MOST_FILE_BYTES}
use Rattle.qfs_model_meta.specs.Decide.{decide, decide_request}
use Rattle.qfs_model_meta.specs.Decision.{Tells, unless}
use Rattle.qfs_model_meta.specs.Dropped.{dropped_at}
use Rattle.qfs_model_meta.specs.GetRequests.{decide_open, decide_release}
use Rattle.qfs_model_meta.specs.PutRequests.{decide_create, decide_grant, decide_close, decide_abort}
use Rattle.qfs_model_meta.specs.Range.{in_range, is_slot_number}
use Rattle.qfs_model_meta.specs.Step.{meta_step, serve_unless_dropped, stays, end_step}
use Rattle.qfs_meta.specs.Serving.{Serves}

module _ (rules : Rules) (actor : ℕ) (m : MetaImage) where
  pub decide-create : (path : PathNames) (command len : ℕ) → nat_le len MOST_FILE_BYTES ≡ true →
      decide rules actor m (Ask.Create path command len) ≡ decide_create actor path command len m
  unfolding decide decide_request in_range unless
  decide-create path command len fits = ap (λ b. unless b Told.Nothing (decide_create actor path command len m)) fits

  pub decide-too_long : (path : PathNames) (command len : ℕ) → nat_le len MOST_FILE_BYTES ≡ false →
      decide rules actor m (Ask.Create path command len) ≡ Tells Told.Nothing
  unfolding decide decide_request in_range unless
  decide-too_long path command len beyond = ap (λ b. unless b Told.Nothing (decide_create actor path command len m)) beyond

  pub decide-grant : (file index slot : ℕ) (again : Bool) → nat_lt slot SLOTS ≡ true →
      decide rules actor m (Ask.Grant file index slot again) ≡ decide_grant rules.layout actor (record { file = file; index = index }) slot again m
  unfolding decide decide_request in_range is_slot_number unless
  decide-grant file index slot again within =
      ap (λ b. unless b Told.Nothing (decide_grant rules.layout actor (record { file = file; index = index }) slot again m)) within

  pub decide-no_slot : (file index slot : ℕ) (again : Bool) → nat_lt slot SLOTS ≡ false →
      decide rules actor m (Ask.Grant file index slot again) ≡ Tells Told.Nothing
  unfolding decide decide_request in_range is_slot_number unless
  decide-no_slot file index slot again beyond =
      ap (λ b. unless b Told.Nothing (decide_grant rules.layout actor (record { file = file; index = index }) slot again m)) beyond

  pub decide-close : (file : ℕ) → decide rules actor m (Ask.Close file) ≡ decide_close rules.layout actor file m
  unfolding decide decide_request in_range unless
  decide-close file = refl

  pub decide-abort : (file : ℕ) → decide rules actor m (Ask.Abort file) ≡ decide_abort actor file m
  unfolding decide decide_request in_range unless
  decide-abort file = refl

  pub decide-open : (path : PathNames) → decide rules actor m (Ask.OpenFile path) ≡ decide_open rules.layout rules.term actor path m
  unfolding decide decide_request in_range unless
  decide-open path = refl

  pub decide-release : (lease : ℕ) → decide rules actor m (Ask.Release lease) ≡ decide_release actor lease m
  unfolding decide decide_request in_range unless
  decide-release lease = refl

  -- an actor that was dropped is told so
  pub step-dropped : (request : MetaRequest) (outcome : Outcome) (turn : ℕ) → dropped_at actor m.dropped ≡ Some turn →
      meta_step rules actor request outcome m ≡ record { meta = m; reply = Told.Dropped turn }
  unfolding meta_step serve_unless_dropped stays
  step-dropped request outcome turn dropped =
      ap (serve_unless_dropped m (end_step m (decide rules actor m request) outcome)) dropped

  -- another is served as it was decided
  pub step-served : (request : MetaRequest) (new : MetaImage) (reply : MetaReply) → dropped_at actor m.dropped ≡ None →
      Serves m (decide rules actor m request) new reply →
      meta_step rules actor request (meta_outcome reply) m ≡ record { meta = new; reply = reply }
  unfolding meta_step serve_unless_dropped
  step-served request new reply stands served =
      ap (serve_unless_dropped m (end_step m (decide rules actor m request) (meta_outcome reply))) stands ∙ served.step
