-- What stands in the log of the metaserver's disks at the end of a run, and how much a restart reads of them.
use Rattle.std.specs.Prelude.{◌≡◌, ℕ, ◌+◌, ◌<◌, ◌≤◌, Bool, true, false, List, [], ◌∷◌, sum_by, fold, IsTrue}
use Rattle.std.specs.List.{list_all}
use Rattle.qfs_base.specs.declared.history.Step.{Step}
use Rattle.qfs_base.specs.declared.image.MetaImage.{MetaImage}
use Rattle.qfs_base.specs.declared.script.Script.{Script}
use Rattle.qfs_base.specs.Sizes.{LAST_U64}
use Rattle.qfs_model_meta.specs.Step.{opening}
use Rattle.qfs_model_world.specs.Events.{Event, events, world_behind}
use Rattle.qfs_model_world.specs.Headline.{is_sure}
use Rattle.qfs_model_world.specs.Replayed.{requests_in, was_logged, has_saved, has_restarted, logged_since_checkpoint}
use Rattle.qfs_model_meta.specs.Step.{Logged}

-- how long the image of a metaserver is on a disk, and the record of a request with its actor
module _ (image_length : MetaImage → ℕ) (record_length : Logged → ℕ) where
  -- how much a load reads at least: the image of the last checkpoint and the records logged since; and what restarts read
  pub record Reading : Type 0 where
    pub load : ℕ
    pub total : ℕ

  -- after a step: a checkpoint leaves its image alone, a logged request adds its record, and a restart reads it all
  unfoldable pub after_saving : Event → Reading → Bool → Reading
  after_saving event reading true = record reading { load = image_length (world_behind event).meta }
  after_saving event reading false = reading

  unfoldable pub after_logging : Event → Reading → Bool → Reading
  after_logging event reading true =
      record reading { load = reading.load + sum_by record_length (requests_in (event ∷ [])) }
  after_logging event reading false = reading

  unfoldable pub after_restarting : Reading → Bool → Reading
  after_restarting reading true = record reading { total = reading.total + reading.load }
  after_restarting reading false = reading

  unfoldable pub reading_after : Reading → Event → Reading
  reading_after reading event =
      after_restarting
      (after_logging event (after_saving event reading (has_saved event.reply)) (was_logged event))
      (has_restarted event.reply)

  -- how much the restarts of these steps read at least, from the opening on
  unfoldable pub restarts_read : Script → List Event → ℕ
  restarts_read script steps =
      (fold reading_after (record { load = image_length (opening script.servers); total = 0 }) steps).total

-- how many bytes each of the two disks handed out
pub record BytesRead : Type 0 where
  pub left : ℕ
  pub right : ℕ

-- where all steps at the metaserver came out done, the log has the records of the requests logged since the last checkpoint,
-- and the two disks together handed out at least what the restarts read; a count at its last value says nothing. `logged` is
-- what stands in the log, and `before` and `behind` are the disks' counts
pub record DisksStand (image_length : MetaImage → ℕ) (record_length : Logged → ℕ) (script : Script) (order : List Step) (logged : List Logged) (before behind : BytesRead) : Type 0 where
  pub records : IsTrue (list_all is_sure (events script order)) → logged ≡ logged_since_checkpoint (events script order)
  pub handed_out : IsTrue (list_all is_sure (events script order))
      → behind.left < LAST_U64 → behind.right < LAST_U64
      → before.left + before.right + restarts_read image_length record_length script (events script order)
      ≤ behind.left + behind.right
