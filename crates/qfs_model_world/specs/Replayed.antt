-- The metaserver after a restart, and what its two disks spell at the end of a run.
use Rattle.std.specs.Prelude.{◌≡◌, ℕ, ◌⊎◌, ◌||◌, nat_lt, not, Bool, true, false, List, [], ◌∷◌, ◌++◌, filter, filter_map, fold, Option, Some, None}
use Rattle.qfs_base.specs.Rules.{rules_of}
use Rattle.qfs_base.specs.Table.{Each}
use Rattle.qfs_base.specs.declared.history.Outcome.TheVariants as Ended
use Rattle.qfs_base.specs.declared.history.Step.{Step}
use Rattle.qfs_base.specs.declared.image.MetaImage.{MetaImage}
use Rattle.qfs_base.specs.declared.reply.MetaReply.{MetaReply}
use Rattle.qfs_base.specs.declared.reply.MetaReply.TheVariants as Told
use Rattle.qfs_base.specs.declared.reply.NodeReply.{NodeReply}
use Rattle.qfs_base.specs.declared.reply.NodeReply.TheVariants as From
use Rattle.qfs_base.specs.declared.request.NodeRequest.{NodeRequest}
use Rattle.qfs_base.specs.declared.request.NodeRequest.TheVariants as To
use Rattle.qfs_base.specs.declared.rules.Rules.{Rules}
use Rattle.qfs_base.specs.declared.script.Script.{Script}
use Rattle.qfs_model_meta.specs.Step.{Logged, meta_step}
use Rattle.qfs_model_text.specs.Order.{same_outcome}
use Rattle.qfs_model_world.specs.Events.{Event, events, world_behind}
use Rattle.qfs_model_world.specs.World.{after}

-- whether the metaserver logged a request in a step: then its turn rose
unfoldable pub was_logged : Event → Bool
was_logged event = nat_lt event.before.meta.turn (world_behind event).meta.turn

-- whether a step saved the metaserver, or restarted it
unfoldable pub says_saved : MetaReply → Bool
says_saved (Told.Saved turn) = true
says_saved reply = false

unfoldable pub says_restarted : MetaReply → Bool
says_restarted (Told.Restarted turn) = true
says_restarted reply = false

unfoldable pub has_saved : NodeReply → Bool
has_saved (From.Meta reply) = says_saved reply
has_saved (From.Chunk reply) = false

unfoldable pub has_restarted : NodeReply → Bool
has_restarted (From.Meta reply) = says_restarted reply
has_restarted (From.Chunk reply) = false

-- the request of a step to the metaserver, with its actor
unfoldable pub meta_request : ℕ → NodeRequest → Option Logged
meta_request actor (To.Meta request) = Some (actor, request)
meta_request actor (To.Chunk server request) = None

unfoldable pub requests_in : List Event → List Logged
requests_in steps = filter_map (λ (event : Event). meta_request event.actor event.request) steps

-- the steps behind the last one that passes the test
unfoldable pub behind_if : List Event → Event → Bool → List Event
behind_if behind event true = []
behind_if behind event false = behind ++ event ∷ []

unfoldable pub behind_last : (Event → Bool) → List Event → List Event
behind_last test steps = fold (λ behind event. behind_if behind event (test event)) [] steps

-- the requests that were logged since the last checkpoint, or since the start
unfoldable pub logged_since_checkpoint : List Event → List Logged
logged_since_checkpoint steps =
    requests_in (filter was_logged (behind_last (λ (event : Event). has_saved event.reply) steps))

-- whether a step settles the log: a request was logged, or a checkpoint or restart succeeded
unfoldable pub settles : Event → Bool
settles event = was_logged event || has_saved event.reply || has_restarted event.reply

-- the requests to the metaserver that failed or found no memory since the log was settled: the disks may spell one of them
unfoldable pub uncertain : List Event → List Logged
uncertain steps =
    requests_in (filter (λ (event : Event). not (same_outcome event.outcome Ended.Done)) (behind_last settles steps))

-- the disks spell the metaserver, or the metaserver followed by one of these requests
abbrev pub SpellsWithOne : Rules → Option MetaImage → MetaImage → List Logged → Type 0
SpellsWithOne rules spelled m [] = ⊥
SpellsWithOne rules spelled m (request ∷ requests) =
    (spelled ≡ Some (meta_step rules request.0 request.1 Ended.Done m).meta)
    ⊎ SpellsWithOne rules spelled m requests

abbrev pub Spells : Rules → Option MetaImage → MetaImage → List Logged → Type 0
Spells rules spelled m requests = (spelled ≡ Some m) ⊎ SpellsWithOne rules spelled m requests

-- a restart leaves the metaserver as it was
abbrev pub KeepsAtRestart : Event → Type 0
KeepsAtRestart event = has_restarted event.reply ≡ true → (world_behind event).meta ≡ event.before.meta

-- the replayed metaserver is the one that ran, where the disks spell this in the end
pub record Replayed (script : Script) (order : List Step) (spelled : Option MetaImage) : Type 0 where
  pub restarts : Each KeepsAtRestart (events script order)
  pub disks : Spells (rules_of script) spelled (after script order).meta (uncertain (events script order))
