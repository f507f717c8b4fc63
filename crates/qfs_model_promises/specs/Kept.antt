-- How the sound world is carried along an order: what holds behind it holds behind one step more.
use Rattle.std.specs.Prelude.{◌++◌, [], ◌∷◌, ℕ, List}
use Rattle.qfs_base.specs.declared.history.Step.{Step}
use Rattle.qfs_base.specs.declared.script.Script.{Script}
use Rattle.qfs_model_meta.specs.Grammar.{IsImage}
use Rattle.qfs_model_meta.specs.Sound.{OneServerEach}
use Rattle.qfs_model_world.specs.Events.{Event, events, past_of}
use Rattle.qfs_model_world.specs.Made.{made}
use Rattle.qfs_model_world.specs.World.{World, after}
use Rattle.qfs_model_promises.specs.Along.{GoesAlong, LivesAreKnown}
use Rattle.qfs_model_promises.specs.HeardSteps.{HeardAreSteps}
use Rattle.qfs_model_promises.specs.Run.{IsRun}
use Rattle.qfs_model_promises.specs.SoundWorld.{IsSoundAt, LivesAgree, TreeTellsHistory, RightCopies, GrantedOnceIn}

-- what holds behind these steps of a script, of the world and the bytes of files
abbrev pub Statement : Type 1
Statement = Script → (ℕ → List ℕ) → List Event → World → Type 0

-- a statement of an order
abbrev pub Behind : Statement → Script → List Step → Type 0
Behind P script order =
    P script (made script (events script order)) (events script order) (after script order)

-- it holds at the start of each script, and behind one step more of a run
pub record IsKept (P : Statement) : Type 0 where
  pub starts : (script : Script) → IsRun script [] → Behind P script []
  pub goes_on : (script : Script) (order : List Step) (step : Step)
      → IsRun script (order ++ step ∷ []) → Behind P script order → Behind P script (order ++ step ∷ [])

-- the parts that every step keeps by themselves: lives, one server a copy, the tree is the history; with the grammar of the
-- state, what actors heard, and the lives of the copies in the state
pub record FirstParts (script : Script) (bytes : ℕ → List ℕ) (steps : List Event) (world : World) : Type 0 where
  pub heard : HeardAreSteps world steps
  pub image : IsImage world.meta
  pub known_lives : LivesAreKnown world.meta
  pub lives : LivesAgree world (past_of steps)
  pub one_server : OneServerEach world.meta
  pub tree : TreeTellsHistory script world steps

-- and with these, right copies and what was granted once
pub record SecondParts (script : Script) (bytes : ℕ → List ℕ) (steps : List Event) (world : World) : Type 0 where
  pub first : FirstParts script bytes steps world
  pub right_copies : RightCopies world bytes
  pub granted_once : GrantedOnceIn world (past_of steps)

-- all parts
pub record AllParts (script : Script) (bytes : ℕ → List ℕ) (steps : List Event) (world : World) : Type 0 where
  pub along : GoesAlong world steps
  pub sound : IsSoundAt script bytes steps world

abbrev pub FirstPartsAreKept : Type 0
FirstPartsAreKept = IsKept FirstParts

abbrev pub SecondPartsAreKept : Type 0
SecondPartsAreKept = IsKept SecondParts

abbrev pub AllPartsAreKept : Type 0
AllPartsAreKept = IsKept AllParts
