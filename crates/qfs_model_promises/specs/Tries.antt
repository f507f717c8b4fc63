-- A get needs no more attempts than its script allows: an attempt that finds too few copies of a block that was held at its
-- opening had something taken away from it, which no other attempt can blame.
use Rattle.std.specs.Prelude.{◌≡◌, ℕ, ◌≤◌, ◌-◌, ◌+◌, ◌==◌, Bool, true, false, List, take, drop, Option, Some, IsTrue}
use Rattle.std.specs.List.{list_any}
use Rattle.qfs_base.specs.NameTree.{PathNames}
use Rattle.qfs_base.specs.Rules.{tries_of}
use Rattle.qfs_base.specs.declared.command.Command.TheVariants as Does
use Rattle.qfs_base.specs.declared.command.FileCommand.TheVariants as File
use Rattle.qfs_base.specs.declared.command.Range.{Range}
use Rattle.qfs_base.specs.declared.history.Step.{Step}
use Rattle.qfs_base.specs.declared.reply.ChunkAnswer.{ChunkAnswer}
use Rattle.qfs_base.specs.declared.reply.ChunkAnswer.TheVariants as Did
use Rattle.qfs_base.specs.declared.reply.MetaReply.{MetaReply}
use Rattle.qfs_base.specs.declared.reply.MetaReply.TheVariants as Told
use Rattle.qfs_base.specs.declared.reply.NodeReply.{NodeReply}
use Rattle.qfs_base.specs.declared.reply.NodeReply.TheVariants as From
use Rattle.qfs_base.specs.declared.reply.Opened.{Opened}
use Rattle.qfs_base.specs.declared.script.Script.{Script}
use Rattle.qfs_model_world.specs.Events.{Event, events, steps_of}
use Rattle.qfs_model_world.specs.EveryGet.{IsThereAt}
use Rattle.qfs_model_world.specs.HeldBlock.{is_held, steps_within}
use Rattle.qfs_model_world.specs.Openings.{IsOpening}
use Rattle.qfs_model_world.specs.Puts.{command_of}
use Rattle.qfs_model_promises.specs.TooFew.{finds_too_few, attempts_made, wanted}

-- whether an answer tells of what takes copies away from readers: a server was stopped or emptied, or the clock went on
unfoldable pub takes_server : ChunkAnswer → Bool
takes_server Did.Stopped = true
takes_server (Did.Wiped life) = true
takes_server answer = false

unfoldable pub takes_lease : MetaReply → Bool
takes_lease (Told.Clock now) = true
takes_lease reply = false

unfoldable pub takes_away : NodeReply → Bool
takes_away (From.Chunk reply) = takes_server reply.answer
takes_away (From.Meta reply) = takes_lease reply

-- the steps of all actors behind step i and before step j
unfoldable pub steps_between : ℕ → ℕ → List Event → List Event
steps_between i j steps = take (j - (i + 1)) (drop (i + 1) steps)

module _ (script : Script) (order : List Step) where
  -- an attempt of a get, of an actor that isn't dropped before its release, finds too few copies of a block of its range that
  -- is held in it: then something was taken away meanwhile
  abbrev pub AttemptsFailForCause : Type 0
  AttemptsFailForCause =
      (actor number i j index : ℕ) (o : Opened) (path : PathNames) (range : Option Range)
      → command_of script actor number ≡ Some (Does.File (File.Get path range))
      → IsOpening (events script order) actor number i j o
      → IsThereAt (events script order) actor j
      → IsTrue (list_any (λ k. k == index) (wanted script order actor number range o))
      → IsTrue (is_held (events script order) actor number i j o index)
      → IsTrue (finds_too_few o (steps_within actor number i j (events script order)) index)
      → IsTrue (list_any (λ (event : Event). takes_away event.reply) (steps_between i j (events script order)))

  -- a get makes no more attempts than it may
  abbrev pub AttemptsAreFew : Type 0
  AttemptsAreFew =
      (actor number : ℕ) (path : PathNames) (range : Option Range)
      → command_of script actor number ≡ Some (Does.File (File.Get path range))
      → attempts_made (steps_of actor number (events script order)) ≤ tries_of script

-- both. So a get whose blocks are held in each attempt reads in the last one, as every get does that is served well
pub record TriesSuffice (script : Script) (order : List Step) : Type 0 where
  pub cause : AttemptsFailForCause script order
  pub few : AttemptsAreFew script order
