-- A lease that has run out.
use Rattle.std.specs.Prelude.{◌≡◌, ℕ, List, [], ◌∷◌, ◌++◌, codes, map, drop, take}
use Rattle.qfs_base.specs.declared.command.Command.TheVariants as Does
use Rattle.qfs_base.specs.declared.history.Step.{Step}
use Rattle.qfs_base.specs.declared.reply.ChunkAnswer.TheVariants as Did
use Rattle.qfs_base.specs.declared.reply.MetaReply.TheVariants as Told
use Rattle.qfs_base.specs.declared.reply.NodeReply.{NodeReply}
use Rattle.qfs_base.specs.declared.reply.NodeReply.TheVariants as From
use Rattle.qfs_base.specs.declared.script.Script.{Script}
use Rattle.qfs_model_world.specs.Events.{Event, events}
use Rattle.qfs_model_rows.specs.Prints.{Prints}
use Rattle.qfs_model_rows.specs.Scripts.{path_a, get_all, put_one, no_byte, small_script, steps, history_of_put}

-- a copy is moved during a get, whose lease runs out: then the old copy is swept, and the get reads around it
abbrev pub lease_runs_out : Script
lease_runs_out = record (small_script 10 (
    (put_one ∷ get_all path_a ∷ [])
    ∷ (Does.Move path_a 0 0 10 ∷ Does.Sweep 5 ∷ Does.Tick ∷ Does.Sweep 5 ∷ [])
    ∷ [])) { term = 1 }

abbrev pub run_out_order : List Step
run_out_order = steps 1 21 ++ steps 2 10 ++ steps 1 8

-- what the nodes answered in the steps from one on, up to another
abbrev pub answers_in : Script → List Step → ℕ → ℕ → List NodeReply
answers_in script order from count = map (λ (event : Event). event.reply) (take count (drop from (events script order)))

-- the first fetch finds no copy, and the lease that the get gives back is no more
pub record LeaseRunsOut : Type 0 where
  pub prints : Prints lease_runs_out run_out_order
      (codes "1 1 at 1 stored 1"
      ∷ codes "1 2 at 2 read 1 hex 01"
      ∷ codes "2 1 moved 1 0 0 from 1 to 10 version 2"
      ∷ codes "2 2 swept 0"
      ∷ codes "2 3 clock 1"
      ∷ codes "2 4 swept 1"
      ∷ history_of_put
      ++ codes "order 1x21 2x10 1x8"
      ∷ [])
  pub fetched : answers_in lease_runs_out run_out_order 31 1
      ≡ From.Chunk (record { answer = Did.Absent; room = no_byte }) ∷ []
  pub released : answers_in lease_runs_out run_out_order 38 1 ≡ From.Meta Told.Gone ∷ []
