-- Which orders of steps a script allows.
use Rattle.std.specs.Prelude.{ℕ, ◌==◌, ◌&&◌, Bool, true, false, not, List, [], ◌∷◌, length, take, drop, map, filter, Option, Some, None}
use Rattle.std.specs.List.{list_any}
use Rattle.qfs_base.specs.declared.command.Command.{Command}
use Rattle.qfs_base.specs.Outcome.{outcome_of}
use Rattle.qfs_base.specs.declared.history.Outcome.{Outcome}
use Rattle.qfs_base.specs.declared.history.Outcome.TheVariants as Ended
use Rattle.qfs_base.specs.declared.history.Step.{Step}
use Rattle.qfs_base.specs.declared.request.ChunkRequest.{ChunkRequest}
use Rattle.qfs_base.specs.declared.request.ChunkRequest.TheVariants as Serve
use Rattle.qfs_base.specs.declared.request.MetaRequest.{MetaRequest}
use Rattle.qfs_base.specs.declared.request.MetaRequest.TheVariants as Ask
use Rattle.qfs_base.specs.declared.request.NodeRequest.{NodeRequest}
use Rattle.qfs_base.specs.declared.request.NodeRequest.TheVariants as To
use Rattle.qfs_base.specs.declared.script.Script.{Script}
use Rattle.qfs_model_actor.specs.Actor.{Actor, request_of, has_finished}
use Rattle.qfs_model_text.specs.Order.{same_outcome}
use Rattle.qfs_model_world.specs.World.{World, start, numbered, node_turn, move, after}

-- the numbers of the actors that have something left to do
unfoldable pub unfinished : List Actor → List ℕ
unfinished actors = map (λ (actor : Actor). actor.number) (filter (λ actor. not (has_finished actor)) actors)

-- the actors by phase, for phases of these commands
unfoldable pub by_phase : List (List (List Command)) → List Actor → List (List Actor)
by_phase [] actors = []
by_phase (phase ∷ phases) actors = take (length phase) actors ∷ by_phase phases (drop (length phase) actors)

-- the first of these lists, unless it is empty, and else the next ones
unfoldable pub first_filled : List (List ℕ) → List ℕ
first_filled [] = []
first_filled ([] ∷ lists) = first_filled lists
first_filled ((x ∷ xs) ∷ lists) = x ∷ xs

-- whose turn it may be: the unfinished actors of the first phase that has one
unfoldable pub turn : Script → World → List ℕ
turn script world = first_filled (map unfinished (by_phase script.phases world.actors))

-- requests at which a device or disk may fail
unfoldable pub chunk_may_fail : ChunkRequest → Bool
chunk_may_fail Serve.Stop = false
chunk_may_fail Serve.Inventory = false
chunk_may_fail Serve.Upgrade = false
chunk_may_fail request = true

unfoldable pub meta_may_fail : MetaRequest → Bool
meta_may_fail (Ask.List path) = false
meta_may_fail (Ask.LeftOn server) = false
meta_may_fail request = true

unfoldable pub may_fail : NodeRequest → Bool
may_fail (To.Meta request) = meta_may_fail request
may_fail (To.Chunk server request) = chunk_may_fail request

-- requests at which memory may be wanting
unfoldable pub chunk_may_want : ChunkRequest → Bool
chunk_may_want (Serve.Fetch key life from room) = false
chunk_may_want (Serve.Erase key life) = false
chunk_may_want Serve.Stop = false
chunk_may_want Serve.Wipe = false
chunk_may_want Serve.Upgrade = false
chunk_may_want request = true

unfoldable pub may_want_memory : NodeRequest → Bool
may_want_memory (To.Meta request) = true
may_want_memory (To.Chunk server request) = chunk_may_want request

-- whether a request may come out so at all
unfoldable pub may_end : Outcome → NodeRequest → Bool
may_end Ended.Done request = true
may_end Ended.Failed request = may_fail request
may_end Ended.NoMemory request = may_want_memory request

-- whether a request comes out so in a world: the node's answer shows it, since a refusal that is due comes before a fault
unfoldable pub is_possible : World → ℕ → Outcome → NodeRequest → Bool
is_possible world actor outcome request =
    may_end outcome request
    && same_outcome (outcome_of (node_turn world actor outcome request).reply) outcome

unfoldable pub is_possible_for : World → ℕ → Outcome → Option NodeRequest → Bool
is_possible_for world actor outcome None = false
is_possible_for world actor outcome (Some request) = is_possible world actor outcome request

unfoldable pub is_possible_of : World → ℕ → Outcome → Option Actor → Bool
is_possible_of world number outcome None = false
is_possible_of world number outcome (Some actor) = is_possible_for world number outcome (request_of actor)

-- whether a step may come next: it is the actor's turn, and its request may come out so
unfoldable pub may_come : Script → World → Step → Bool
may_come script world step =
    list_any (λ number. number == step.actor) (turn script world)
    && is_possible_of world step.actor step.outcome (numbered world.actors step.actor)

-- whether each of these steps may come in its turn, from a world on
unfoldable pub fits_from : Script → World → List Step → Bool
fits_from script world [] = true
fits_from script world (step ∷ steps) = may_come script world step && fits_from script (move world step) steps

-- whether an order fits a script
unfoldable pub fits : Script → List Step → Bool
fits script order = fits_from script (start script) order

-- whether nothing is left to do
unfoldable pub is_over : Script → World → Bool
is_over script world = length (turn script world) == 0

-- whether all actors have finished after an order
unfoldable pub is_whole : Script → List Step → Bool
is_whole script order = is_over script (after script order)
