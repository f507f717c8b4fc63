-- Orders that a script gives, step by step: where one can't be followed any further.
use Rattle.std.specs.Prelude.{◌≡◌, ℕ, ◌+◌, ◌≤◌, ◌&&◌, Bool, false, if◌then◌else◌, List, [], ◌∷◌, length, take, slice_get, Option, Some, None, IsTrue}
use Rattle.std.specs.List.{list_all}
use Rattle.qfs_base.specs.declared.history.Outcome.TheVariants as Ended
use Rattle.qfs_base.specs.declared.history.Step.{Step}
use Rattle.qfs_base.specs.declared.script.Script.{Script}
use Rattle.qfs_model_text.specs.Order.{same_outcome}
use Rattle.qfs_model_world.specs.Fits.{may_come, fits, is_over}
use Rattle.qfs_model_world.specs.World.{World, start, move, after}

-- whether a step comes out done
unfoldable pub is_done : Step → Bool
is_done step = same_outcome step.outcome Ended.Done

-- whether a given step can be followed: it may come next, and it is one that comes out done
unfoldable pub may_be_given : Script → World → Step → Bool
may_be_given script world step = may_come script world step && is_done step

-- the end of an order is bad where an actor is unfinished
unfoldable pub bad_end : ℕ → Bool → Option ℕ
bad_end index over = if over then None else Some index

-- the place, counted on from this one, of the first of these steps that can't be followed, or of their end where an actor is
-- unfinished; none where the steps are followed to the end of all commands
unfoldable pub bad_from : Script → World → ℕ → List Step → Option ℕ
bad_from script world index [] = bad_end index (is_over script world)
bad_from script world index (step ∷ steps) =
    if may_be_given script world step then bad_from script (move world step) (index + 1) steps else Some index

-- the place in an order, from 0, at which it is bad, if it is
unfoldable pub bad_place : Script → List Step → Option ℕ
bad_place script order = bad_from script (start script) 0 order

-- an order can be followed to its end
abbrev pub IsFollowed : Script → List Step → Type 0
IsFollowed script order = bad_place script order ≡ None

-- what stands at the place where an order is bad, in the world before it: a step that can't be followed, or the order's end with
-- an actor unfinished
abbrev pub CantGoOn : Script → World → Option Step → Type 0
CantGoOn script world None = is_over script world ≡ false
CantGoOn script world (Some step) = may_be_given script world step ≡ false

-- an order is bad at a place, that of one of its steps or its end: the steps before can be followed, and there it can't go on.
-- There is at most one such place, the first that is bad
pub record IsBadAt (script : Script) (order : List Step) (place : ℕ) : Type 0 where
  pub within : place ≤ length order
  pub fitting : IsTrue (fits script (take place order))
  pub done : IsTrue (list_all is_done (take place order))
  pub stuck : CantGoOn script (after script (take place order)) (slice_get order place)
