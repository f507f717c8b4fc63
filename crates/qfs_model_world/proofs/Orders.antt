-- An order with one step more.
use Rattle.std.proofs.Common.{◌≡◌, Bool, true, false, List, [], ◌∷◌, ◌++◌, refl, ◌∙◌, ap}
use Rattle.std.specs.Prelude.{◌&&◌, fold}
use Rattle.qfs_base.specs.declared.history.Step.{Step}
use Rattle.qfs_base.specs.declared.script.Script.{Script}
use Rattle.qfs_model_world.specs.World.{World, start, move, after}
use Rattle.qfs_model_world.specs.Fits.{may_come, fits_from, fits}

pub fold-snoc : {A B : Type 0} (f : A → B → A) (a : A) (xs : List B) (x : B) → fold f a (xs ++ x ∷ []) ≡ f (fold f a xs) x
fold-snoc f a [] x = refl
fold-snoc f a (y ∷ ys) x = fold-snoc f (f a y) ys x

-- the world after one step more is the moved world
pub after-snoc : (script : Script) (order : List Step) (step : Step) → after script (order ++ step ∷ []) ≡ move (after script order) step
unfolding after
after-snoc script order step = fold-snoc move (start script) order step

and-true : (b : Bool) → (b && true) ≡ b
and-true true = refl
and-true false = refl

and-assoc : (a b c : Bool) → (a && (b && c)) ≡ ((a && b) && c)
and-assoc true b c = refl
and-assoc false b c = refl

fits_from-snoc : (script : Script) (world : World) (order : List Step) (step : Step)
    → fits_from script world (order ++ step ∷ []) ≡ (fits_from script world order && may_come script (fold move world order) step)
unfolding fits_from
fits_from-snoc script world [] step = and-true (may_come script world step)
fits_from-snoc script world (first ∷ rest) step =
    ap (λ b. may_come script world first && b) (fits_from-snoc script (move world first) rest step)
    ∙ and-assoc (may_come script world first) (fits_from script (move world first) rest) (may_come script (fold move (move world first) rest) step)

-- an order with one step more fits where the order fits and the step may come next
pub fits-snoc : (script : Script) (order : List Step) (step : Step)
    → fits script (order ++ step ∷ []) ≡ (fits script order && may_come script (after script order) step)
unfolding fits after
fits-snoc script order step = fits_from-snoc script (start script) order step
