-- Where an order that a script gives can be followed, and where it can't.
use Rattle.std.proofs.Common.{◌≡◌, ℕ, zero, suc, ◌+◌, Bool, true, false, cond, List, [], ◌∷◌, length, take, Option, Some, refl, sym, ◌∙◌, ap, subst, arith, ◌≤◌, true≢false}
use Rattle.std.specs.Prelude.{◌&&◌, fold, is_none, slice_get, IsTrue}
use Rattle.std.specs.List.{list_all}
use Rattle.std.proofs.lemmas.Option.{same_Some}
use Rattle.std.proofs.lemmas.Bool.{and_from, and_parts}
use Rattle.qfs_base.specs.declared.history.Step.{Step}
use Rattle.qfs_base.specs.declared.script.Script.{Script}
use Rattle.qfs_model_world.specs.Fits.{may_come, fits_from, fits, is_over, is_whole}
use Rattle.qfs_model_world.specs.GivenOrder.{is_done, may_be_given, bad_end, bad_from, bad_place, CantGoOn, IsBadAt}
use Rattle.qfs_model_world.specs.World.{World, start, move, after}

-- ---- orders that are followed to their end

at_end : (index : ℕ) (over : Bool) → is_none (bad_end index over) ≡ (true && (true && over))
unfolding bad_end
at_end index true = refl
at_end index false = refl

and-false : (f d : Bool) → (f && (false && d)) ≡ false
and-false true d = refl
and-false false d = refl

at_step : (index : ℕ) (may done fitting all over : Bool) (rest : Option ℕ) → is_none rest ≡ (fitting && (all && over))
    → is_none (cond (may && done) rest (Some index)) ≡ ((may && fitting) && ((done && all) && over))
at_step index false done fitting all over rest is = refl
at_step index true false fitting all over rest is = sym (and-false fitting (over))
at_step index true true fitting all over rest is = is

followed_from : (script : Script) (steps : List Step) (world : World) (index : ℕ)
    → is_none (bad_from script world index steps)
    ≡ (fits_from script world steps && (list_all is_done steps && is_over script (fold move world steps)))
unfolding bad_from fits_from may_be_given
followed_from script [] world index = at_end index (is_over script world)
followed_from script (step ∷ steps) world index =
    at_step index (may_come script world step) (is_done step)
    (fits_from script (move world step) steps) (list_all is_done steps) (is_over script (fold move (move world step) steps))
    (bad_from script (move world step) (index + 1) steps)
    (followed_from script steps (move world step) (index + 1))

pub followed : (script : Script) (order : List Step)
    → is_none (bad_place script order) ≡ (fits script order && (list_all is_done order && is_whole script order))
unfolding bad_place fits is_whole after
followed script order = followed_from script order (start script) 0

-- ---- the place where an order is bad

-- an order is bad so many steps behind a world
record IsBadFrom (script : Script) (world : World) (steps : List Step) (count : ℕ) : Type 0 where
  within : count ≤ length steps
  fitting : IsTrue (fits_from script world (take count steps))
  done : IsTrue (list_all is_done (take count steps))
  stuck : CantGoOn script (fold move world (take count steps)) (slice_get steps count)

bad_at_end : (script : Script) (world : World) (index i : ℕ) (over : Bool) → is_over script world ≡ over
    → bad_end index over ≡ Some i → (count : ℕ) × (i ≡ index + count) × IsBadFrom script world [] count
unfolding bad_end fits_from
bad_at_end script world index i true is bad = absurd (true≢false (ap is_none bad))
bad_at_end script world index i false is bad =
    (0, omega (arith, same_Some index i bad), record { within = omega arith; fitting = refl; done = refl; stuck = is })

-- the same behind a step, where it holds of the rest
bad_at_step : (script : Script) (step : Step) (steps : List Step) (world : World) (index i : ℕ)
    → (bad_from script (move world step) (index + 1) steps ≡ Some i
    → (count : ℕ) × (i ≡ index + 1 + count) × IsBadFrom script (move world step) steps count)
    → (may : Bool) → may_be_given script world step ≡ may
    → cond may (bad_from script (move world step) (index + 1) steps) (Some index) ≡ Some i
    → (count : ℕ) × (i ≡ index + count) × IsBadFrom script world (step ∷ steps) count
unfolding fits_from may_be_given
bad_at_step script step steps world index i more false is bad =
    (0, omega (arith, same_Some index i bad), record { within = omega arith; fitting = refl; done = refl; stuck = is })
bad_at_step script step steps world index i more true is bad =
    let rest = more bad in
    let found : IsBadFrom script (move world step) steps rest.0 = rest.2 in
    let may : may_come script world step ≡ true = (and_parts (may_come script world step) (is_done step) is).0 in
    let done : is_done step ≡ true = (and_parts (may_come script world step) (is_done step) is).1 in (
      suc rest.0,
      omega (arith, rest.1),
      record {
        within = omega (arith, found.within);
        fitting = and_from (may_come script world step) (fits_from script (move world step) (take rest.0 steps)) may found.fitting;
        done = and_from (is_done step) (list_all is_done (take rest.0 steps)) done found.done;
        stuck = found.stuck;
      },
    )

bad_from_at : (script : Script) (steps : List Step) (world : World) (index i : ℕ)
    → bad_from script world index steps ≡ Some i → (count : ℕ) × (i ≡ index + count) × IsBadFrom script world steps count
unfolding bad_from
bad_from_at script [] world index i bad = bad_at_end script world index i (is_over script world) refl bad
bad_from_at script (step ∷ steps) world index i bad =
    bad_at_step script step steps world index i (bad_from_at script steps (move world step) (index + 1) i)
    (may_be_given script world step) refl bad

pub bad_there : (script : Script) (order : List Step) (i : ℕ) → bad_place script order ≡ Some i → IsBadAt script order i
unfolding bad_place fits after
bad_there script order i bad =
    let found = bad_from_at script order (start script) 0 i bad in
    let here : found.0 ≡ i = omega (arith, found.1) in
    subst (IsBadAt script order) here
    (record { within = found.2.within; fitting = found.2.fitting; done = found.2.done; stuck = found.2.stuck })

-- ---- there is but one such place

first_behind : (script : Script) (step : Step) (steps : List Step) (world : World) (index count : ℕ)
    → (IsBadFrom script (move world step) steps count → bad_from script (move world step) (index + 1) steps ≡ Some (index + 1 + count))
    → IsBadFrom script world (step ∷ steps) (suc count)
    → bad_from script world index (step ∷ steps) ≡ Some (index + suc count)
unfolding bad_from fits_from may_be_given
first_behind script step steps world index count rest bad =
    let fitting : fits_from script (move world step) (take count steps) ≡ true =
    (and_parts (may_come script world step) (fits_from script (move world step) (take count steps)) bad.fitting).1 in
    let done : list_all is_done (take count steps) ≡ true =
    (and_parts (is_done step) (list_all is_done (take count steps)) bad.done).1 in
    let may : (may_come script world step && is_done step) ≡ true =
    and_from (may_come script world step) (is_done step)
    ((and_parts (may_come script world step) (fits_from script (move world step) (take count steps)) bad.fitting).0)
    ((and_parts (is_done step) (list_all is_done (take count steps)) bad.done).0) in
    let next : bad_from script (move world step) (index + 1) steps ≡ Some (index + 1 + count) =
    rest (record { within = omega (arith, bad.within); fitting = fitting; done = done; stuck = bad.stuck }) in
    let there : index + 1 + count ≡ index + suc count = omega arith in
    ap (λ may. cond may (bad_from script (move world step) (index + 1) steps) (Some index)) may ∙ next ∙ ap Some there

first_here : (script : Script) (step : Step) (steps : List Step) (world : World) (index : ℕ)
    → IsBadFrom script world (step ∷ steps) 0 → bad_from script world index (step ∷ steps) ≡ Some (index + 0)
unfolding bad_from
first_here script step steps world index bad =
    let there : index ≡ index + 0 = omega arith in
    ap (λ may. cond may (bad_from script (move world step) (index + 1) steps) (Some index)) bad.stuck ∙ ap Some there

first_at_end : (script : Script) (world : World) (index count : ℕ)
    → IsBadFrom script world [] count → bad_from script world index [] ≡ Some (index + count)
unfolding bad_from bad_end
first_at_end script world index zero bad =
    let there : index ≡ index + 0 = omega arith in
    ap (bad_end index) bad.stuck ∙ ap Some there
first_at_end script world index (suc count) bad = absurd (omega (arith, bad.within))

first_from : (script : Script) (steps : List Step) (world : World) (index count : ℕ)
    → IsBadFrom script world steps count → bad_from script world index steps ≡ Some (index + count)
first_from script [] world index count bad = first_at_end script world index count bad
first_from script (step ∷ steps) world index zero bad = first_here script step steps world index bad
first_from script (step ∷ steps) world index (suc count) bad =
    first_behind script step steps world index count (first_from script steps (move world step) (index + 1) count) bad

pub first_there : (script : Script) (order : List Step) (i : ℕ) → IsBadAt script order i → bad_place script order ≡ Some i
unfolding bad_place fits after
first_there script order i bad =
    let there : 0 + i ≡ i = omega arith in
    first_from script order (start script) 0 i
    (record { within = bad.within; fitting = bad.fitting; done = bad.done; stuck = bad.stuck }) ∙ ap Some there
