-- Whose turn it may be.
use Rattle.std.proofs.Common.{◌≡◌, ℕ, suc, ◌+◌, Bool, true, false, List, [], ◌∷◌, length, take, drop, Some, refl, sym, ◌∙◌, ap, slice_get, eqb-true}
use Rattle.std.specs.Prelude.{map, ◌==◌, ◌||◌}
use Rattle.std.specs.List.{list_any}
use Rattle.qfs_base.specs.declared.command.Command.{Command}
use Rattle.qfs_model_actor.specs.Actor.{Actor, has_finished}
use Rattle.qfs_model_world.specs.Fits.{unfinished, by_phase, first_filled}
use Rattle.qfs_nodes.specs.Actors.{sizes_of, by_sizes}
use Rattle.qfs_world.proofs.Lists.{get-take, get-drop}

-- an actor of this number is among these, and it hasn't finished
pub record HasUnfinished (number : ℕ) (actors : List Actor) : Type 0 where
  pub at : ℕ
  pub actor : Actor
  pub there : slice_get actors at ≡ Some actor
  pub number_is : actor.number ≡ number
  pub unfinished : has_finished actor ≡ false

pub unfinished-skip : (actor : Actor) (actors : List Actor) → has_finished actor ≡ true → unfinished (actor ∷ actors) ≡ unfinished actors
unfolding unfinished
unfinished-skip actor actors e = rw e refl

pub unfinished-keep : (actor : Actor) (actors : List Actor) → has_finished actor ≡ false
    → unfinished (actor ∷ actors) ≡ actor.number ∷ unfinished actors
unfolding unfinished
unfinished-keep actor actors e = rw e refl

-- it stands elsewhere in another list
moved : (number : ℕ) (xs ys : List Actor) (has : HasUnfinished number xs) (at : ℕ) → slice_get ys at ≡ Some has.actor → HasUnfinished number ys
moved number xs ys has at there =
    record { at = at; actor = has.actor; there = there; number_is = has.number_is; unfinished = has.unfinished }

later : (number : ℕ) (first : Actor) (actors : List Actor) → HasUnfinished number actors → HasUnfinished number (first ∷ actors)
later number first actors has = moved number actors (first ∷ actors) has (suc has.at) has.there

this_or_later : (number : ℕ) (actor : Actor) (actors : List Actor) → has_finished actor ≡ false
    → (list_any (λ n. n == number) (unfinished actors) ≡ true → HasUnfinished number actors)
    → (same : Bool) → (actor.number == number) ≡ same
    → (same || list_any (λ n. n == number) (unfinished actors)) ≡ true
    → HasUnfinished number (actor ∷ actors)
this_or_later number actor actors going rest true e any =
    record { at = 0; actor = actor; there = refl; number_is = eqb-true actor.number number e; unfinished = going }
this_or_later number actor actors going rest false e any = later number actor actors (rest any)

nobody : (number : ℕ) → list_any (λ n. n == number) (unfinished []) ≡ true → HasUnfinished number []
unfolding unfinished
nobody number any = absurd (cc)

unfinished-choice : (number : ℕ) (actor : Actor) (actors : List Actor)
    → (list_any (λ n. n == number) (unfinished actors) ≡ true → HasUnfinished number actors)
    → list_any (λ n. n == number) (unfinished (actor ∷ actors)) ≡ true
    → (finished : Bool) → has_finished actor ≡ finished → HasUnfinished number (actor ∷ actors)
unfinished-choice number actor actors rest any true e =
    later number actor actors (rest (sym (ap (list_any (λ n. n == number)) (unfinished-skip actor actors e)) ∙ any))
unfinished-choice number actor actors rest any false e =
    this_or_later number actor actors e rest (actor.number == number) refl
    (sym (ap (list_any (λ n. n == number)) (unfinished-keep actor actors e)) ∙ any)

in-unfinished : (number : ℕ) (actors : List Actor) → list_any (λ n. n == number) (unfinished actors) ≡ true
    → HasUnfinished number actors
in-unfinished number [] any = nobody number any
in-unfinished number (actor ∷ actors) any =
    unfinished-choice number actor actors (in-unfinished number actors) any (has_finished actor) refl

-- who is in the first list that is filled is in the first phase or behind it
turn-choice : (number size : ℕ) (actors : List Actor) (lists : List (List ℕ))
    → (list_any (λ n. n == number) (first_filled lists) ≡ true → HasUnfinished number (drop size actors))
    → list_any (λ n. n == number) (first_filled (unfinished (take size actors) ∷ lists)) ≡ true
    → (list : List ℕ) → unfinished (take size actors) ≡ list → HasUnfinished number actors
unfolding first_filled
turn-choice number size actors lists rest any [] e =
    let behind = rest (sym (ap (λ l. list_any (λ n. n == number) (first_filled (l ∷ lists))) e) ∙ any) in
    moved number (drop size actors) actors behind (size + behind.at) (get-drop size actors behind.at behind.actor behind.there)
turn-choice number size actors lists rest any (x ∷ xs) e =
    let first =
    in-unfinished number (take size actors)
    (ap (list_any (λ n. n == number)) e
    ∙ (sym (ap (λ l. list_any (λ n. n == number) (first_filled (l ∷ lists))) e) ∙ any)) in
    moved number (take size actors) actors first first.at (get-take size actors first.at first.actor first.there)

-- who is in the turn's list is an unfinished actor
pub in-turn : (number : ℕ) (phases : List (List (List Command))) (actors : List Actor)
    → list_any (λ n. n == number) (first_filled (map unfinished (by_phase phases actors))) ≡ true
    → HasUnfinished number actors
unfolding by_phase first_filled
in-turn number [] actors any = absurd (cc)
in-turn number (phase ∷ phases) actors any =
    turn-choice number (length phase) actors (map unfinished (by_phase phases (drop (length phase) actors)))
    (in-turn number phases (drop (length phase) actors)) any (unfinished (take (length phase) actors)) refl

-- ---- by the sizes of the phases

same-filled : (first : List ℕ) (xs ys : List (List ℕ)) → first_filled xs ≡ first_filled ys
    → first_filled (first ∷ xs) ≡ first_filled (first ∷ ys)
unfolding first_filled
same-filled [] xs ys e = e
same-filled (n ∷ ns) xs ys e = refl

-- a phase without actors has no turn
pub turn-by_sizes : (phases : List (List (List Command))) (actors : List Actor)
    → first_filled (map unfinished (by_phase phases actors)) ≡ first_filled (map unfinished (by_sizes (sizes_of phases) actors))
unfolding by_phase first_filled unfinished
turn-by_sizes [] actors = refl
turn-by_sizes ([] ∷ phases) actors = turn-by_sizes phases actors
turn-by_sizes ((commands ∷ more) ∷ phases) actors =
    same-filled (unfinished (take (length (commands ∷ more)) actors)) _ _
    (turn-by_sizes phases (drop (length (commands ∷ more)) actors))
