-- A phase without actors has no turn.
use Rattle.std.proofs.Common.{◌≡◌, ℕ, List, sym, ◌∙◌, ap, ap₂, subst}
use Rattle.std.specs.Prelude.{map, IfOk}
use Rattle.qfs_actor.specs.Standing.{Standing}
use Rattle.qfs_model_world.specs.Fits.{unfinished, first_filled}
use Rattle.qfs_nodes.specs.Actors.{actors_of, by_sizes}
use Rattle.qfs_world.specs.View.{turn_of}
use Rattle.qfs_world.proofs.TurnLists.{turn-by_sizes}
use Rattle.qfs_world.proofs.world.World.turn.Goals as goal

pub returns-clause-turn : goal.returns-clause-turn
returns-clause-turn g c =
    let inside = c.self.inside in
    let lists = λ (s : List ℕ) (a : List Standing). first_filled (map unfinished (by_sizes s (actors_of a))) in
    let same : lists c.deref-2.result.now c.deref.result.now ≡ turn_of inside.script.value (actors_of inside.actors.items) =
    ap₂ lists c.deref-2.ensures.value c.deref.ensures.value
    ∙ ap (λ (s : List ℕ). lists s inside.actors.items) c.self.invariant.0.phases_are
    ∙ sym (turn-by_sizes inside.script.value.phases (actors_of inside.actors.items)) in
    let P : List ℕ → Type 0 = λ l. IfOk c.current_turn.result (λ turn. turn ≡ l) in
    rw (← c.self.view_is) (subst P same c.current_turn.ensures)
