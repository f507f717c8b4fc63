-- The actor whose turn it is stands at its place, and tells where it goes.
use Rattle.std.proofs.Common.{◌≡◌, ℕ, List, ◌-◌, sym, ◌∙◌, ap, arith}
use Rattle.std.proofs.lemmas.Option.{slice_get_within, get_or_from_slice_get, slice_get-map}
use Rattle.std.specs.Option.{option_map, option_and_then}
use Rattle.qfs_actor.specs.Standing.{Standing}
use Rattle.qfs_model_actor.specs.Actor.{node_of}
use Rattle.qfs_model_world.specs.World.{numbered}
use Rattle.qfs_world.proofs.Step.{AtTurn, turn-place}
use Rattle.qfs_nodes.specs.Actors.{actors_of}
use Rattle.qfs_world.proofs.world.World.goes_to.Goals as goal

goes : (actors : List Standing) (number : ℕ) (it : Standing) → AtTurn actors number (number - 1) it
    → option_and_then node_of (numbered (actors_of actors) number) ≡ node_of it.actor
unfolding numbered
goes actors number it at =
    ap (λ n. option_and_then node_of (numbered (actors_of actors) n)) at.number_is
    ∙ ap (option_and_then node_of)
    (slice_get-map (λ (s : Standing). s.actor) actors (number - 1) ∙ ap (option_map (λ (s : Standing). s.actor)) at.there)

pub overflow_sub-actor : goal.overflow_sub-actor
overflow_sub-actor g c =
    let turn = rw (← c.self.view_is) at c.requires in
    let at = turn-place _ _ _ _ _ _ c.self.invariant.0 c.args.actor turn in omega (arith, at.1.number_is)

pub index-requires : goal.index-requires
index-requires g c =
    let turn = rw (← c.self.view_is) at c.requires in
    let at = turn-place _ _ _ _ _ _ c.self.invariant.0 c.args.actor turn in
    let within = slice_get_within c.self.inside.actors.items (c.args.actor - 1) at.0 at.1.there in
    let long = c.self.inside.actors.ok.0 in omega (arith, within, long)

pub returns : goal.returns
returns g c =
    let turn = rw (← c.self.view_is) at c.requires in
    let at = turn-place _ _ _ _ _ _ c.self.invariant.0 c.args.actor turn in
    let is : at.0 ≡ c.index.result.now =
    sym (c.index.ensures ∙ get_or_from_slice_get c.self.inside.actors.items (c.args.actor - 1) at.0 c.index.result.now at.1.there) in
    rw (← c.self.view_is)
    (c.goes_to.ensures ∙ ap (λ (s : Standing). node_of s.actor) (sym is) ∙ sym (goes c.self.inside.actors.items c.args.actor at.0 at.1))
