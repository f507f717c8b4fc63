-- What the check leaves to show of `state::State::drop_actor`.
use Rattle.std.proofs.Common.{◌≡◌, ◌∙◌, ap, sym, subst}
use Rattle.std.proofs.lemmas.List.Sums.{prefix_len-le-length}
use Rattle.std.specs.List.{insert, position_or_len}
use Rattle.std.specs.Prelude.{not, None}
use Rattle.qfs_base.specs.declared.change.Change.TheVariants.{DropActor}
use Rattle.qfs_model_meta.specs.Apply.{apply}
use Rattle.qfs_model_meta.specs.Dropped.{add_dropped, dropped_at}
use Rattle.qfs_state.specs.DroppedActors.{is_above}
use Rattle.qfs_state.specs.Held.{Held, image_of}
use Rattle.qfs_state.proofs.LeaseChanges.{dropped_held, placed_above}
use Rattle.qfs_state.proofs.state.State.drop_actor.Goals as goal

pub insert_reserved-requires-clause-within : goal.insert_reserved-requires-clause-within
insert_reserved-requires-clause-within c =
    rw (c.place_of-at.ensures, c.as_slice.ensures)
    (prefix_len-le-length (λ other. not (is_above c.args.actor other)) c.self.inside.dropped.items)

list_is : (c : goal.After-insert_reserved) → c.insert_reserved.new.self.items
    ≡ add_dropped c.args.actor c.self.inside.turn c.self.inside.dropped.items
list_is c =
    let s = c.self.inside in
    let none = subst (λ (held : Held). dropped_at c.args.actor held.image.dropped ≡ None)
    (sym c.self.view_is) c.requires.may in
    let at = c.place_of-at.ensures
    ∙ ap (λ rows. position_or_len (is_above c.args.actor) rows) c.as_slice.ensures in
    c.insert_reserved.ensures.items
    ∙ ap (λ n. insert s.dropped.items n (record { actor = c.args.actor; turn = s.turn })) at
    ∙ sym (placed_above c.args.actor s.turn s.dropped.items none)

pub invariant_of-self : goal.invariant_of-self
invariant_of-self c =
    let s = c.self.inside in
    rw (list_is c)
    (dropped_held s.servers s.blocks s.leases s.dropped.items s.loads c.args.actor s.turn
    c.self.invariant)

pub returns-clause-image : goal.returns-clause-image
unfolding apply
returns-clause-image c =
    let s = c.self.inside in
    ap (λ dropped. image_of s.turn s.clock s.servers s.names s.blocks s.leases dropped)
    (list_is c)
    ∙ ap (λ (held : Held). apply held.image (DropActor c.args.actor)) c.self.view_is
