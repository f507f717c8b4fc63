-- What the check leaves to show of `state::State::make_all`.
use Rattle.std.proofs.Common.{◌∙◌, List, refl, subst, sym}
use Rattle.std.proofs.lemmas.List.{nil_from_length}
use Rattle.std.specs.Vec.Iter.{into_iter_items}
use Rattle.qfs_base.specs.declared.image.MetaImage.{MetaImage}
use Rattle.qfs_model_meta.specs.Apply.{apply_all}
use Rattle.qfs_state.specs.declared.prepared.Prepared.{Prepared}
use Rattle.qfs_state.specs.Planning.{changes_of}
use Rattle.qfs_state.proofs.MakeLaws.{AreLeft, first_has_room, made_all, made_first}
use Rattle.qfs_state.proofs.state.State.make_all.Goals as goal

pub loop-change-init : goal.loop-change-init
loop-change-init c =
    let held = c.args.self.now in
    let last : MetaImage = apply_all (changes_of c.args.changes.items) held.image in
    subst (λ (changes : List Prepared). AreLeft changes held last)
    (sym c.into_iter-change-iterator.ensures.into_iter_gives.0)
    (record { lead = refl; may = c.requires.may; room = c.requires.room })

pub make-requires-clause-may : goal.make-requires-clause-may
make-requires-clause-may c =
    let held = c.loop-change.self in
    let last : MetaImage = apply_all (changes_of c.args.changes.items) c.args.self.now.image in
    (subst (λ (changes : List Prepared). AreLeft changes held last)
    c.in-Some.ensures.steps.0 c.loop-change.invariant).may.0

pub make-requires-clause-room : goal.make-requires-clause-room
make-requires-clause-room c =
    let held = c.loop-change.self in
    let last : MetaImage = apply_all (changes_of c.args.changes.items) c.args.self.now.image in
    first_has_room c.in-Some.change (into_iter_items c.next.new.self) held last
    (subst (λ (changes : List Prepared). AreLeft changes held last)
    c.in-Some.ensures.steps.0 c.loop-change.invariant)

pub loop-change-preserved : goal.loop-change-preserved
loop-change-preserved c =
    let held = c.loop-change.self in
    let last : MetaImage = apply_all (changes_of c.args.changes.items) c.args.self.now.image in
    made_first c.in-Some.change (into_iter_items c.next.new.self) held last
    (subst (λ (changes : List Prepared). AreLeft changes held last)
    c.in-Some.ensures.steps.0 c.loop-change.invariant)
    c.make.new.self c.make.ensures.image c.make.ensures.room

pub returns-clause-image : goal.returns-clause-image
returns-clause-image c =
    let held = c.loop-change.self in
    let last : MetaImage = apply_all (changes_of c.args.changes.items) c.args.self.now.image in
    let none = nil_from_length (into_iter_items c.loop-change.change-iterator)
    (sym c.loop-change.change-iterator.rest.ok.0 ∙ c.in-None.ensures.steps.0) in
    (made_all held last (subst (λ (changes : List Prepared). AreLeft changes held last) none
    c.loop-change.invariant)).0

pub returns-clause-fit : goal.returns-clause-fit
returns-clause-fit c =
    let held = c.loop-change.self in
    let last : MetaImage = apply_all (changes_of c.args.changes.items) c.args.self.now.image in
    let none = nil_from_length (into_iter_items c.loop-change.change-iterator)
    (sym c.loop-change.change-iterator.rest.ok.0 ∙ c.in-None.ensures.steps.0) in
    (made_all held last (subst (λ (changes : List Prepared). AreLeft changes held last) none
    c.loop-change.invariant)).1
