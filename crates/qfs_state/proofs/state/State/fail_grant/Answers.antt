-- What the check leaves to show of `state::State::fail_grant`.
use Rattle.std.proofs.Common.{◌∙◌, ap, arith, length}
use Rattle.std.proofs.lemmas.Option.{IfSome_then}
use Rattle.qfs_base.specs.declared.change.Change.TheVariants.{FailGrant}
use Rattle.qfs_blocks.specs.ImageLaws.{with_blocks}
use Rattle.qfs_model_meta.specs.Apply.{apply}
use Rattle.qfs_model_meta.specs.Slots.{slot_at}
use Rattle.qfs_state.specs.Held.{Held, image_of}
use Rattle.qfs_state.proofs.SlotChanges.{failed, pending_server}
use Rattle.qfs_state.proofs.state.State.fail_grant.Goals as goal

pub fail_grant-requires-clause-low : goal.fail_grant-requires-clause-low
fail_grant-requires-clause-low c =
    let s = c.self.inside in
    let id = c.args.id in
    IfSome_then (slot_at s.blocks.slots id.block id.slot).grant
    (pending_server (length s.servers) s.blocks.slots id.block id.slot c.self.invariant.slots_fit)
    (λ grant is. is.0)

pub fail_grant-requires-clause-high : goal.fail_grant-requires-clause-high
fail_grant-requires-clause-high c =
    let s = c.self.inside in
    let id = c.args.id in
    let few = c.self.invariant.servers_fit.few in
    IfSome_then (slot_at s.blocks.slots id.block id.slot).grant
    (pending_server (length s.servers) s.blocks.slots id.block id.slot c.self.invariant.slots_fit)
    (λ grant is. let within = is.1 in omega (arith, few, within))

pub invariant_of-self : goal.invariant_of-self
invariant_of-self c =
    let s = c.self.inside in
    let id = c.args.id in
    let m = image_of s.turn s.clock s.servers s.names s.blocks s.leases s.dropped.items in
    rw (c.uncount_live.ensures, c.as_slice.ensures, c.granted_copy-granted.ensures, c.slot_at.ensures, c.fail_grant.ensures)
    (failed m s.leases.spare s.blocks s.loads c.self.invariant id.block id.slot).held

pub returns-clause-image : goal.returns-clause-image
returns-clause-image c =
    let s = c.self.inside in
    let id = c.args.id in
    let m = image_of s.turn s.clock s.servers s.names s.blocks s.leases s.dropped.items in
    ap (λ t. with_blocks t m) c.fail_grant.ensures
    ∙ (failed m s.leases.spare s.blocks s.loads c.self.invariant id.block id.slot).image
    ∙ ap (λ (held : Held). apply held.image (FailGrant id.block id.slot)) c.self.view_is
