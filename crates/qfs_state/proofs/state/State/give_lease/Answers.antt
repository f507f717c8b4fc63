-- What the check leaves to show of `state::State::give_lease`.
use Rattle.std.proofs.Common.{◌∙◌, ap}
use Rattle.qfs_base.specs.declared.change.Change.TheVariants.{GiveLease}
use Rattle.qfs_model_meta.specs.Apply.{apply}
use Rattle.qfs_state.specs.Held.{Held, image_of}
use Rattle.qfs_state.proofs.LeaseChanges.{given_held, given_image}
use Rattle.qfs_state.proofs.state.State.give_lease.Goals as goal

pub invariant_of-self : goal.invariant_of-self
invariant_of-self c =
    let s = c.self.inside in
    let m = image_of s.turn s.clock s.servers s.names s.blocks s.leases s.dropped.items in
    given_held m s.blocks s.leases s.loads c.self.invariant c.give.new.self c.args.actor c.args.file c.args.until
    c.give.ensures.leases c.give.ensures.next

pub returns-clause-image : goal.returns-clause-image
returns-clause-image c =
    let s = c.self.inside in
    let m = image_of s.turn s.clock s.servers s.names s.blocks s.leases s.dropped.items in
    given_image m s.blocks s.leases s.loads c.self.invariant c.give.new.self c.args.actor c.args.file c.args.until
    c.give.ensures.leases c.give.ensures.next
    ∙ ap (λ (held : Held). apply held.image (GiveLease c.args.actor c.args.file c.args.until)) c.self.view_is
