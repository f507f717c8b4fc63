-- What the check leaves to show of `state::State::end_lease`.
use Rattle.std.proofs.Common.{◌∙◌, ap}
use Rattle.qfs_base.specs.declared.change.Change.TheVariants.{EndLease}
use Rattle.qfs_model_meta.specs.Apply.{apply}
use Rattle.qfs_state.specs.Held.{Held, image_of}
use Rattle.qfs_state.proofs.LeaseChanges.{ended_held, ended_image}
use Rattle.qfs_state.proofs.state.State.end_lease.Goals as goal

pub invariant_of-self : goal.invariant_of-self
invariant_of-self c =
    let s = c.self.inside in
    let m = image_of s.turn s.clock s.servers s.names s.blocks s.leases s.dropped.items in
    ended_held m s.blocks s.leases s.loads c.self.invariant c.end.new.self c.args.lease
    c.end.ensures.leases c.end.ensures.next

pub returns-clause-image : goal.returns-clause-image
returns-clause-image c =
    let s = c.self.inside in
    let m = image_of s.turn s.clock s.servers s.names s.blocks s.leases s.dropped.items in
    ended_image m s.blocks s.leases s.loads c.self.invariant c.end.new.self c.args.lease
    c.end.ensures.leases c.end.ensures.next
    ∙ ap (λ (held : Held). apply held.image (EndLease c.args.lease)) c.self.view_is
