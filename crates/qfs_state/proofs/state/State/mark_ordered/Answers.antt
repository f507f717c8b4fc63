-- What the check leaves to show of `state::State::mark_ordered`.
use Rattle.std.proofs.Common.{◌∙◌, ap}
use Rattle.qfs_base.specs.declared.change.Change.TheVariants.{MarkOrdered}
use Rattle.qfs_blocks.specs.ImageLaws.{with_blocks}
use Rattle.qfs_model_meta.specs.Apply.{apply}
use Rattle.qfs_state.specs.Held.{Held, image_of}
use Rattle.qfs_state.proofs.CopyChanges.{marked}
use Rattle.qfs_state.proofs.state.State.mark_ordered.Goals as goal

pub invariant_of-self : goal.invariant_of-self
invariant_of-self c =
    let s = c.self.inside in
    let m = image_of s.turn s.clock s.servers s.names s.blocks s.leases s.dropped.items in
    rw c.mark.ensures
    (marked m s.leases.spare s.blocks s.loads c.self.invariant c.args.number).held

pub returns-clause-image : goal.returns-clause-image
returns-clause-image c =
    let s = c.self.inside in
    let m = image_of s.turn s.clock s.servers s.names s.blocks s.leases s.dropped.items in
    ap (λ t. with_blocks t m) c.mark.ensures
    ∙ (marked m s.leases.spare s.blocks s.loads c.self.invariant c.args.number).image
    ∙ ap (λ (held : Held). apply held.image (MarkOrdered c.args.number)) c.self.view_is
