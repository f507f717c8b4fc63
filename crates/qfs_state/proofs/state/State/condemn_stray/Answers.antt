-- What the check leaves to show of `state::State::condemn_stray`.
use Rattle.std.proofs.Common.{◌∙◌, ap}
use Rattle.qfs_base.specs.declared.change.Change.TheVariants.{CondemnStray}
use Rattle.qfs_blocks.specs.ImageLaws.{with_blocks}
use Rattle.qfs_blocks.specs.LeaseLaws.{stray_is}
use Rattle.qfs_model_meta.specs.Apply.{apply}
use Rattle.qfs_state.specs.Held.{Held, image_of}
use Rattle.qfs_state.proofs.state.State.condemn_stray.Goals as goal

pub returns-clause-image : goal.returns-clause-image
unfolding apply
returns-clause-image c =
    let s = c.self.inside in
    let m = image_of s.turn s.clock s.servers s.names s.blocks s.leases s.dropped.items in
    ap (λ t. with_blocks t m) c.condemn_stray.ensures
    ∙ stray_is m s.leases.next c.self.invariant.next_lease c.args.server c.args.life c.args.key
    s.blocks
    ∙ ap (λ (held : Held). apply held.image (CondemnStray c.args.server c.args.life c.args.key))
    c.self.view_is
