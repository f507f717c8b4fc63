-- What the check leaves to show of `state::State::add_directory`.
use Rattle.std.proofs.Common.{◌∙◌, ap}
use Rattle.qfs_base.specs.declared.change.Change.TheVariants as Made
use Rattle.qfs_model_meta.specs.Apply.{apply}
use Rattle.qfs_state.specs.Held.{Held}
use Rattle.qfs_state.proofs.FileLaws.{written_image}
use Rattle.qfs_state.proofs.state.State.add_directory.Goals as goal

pub returns-clause-image : goal.returns-clause-image
unfolding apply
returns-clause-image c =
    let it = c.self.inside in
    written_image it.turn it.clock it.servers it.leases it.dropped.items it.names
    c.add_directory.new.self it.blocks _ _ _ _ c.add_directory.ensures.written
    c.add_directory.ensures.next_file c.requires.may.1
    ∙ ap (λ (held : Held). apply held.image (Made.AddDirectory c.args.path)) c.self.view_is
