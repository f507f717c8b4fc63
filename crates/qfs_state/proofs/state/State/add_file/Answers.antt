-- What the check leaves to show of `state::State::add_file`.
use Rattle.std.proofs.Common.{◌∙◌, ap, sym}
use Rattle.qfs_base.specs.declared.change.Change.TheVariants as Made
use Rattle.qfs_base.specs.declared.history.Entry.TheVariants as Wrote
use Rattle.qfs_model_meta.specs.Apply.{apply}
use Rattle.qfs_state.specs.Held.{Held}
use Rattle.qfs_state.proofs.FileLaws.{numbered_image}
use Rattle.qfs_state.proofs.state.State.add_file.Goals as goal

pub returns-clause-image : goal.returns-clause-image
unfolding apply
returns-clause-image c =
    let it = c.self.inside in
    let entry = c.requires.may.entry_is
    ∙ ap (λ (held : Held). Wrote.Created held.image.next_file c.args.path) (sym c.self.view_is) in
    numbered_image it.turn it.clock it.servers it.leases it.dropped.items it.names
    c.add_file.new.self it.blocks c.args.path c.args.entry c.args.actor c.args.command c.args.len _
    c.add_file.ensures.written c.add_file.ensures.next_file entry
    ∙ ap (λ (held : Held). apply held.image
    (Made.AddFile c.args.path c.args.actor c.args.command c.args.len)) c.self.view_is
