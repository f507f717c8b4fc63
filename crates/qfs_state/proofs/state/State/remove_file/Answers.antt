-- What the check leaves to show of `state::State::remove_file`.
use Rattle.std.proofs.Common.{◌∙◌, ap, fold}
use Rattle.qfs_base.specs.declared.change.Change.TheVariants as Made
use Rattle.qfs_base.specs.declared.history.Entry.TheVariants as Wrote
use Rattle.qfs_model_meta.specs.Apply.{apply, with_slots, write_entry}
use Rattle.qfs_model_meta.specs.TreeRows.{take_path}
use Rattle.qfs_place.specs.Loads.{uncount_row}
use Rattle.qfs_state.specs.Held.{Held, image_of}
use Rattle.qfs_state.proofs.FileLaws.{written_image}
use Rattle.qfs_state.proofs.SealLaws.{forgotten_held}
use Rattle.qfs_state.proofs.state.State.remove_file.Goals as goal

pub invariant_of-self : goal.invariant_of-self
invariant_of-self c =
    let it = c.self.inside in
    forgotten_held it.servers it.blocks it.leases it.dropped.items it.loads c.self.invariant
    c.args.file c.forget.new.self c.uncount_rows.new.loads c.forget.ensures
    (c.uncount_rows.ensures ∙ ap (λ rows. fold (uncount_row it.servers) it.loads rows) c.rows_of-rows.ensures)

pub returns-clause-image : goal.returns-clause-image
unfolding apply with_slots
returns-clause-image c =
    let it = c.self.inside in
    written_image it.turn it.clock it.servers it.leases it.dropped.items it.names c.remove_file.new.self
    c.forget.new.self _ _ _ _ c.remove_file.ensures.written c.remove_file.ensures.next_file c.requires.may.1
    ∙ ap (λ blocks. write_entry (Wrote.Removed c.args.path)
    (take_path c.args.path it.names.tree)
    (image_of it.turn it.clock it.servers it.names blocks it.leases it.dropped.items))
    c.forget.ensures
    ∙ ap (λ (held : Held). apply held.image (Made.RemoveFile c.args.path c.args.file)) c.self.view_is
