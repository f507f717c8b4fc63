-- What the check leaves to show of `state::State::close_file`.
use Rattle.std.proofs.Common.{◌∙◌, ap, fold, refl}
use Rattle.qfs_base.specs.declared.change.Change.TheVariants as Made
use Rattle.qfs_base.specs.declared.history.Entry.TheVariants as Wrote
use Rattle.qfs_base.specs.declared.image.SlotRow.{SlotRow}
use Rattle.qfs_model_meta.specs.Apply.{apply, with_slots, write_entry}
use Rattle.qfs_model_meta.specs.TreeRows.{close_file}
use Rattle.qfs_place.specs.Loads.{uncount_live}
use Rattle.qfs_state.specs.Held.{Held, image_of}
use Rattle.qfs_state.proofs.FileLaws.{written_image}
use Rattle.qfs_state.proofs.SealLaws.{sealed_held}
use Rattle.qfs_state.proofs.state.State.close_file.Goals as goal

pub invariant_of-self : goal.invariant_of-self
invariant_of-self c =
    let it = c.self.inside in
    sealed_held it.servers it.blocks it.leases it.dropped.items it.loads c.self.invariant
    c.args.file it.names c.seal.new.self c.uncount_current.new.loads c.seal.ensures
    (c.uncount_current.ensures ∙ ap (λ rows. fold (λ loads (row : SlotRow). uncount_live it.servers row.state.current loads) it.loads rows) c.rows_of-rows.ensures)

pub returns-clause-image : goal.returns-clause-image
unfolding apply with_slots
returns-clause-image c =
    let it = c.self.inside in
    written_image it.turn it.clock it.servers it.leases it.dropped.items it.names c.close_file.new.self
    c.seal.new.self _ _ _ _ c.close_file.ensures.written c.close_file.ensures.next_file refl
    ∙ ap (λ blocks. write_entry (Wrote.Closed c.args.file c.args.actor c.args.command)
    (close_file c.args.file it.names.tree)
    (image_of it.turn it.clock it.servers it.names blocks it.leases it.dropped.items))
    c.seal.ensures
    ∙ ap (λ (held : Held). apply held.image (Made.CloseFile c.args.file c.args.actor c.args.command)) c.self.view_is
