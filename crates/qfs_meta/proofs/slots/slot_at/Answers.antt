use Rattle.std.proofs.Common.{ap, sym, ◌∙◌}
use Rattle.std.specs.Option.{option_copied, option_map}
use Rattle.std.specs.Prelude.{unwrap_or}
use Rattle.qfs_base.specs.declared.image.SlotRow.{SlotRow}
use Rattle.qfs_model_meta.specs.Slots.{never_granted}
use Rattle.qfs_meta.proofs.SlotLaws.{by_slot, known_of_slot}
use Rattle.qfs_meta.proofs.slots.slot_at.Goals as goal

pub rows_of-requires : goal.rows_of-requires
rows_of-requires c = by_slot (record { block = c.args.block; slot = c.args.slot }) c.args.slots.now c.requires

pub returns-in-Some : goal.returns-in-Some
returns-in-Some c =
    ap (λ row. unwrap_or (option_map (λ (r : SlotRow). r.state) (option_copied row)) never_granted) (sym c.in-Some.is)
    ∙ known_of_slot (record { block = c.args.block; slot = c.args.slot }) c.args.slots.now _ _ c.rows_of.ensures c.first.ensures.value

pub returns-in-None : goal.returns-in-None
returns-in-None c =
    c.never_granted.ensures
    ∙ ap (λ row. unwrap_or (option_map (λ (r : SlotRow). r.state) (option_copied row)) never_granted) (sym c.in-None.is)
    ∙ known_of_slot (record { block = c.args.block; slot = c.args.slot }) c.args.slots.now _ _ c.rows_of.ensures c.first.ensures.value
