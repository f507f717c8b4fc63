-- What the changes of condemned copies leave: they keep slots and loads.
use Rattle.std.proofs.Common.{ℕ, List}
use Rattle.qfs_base.specs.declared.change.Change.TheVariants.{MarkOrdered, TakeCondemned}
use Rattle.qfs_base.specs.declared.image.Load.{Load}
use Rattle.qfs_base.specs.declared.image.MetaImage.{MetaImage}
use Rattle.qfs_base.specs.EachLaws.{each_filter}
use Rattle.qfs_blocks.specs.BlockTables.{BlockTables}
use Rattle.qfs_blocks.specs.Entries.{mark_entry, ordered_entry, sweep_entry}
use Rattle.qfs_blocks.specs.ImageLaws.{marked_is, swept_is}
use Rattle.qfs_laws_tables.specs.EachRow.{each_change}
use Rattle.qfs_model_meta.specs.Apply.{apply}
use Rattle.qfs_state.specs.Held.{IsHeld}
use Rattle.qfs_state.proofs.SlotChanges.{IsMade, leases_in, made}

module _ (m : MetaImage) (spare : ℕ) (before : BlockTables) (loads : List Load)
    (held : IsHeld m.servers before (leases_in m spare) m.dropped loads) where
  pub marked : (number : ℕ) → IsMade m spare before
      (record before { condemned = mark_entry number before.condemned }) loads
      (MarkOrdered number)
  unfolding apply
  marked number =
      made m spare before loads held (MarkOrdered number) _ loads
      (λ i. record m {
        slots = before.slots;
        condemned = marked_is number m.leases before.condemned i;
        next_condemned = before.next;
      })
      (record {
        slots = held.slots_fit;
        below = each_change _ _ _ ordered_entry (λ entry _ is. is) (λ entry _ is. is)
            before.condemned held.below;
      }) held.counted

  pub swept : (number : ℕ) → IsMade m spare before
      (record before { condemned = sweep_entry number before.condemned }) loads
      (TakeCondemned number)
  unfolding apply
  swept number =
      made m spare before loads held (TakeCondemned number) _ loads
      (λ i. record m {
        slots = before.slots;
        condemned = swept_is number m.leases before.condemned i;
        next_condemned = before.next;
      })
      (record {
        slots = held.slots_fit;
        below = each_filter _ _ before.condemned held.below;
      }) held.counted
