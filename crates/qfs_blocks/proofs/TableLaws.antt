-- The tables of condemned copies after a change. For the calls of `Entries`.
use Rattle.std.proofs.Common.{◌≡◌, ◌<◌, ◌≤◌, ◌+◌, ◌∙◌, ap, sym, subst, arith, refl, ℕ, List}
use Rattle.std.proofs.Common.{find, Some, None}
use Rattle.std.specs.List.{list_any}
use Rattle.qfs_base.specs.declared.image.CondemnedEntry.{CondemnedEntry}
use Rattle.qfs_base.specs.EachLaws.{each_filter, each_weaker}
use Rattle.qfs_base.specs.Sizes.{LAST_U64}
use Rattle.qfs_base.specs.Table.{Each, IsRising, has_key, place, without}
use Rattle.qfs_laws_tables.specs.EachRow.{each_change, each_push, none_found}
use Rattle.qfs_laws_tables.specs.InOrder.{change_rises, filter_rises, place_rises}
use Rattle.qfs_table.specs.Tables.{Contents}
use Rattle.qfs_blocks.specs.declared.index.CopyRow.{CopyRow}
use Rattle.qfs_blocks.specs.BlockTables.{AreEntries}
use Rattle.qfs_blocks.specs.CopyIndex.{IsCopyIndex, copy_cmp, copy_row}
use Rattle.qfs_blocks.specs.Entries.{entry_cmp, is_entry, mark_entry, ordered_entry}
use Rattle.qfs_blocks.proofs.EntryLaws.{entry_cmp_total, found_number, put_last}
use Rattle.qfs_blocks.proofs.IndexLaws.{index_put, index_taken}
use Rattle.qfs_blocks.proofs.RowLaws.{any_changed, without_none}

-- an index of equal rows and entries
same_index : (rows new_rows : List CopyRow) (entries new_entries : List CondemnedEntry)
    → new_rows ≡ rows → new_entries ≡ entries → IsCopyIndex rows entries
    → IsCopyIndex new_rows new_entries
same_index rows new_rows entries new_entries same alike is test =
    ap (list_any test) same ∙ is test
    ∙ ap (list_any (λ entry. test (copy_row entry))) (sym alike)

module _ {table : Contents CondemnedEntry} {copies : Contents CopyRow} {next : ℕ}
    (are : AreEntries table copies next)
    (now : Contents CondemnedEntry) (copies_now : Contents CopyRow) where
  -- an entry above all others was put
  pub entries_put : (new : CondemnedEntry) → next ≤ new.condemned.number
      → new.condemned.number < LAST_U64 → now.rows ≡ place entry_cmp new table.rows
      → copies_now.rows ≡ place copy_cmp (copy_row new) copies.rows
      → now.spare + 1 ≡ table.spare → copies.spare ≤ copies_now.spare + 1
      → AreEntries now copies_now (new.condemned.number + 1)
  entries_put new high low n c spare few =
      let last = n ∙ put_last new next table.rows are.numbers high in
      let below : Each (λ (entry : CondemnedEntry).
      entry.condemned.number < new.condemned.number) table.rows =
      each_weaker (λ (entry : CondemnedEntry). entry.condemned.number < next) _
      (λ entry less. omega arith) table.rows are.numbers in
      record {
        in_order = subst (IsRising entry_cmp) (sym n)
            (place_rises entry_cmp_total new table.rows are.in_order);
        numbers = subst (Each (λ (entry : CondemnedEntry).
            entry.condemned.number < new.condemned.number + 1)) (sym last)
            (each_push _ table.rows new
            (each_weaker (λ (entry : CondemnedEntry).
            entry.condemned.number < new.condemned.number) _
            (λ entry less. omega arith) table.rows below) (omega arith));
        index = same_index _ copies_now.rows _ now.rows c last
            (index_put new copies.rows table.rows are.index below);
        room = omega (arith, are.room);
        last = omega arith;
      }

  -- one was marked
  pub entries_marked : (number : ℕ) → now.rows ≡ mark_entry number table.rows
      → now.spare ≡ table.spare → AreEntries now copies next
  entries_marked number n spare =
      record {
        in_order = subst (IsRising entry_cmp) (sym n)
            (change_rises entry_cmp (is_entry number) ordered_entry (λ a b. refl) (λ a b. refl)
            table.rows are.in_order);
        numbers = subst (Each (λ (entry : CondemnedEntry). entry.condemned.number < next)) (sym n)
            (each_change (λ (entry : CondemnedEntry). entry.condemned.number < next)
            (λ (entry : CondemnedEntry). entry.condemned.number < next) (is_entry number)
            ordered_entry (λ entry _ low. low) (λ entry _ low. low) table.rows are.numbers);
        index = λ test. are.index test
            ∙ sym (any_changed (λ entry. test (copy_row entry)) (is_entry number) ordered_entry
            (λ entry. refl) table.rows)
            ∙ ap (list_any (λ entry. test (copy_row entry))) (sym n);
        room = omega (arith, are.room);
        last = are.last;
      }

  -- one was taken off
  pub entries_taken : (number : ℕ) (found : CondemnedEntry)
      → find (is_entry number) table.rows ≡ Some found
      → now.rows ≡ without (is_entry number) table.rows
      → copies_now.rows ≡ without (has_key (copy_cmp (copy_row found))) copies.rows
      → now.spare ≡ table.spare → copies_now.spare ≡ copies.spare
      → AreEntries now copies_now next
  entries_taken number found at n c spare copies_spare = record {
    in_order = subst (IsRising entry_cmp) (sym n)
        (filter_rises entry_cmp _ table.rows are.in_order);
    numbers = subst (Each (λ (entry : CondemnedEntry). entry.condemned.number < next)) (sym n)
        (each_filter _ _ table.rows are.numbers);
    index = same_index _ copies_now.rows _ now.rows c n
        (index_taken number found copies.rows table.rows are.index are.in_order
        (found_number number found table.rows at) at);
    room = omega (arith, are.room);
    last = are.last;
  }

  -- none was there to be taken off
  pub entries_kept : (number : ℕ) → find (is_entry number) table.rows ≡ None
      → now.rows ≡ without (is_entry number) table.rows → now.spare ≡ table.spare
      → AreEntries now copies next
  entries_kept number none n spare =
      let same = n ∙ without_none (is_entry number) table.rows
      (none_found (is_entry number) table.rows none) in
      record {
        in_order = subst (IsRising entry_cmp) (sym same) are.in_order;
        numbers = subst (Each (λ (entry : CondemnedEntry). entry.condemned.number < next))
            (sym same)
            are.numbers;
        index = same_index _ copies.rows _ now.rows refl same are.index;
        room = omega (arith, are.room);
        last = are.last;
      }
