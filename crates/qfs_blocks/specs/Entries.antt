-- Condemned copies as the tables keep them: the live leases on a copy's file that have numbers
-- below one block it.
use Rattle.std.specs.Prelude.{◌≡◌, ℕ, nat_lt, ◌==◌, Bool, true, false, not, ◌&&◌, cond, List, find}
use Rattle.std.specs.Prelude.{filter, map, Option, Some, None}
use Rattle.std.specs.declared.cmp.Ordering.{Ordering}
use Rattle.std.specs.declared.cmp.Ordering.TheVariants.{Equal, Greater}
use Rattle.std.specs.Ordering.{nat_cmp}
use Rattle.qfs_base.specs.declared.chunk.BlockId.{BlockId}
use Rattle.qfs_base.specs.declared.chunk.Copy.{Copy}
use Rattle.qfs_base.specs.declared.image.CondemnedEntry.{CondemnedEntry}
use Rattle.qfs_base.specs.declared.image.CondemnedRow.{CondemnedRow}
use Rattle.qfs_base.specs.declared.image.Lease.{Lease}
use Rattle.qfs_base.specs.declared.image.ServerView.{ServerView}
use Rattle.qfs_base.specs.declared.reply.Condemned.{Condemned}
use Rattle.qfs_base.specs.Table.{Each, has_key, without, change_where}
use Rattle.qfs_lease.specs.LiveLeases.{is_held_below}
use Rattle.qfs_model_meta.specs.Leases.{leases_on}
use Rattle.qfs_model_meta.specs.Servers.{is_listed}
use Rattle.qfs_model_meta.specs.Slots.{same_block, same_copy}

-- the order of entries: by number
abbrev pub entry_order : ℕ → CondemnedEntry → Ordering
entry_order number entry = nat_cmp number entry.condemned.number

abbrev pub entry_cmp : CondemnedEntry → CondemnedEntry → Ordering
entry_cmp a b = entry_order a.condemned.number b

-- a copy that was condemned just now, when the next lease had this number
abbrev pub new_entry : ℕ → BlockId → ℕ → Copy → ℕ → CondemnedEntry
new_entry number block slot copy below =
    record {
      condemned = record { number = number; block = block; slot = slot; copy = copy };
      ordered = false;
      below = below;
    }

-- the entries above a number
abbrev pub above_order : ℕ → CondemnedEntry → Ordering
above_order number entry = cond (nat_lt number entry.condemned.number) Equal Greater

abbrev pub condemned_of : CondemnedEntry → Condemned
condemned_of entry = entry.condemned

-- whether an entry has this number, is a copy on this server, or is this copy of this slot
abbrev pub is_entry : ℕ → CondemnedEntry → Bool
is_entry number entry = has_key (entry_order number) entry

abbrev pub is_entry_on : ℕ → CondemnedEntry → Bool
is_entry_on server entry = entry.condemned.copy.server == server

abbrev pub is_entry_of : BlockId → ℕ → Copy → CondemnedEntry → Bool
is_entry_of block slot copy entry =
    same_block entry.condemned.block block && (entry.condemned.slot == slot)
    && same_copy entry.condemned.copy copy

-- the entry of a number is on a server
abbrev pub AreOn : ℕ → ℕ → List CondemnedEntry → Type 0
AreOn server number entries =
    Each (λ entry. is_entry number entry ≡ true → is_entry_on server entry ≡ true) entries

-- whether no live lease blocks an entry
abbrev pub is_free : List Lease → CondemnedEntry → Bool
is_free leases entry = not (is_held_below entry.condemned.block.file entry.below leases)

-- whether an entry may be ordered deleted: its server is up, it is live, and no live lease blocks
-- it
abbrev pub entry_may_go : List ServerView → List Lease → CondemnedEntry → Bool
entry_may_go servers leases entry = is_listed servers entry.condemned.copy && is_free leases entry

-- the first entry above a number that may be ordered deleted
abbrev pub next_entry : List ServerView → List Lease → ℕ → List CondemnedEntry
    → Option CondemnedEntry
next_entry servers leases after entries =
    find (λ (entry : CondemnedEntry). nat_lt after entry.condemned.number
    && entry_may_go servers leases entry)
    entries

-- an entry whose deletion was ordered
abbrev pub ordered_entry : CondemnedEntry → CondemnedEntry
ordered_entry entry = record entry { ordered = true }

-- the entries after one was ordered deleted
abbrev pub mark_entry : ℕ → List CondemnedEntry → List CondemnedEntry
mark_entry number entries = change_where (is_entry number) ordered_entry entries

-- whether there is an entry, and its deletion was ordered
abbrev pub is_ordered : Option CondemnedEntry → Bool
is_ordered None = false
is_ordered (Some entry) = entry.ordered

-- whether the copy of a number is there to be swept: it was ordered deleted
abbrev pub is_swept : ℕ → CondemnedEntry → Bool
is_swept number entry = is_entry number entry && entry.ordered

-- the entries after the copy of a number is gone, if it was ordered
abbrev pub sweep_entry : ℕ → List CondemnedEntry → List CondemnedEntry
sweep_entry number entries = without (is_swept number) entries

-- an entry as an image has it, with the live leases that block it
abbrev pub row_of_entry : List Lease → CondemnedEntry → CondemnedRow
row_of_entry leases entry =
    record {
      condemned = entry.condemned;
      ordered = entry.ordered;
      blockers = filter (λ lease. nat_lt lease entry.below)
          (leases_on entry.condemned.block.file leases);
    }

abbrev pub rows_of_entries : List Lease → List CondemnedEntry → List CondemnedRow
rows_of_entries leases entries = map (row_of_entry leases) entries
