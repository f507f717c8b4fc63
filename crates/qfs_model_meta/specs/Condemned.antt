-- Condemned copies: they wait for their deletion, in the order of their numbers, each with the live
-- leases that block it.
use Rattle.std.specs.Prelude.{ℕ, ◌+◌, ◌==◌, nat_lt, Bool, true, false, ◌&&◌, List, [], ◌∷◌, ◌++◌, map, find, Option, Some, None}
use Rattle.std.specs.declared.cmp.Ordering.{Ordering}
use Rattle.std.specs.Ordering.{nat_cmp}
use Rattle.qfs_base.specs.declared.chunk.BlockId.{BlockId}
use Rattle.qfs_base.specs.declared.chunk.Copy.{Copy}
use Rattle.qfs_base.specs.declared.image.CondemnedRow.{CondemnedRow}
use Rattle.qfs_base.specs.declared.image.Lease.{Lease}
use Rattle.qfs_base.specs.declared.image.MetaImage.{MetaImage}
use Rattle.qfs_base.specs.declared.image.ServerView.{ServerView}
use Rattle.qfs_base.specs.Table.{has_key, without, change_where}
use Rattle.qfs_model_meta.specs.Leases.{leases_on}
use Rattle.qfs_model_meta.specs.Servers.{is_listed, is_live}
use Rattle.qfs_model_meta.specs.Slots.{same_block, same_copy}

-- a copy that was condemned just now: all live leases on its file block it
unfoldable pub condemned_row : ℕ → BlockId → ℕ → Copy → List Lease → CondemnedRow
condemned_row number block slot copy leases =
    record {
      condemned = record { number = number; block = block; slot = slot; copy = copy };
      ordered = false;
      blockers = leases_on block.file leases;
    }

-- the state with a copy put last on the list of condemned copies, if it is live; else it is forgotten
unfoldable pub list_if_live : CondemnedRow → MetaImage → Bool → MetaImage
list_if_live row m false = m
list_if_live row m true =
    record m { condemned = m.condemned ++ row ∷ []; next_condemned = m.next_condemned + 1 }

-- the state after a copy of a slot was condemned
unfoldable pub condemn : BlockId → ℕ → Copy → MetaImage → MetaImage
condemn block slot copy m =
    list_if_live (condemned_row m.next_condemned block slot copy m.leases) m (is_live m.servers copy)

-- the same where there may be no such copy
unfoldable pub condemn_any : BlockId → ℕ → MetaImage → Option Copy → MetaImage
condemn_any block slot m None = m
condemn_any block slot m (Some copy) = condemn block slot copy m

-- the order of condemned copies: by number
abbrev pub condemned_order : ℕ → CondemnedRow → Ordering
condemned_order number row = nat_cmp number row.condemned.number

abbrev pub condemned_cmp : CondemnedRow → CondemnedRow → Ordering
condemned_cmp a b = condemned_order a.condemned.number b

-- whether a row has this number, or is a copy on this server
unfoldable pub is_numbered : ℕ → CondemnedRow → Bool
is_numbered number row = has_key (condemned_order number) row

unfoldable pub is_on_server : ℕ → CondemnedRow → Bool
is_on_server server row = row.condemned.copy.server == server

-- whether a row is this copy of this slot
unfoldable pub is_copy_of : BlockId → ℕ → Copy → CondemnedRow → Bool
is_copy_of block slot copy row =
    same_block row.condemned.block block && (row.condemned.slot == slot) && same_copy row.condemned.copy copy

-- whether no live lease blocks a condemned copy
unfoldable pub is_unblocked : List ℕ → Bool
is_unblocked [] = true
is_unblocked (lease ∷ leases) = false

-- whether a condemned copy may be ordered deleted: its server is up, it is live, and no live lease
-- blocks it
unfoldable pub may_go : List ServerView → CondemnedRow → Bool
may_go servers row = is_listed servers row.condemned.copy && is_unblocked row.blockers

-- the first condemned copy above a number that may be ordered deleted
unfoldable pub next_to_go : List ServerView → ℕ → List CondemnedRow → Option CondemnedRow
next_to_go servers after rows =
    find (λ (row : CondemnedRow). nat_lt after row.condemned.number && may_go servers row) rows

-- a row without a lease that ended
unfoldable pub unblock : ℕ → CondemnedRow → CondemnedRow
unblock lease row = record row { blockers = without (λ blocker. blocker == lease) row.blockers }

-- the rows after a lease ended: it blocks nothing any more
unfoldable pub unblock_all : ℕ → List CondemnedRow → List CondemnedRow
unblock_all lease rows = map (unblock lease) rows

-- the rows after one was ordered deleted
unfoldable pub mark_ordered : ℕ → List CondemnedRow → List CondemnedRow
mark_ordered number rows = change_where (is_numbered number) (λ (row : CondemnedRow). record row { ordered = true }) rows

-- the rows after the copy of a number is gone, if it was ordered
unfoldable pub sweep : ℕ → List CondemnedRow → List CondemnedRow
sweep number rows = without (λ (row : CondemnedRow). is_numbered number row && row.ordered) rows

-- the rows after a server came up in this life: where that is a new life, its copies are gone
unfoldable pub forget_if_risen : ℕ → List CondemnedRow → Bool → List CondemnedRow
forget_if_risen server rows false = rows
forget_if_risen server rows true = without (is_on_server server) rows
