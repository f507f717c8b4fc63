-- What placement sees of the servers, by their numbers from 1, and how it changes with the copies
-- that stand on them.
use Rattle.std.specs.Prelude.{ℕ, zero, suc, ◌+◌, ◌-◌, true, false, cond, List, Option, Some, None, slice_index_or, slice_set}
use Rattle.qfs_base.specs.declared.chunk.Copy.{Copy}
use Rattle.qfs_base.specs.declared.image.Load.{Load}
use Rattle.qfs_base.specs.declared.image.ServerView.{ServerView}
use Rattle.qfs_base.specs.declared.image.SlotRow.{SlotRow}
use Rattle.qfs_model_meta.specs.Servers.{is_live}
use Rattle.qfs_model_meta.specs.Slots.{granted_copy}

-- what is seen of a server that isn't there
abbrev pub no_load : Load
no_load = record { up = false; leaving = true; count = 0 }

-- the load of a server
abbrev pub load_at : List Load → ℕ → Load
load_at loads zero = no_load
load_at loads (suc n) = slice_index_or loads n no_load

-- the loads with this one of a server, if it is there
abbrev pub with_load : List Load → ℕ → Load → List Load
with_load loads zero load = loads
with_load loads (suc n) load = slice_set loads n load

-- the loads after that of a server changed
abbrev pub change_load : (Load → Load) → List Load → ℕ → List Load
change_load change loads server = with_load loads server (change (load_at loads server))

-- a server with one copy more, and with one fewer
abbrev pub one_more : Load → Load
one_more load = record load { count = load.count + 1 }

abbrev pub one_fewer : Load → Load
one_fewer load = record load { count = load.count - 1 }

-- a server's load once it is up or leaving as it is now
abbrev pub seen_as : ServerView → Load → Load
seen_as server load = record load { up = server.up; leaving = server.leaving }

-- the same where it came up with so many copies, and where it came up with none
abbrev pub counted_as : ServerView → ℕ → Load → Load
counted_as server count load = record { up = server.up; leaving = server.leaving; count = count }

abbrev pub emptied_as : ServerView → Load → Load
emptied_as server = counted_as server 0

-- the loads once a copy, if it is live, came to its server, and once it left it
abbrev pub count_live : List ServerView → Option Copy → List Load → List Load
count_live servers None loads = loads
count_live servers (Some copy) loads =
    cond (is_live servers copy) (change_load one_more loads copy.server) loads

abbrev pub uncount_live : List ServerView → Option Copy → List Load → List Load
uncount_live servers None loads = loads
uncount_live servers (Some copy) loads =
    cond (is_live servers copy) (change_load one_fewer loads copy.server) loads

-- the same of the current copy of a slot and the one that its pending grant allows
abbrev pub count_row : List ServerView → List Load → SlotRow → List Load
count_row servers loads row =
    count_live servers (granted_copy row.state.grant) (count_live servers row.state.current loads)

abbrev pub uncount_row : List ServerView → List Load → SlotRow → List Load
uncount_row servers loads row =
    uncount_live servers (granted_copy row.state.grant)
    (uncount_live servers row.state.current loads)
