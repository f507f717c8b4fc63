-- The choice of servers for new chunks: the one with the fewest live copies and grants.
use Rattle.std.specs.Prelude.{ℕ, nat_lt, Bool, cond, not, ◌&&◌, List, [], map, filter, fold, Option}
use Rattle.std.specs.Option.{option_map}
use Rattle.std.specs.List.{reduce, enumerate_from}
use Rattle.qfs_base.specs.declared.chunk.BlockId.{BlockId}
use Rattle.qfs_base.specs.declared.chunk.Copy.{Copy}
use Rattle.qfs_base.specs.declared.image.Load.{Load}
use Rattle.qfs_base.specs.declared.image.ServerView.{ServerView}
use Rattle.qfs_base.specs.declared.image.SlotRow.{SlotRow}
use Rattle.qfs_base.specs.NumberSet.{has, with_member}
use Rattle.qfs_model_meta.specs.Servers.{is_live}
use Rattle.qfs_model_meta.specs.Slots.{count_on, grants_of_block, copies_of_block}

-- what placement sees of a server: its load is the number of its live current copies and grants
unfoldable pub load_of : List SlotRow → ℕ → ServerView → Load
load_of slots number server =
    record { up = server.up; leaving = server.leaving; count = count_on number server.life slots }

-- what placement sees of all servers, by number
unfoldable pub census : List ServerView → List SlotRow → List Load
census servers slots = map (λ (s : ℕ × ServerView). load_of slots s.0 s.1) (enumerate_from 1 servers)

-- a server's number and load
abbrev pub Numbered : Type 0
Numbered = ℕ × Load

-- whether a server may get a new chunk: it is up, not leaving and not barred
unfoldable pub is_open : List ℕ → Numbered → Bool
is_open barred server = server.1.up && not server.1.leaving && not (has barred server.0)

-- the servers that may get a new chunk, by number
unfoldable pub open_servers : List ℕ → List Load → List Numbered
open_servers barred loads = filter (is_open barred) (enumerate_from 1 loads)

-- the server with the lower load, and of two with the same the first; and the one with the higher
unfoldable pub lighter : Numbered → Numbered → Numbered
lighter best next = cond (nat_lt next.1.count best.1.count) next best

unfoldable pub heavier : Numbered → Numbered → Numbered
heavier best next = cond (nat_lt best.1.count next.1.count) next best

-- of the servers that are up, not leaving and not barred, the one with the lowest load, and among
-- equals the one with the smallest number
unfoldable pub choose : List Load → List ℕ → Option ℕ
choose loads barred = option_map (λ (s : Numbered). s.0) (reduce lighter (open_servers barred loads))

-- the servers of those copies that are live, added to a set
unfoldable pub with_live_servers : List ServerView → List ℕ → List Copy → List ℕ
with_live_servers servers set copies =
    fold (λ members (copy : Copy). cond (is_live servers copy) (with_member members copy.server) members) set copies

-- the servers that are barred for a put of a slot: those with a live grant of its block, and those
-- that failed a put of the slot
unfoldable pub barred_for_put : List ServerView → List SlotRow → BlockId → List ℕ → List ℕ
barred_for_put servers slots block failed = with_live_servers servers failed (grants_of_block block slots)

-- the servers that are barred for a recovery or move: those with a live copy or grant of the block
unfoldable pub barred_for_block : List ServerView → List SlotRow → BlockId → List ℕ
barred_for_block servers slots block = with_live_servers servers [] (copies_of_block block slots)
