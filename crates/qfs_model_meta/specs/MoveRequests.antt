-- The requests that grant the move of a copy to another server: a given one, the one that an
-- evacuation chooses, or one that has fewer copies.
use Rattle.std.specs.Prelude.{ℕ, ◌+◌, nat_lt, nat_le, Bool, not, ◌&&◌, List, [], find, Option}
use Rattle.std.specs.List.{reduce}
use Rattle.qfs_base.specs.declared.chunk.BlockId.{BlockId}
use Rattle.qfs_base.specs.declared.chunk.Copy.{Copy}
use Rattle.qfs_base.specs.declared.image.Grant.{Grant}
use Rattle.qfs_base.specs.declared.image.MetaImage.{MetaImage}
use Rattle.qfs_base.specs.declared.image.ServerView.{ServerView}
use Rattle.qfs_base.specs.declared.image.SlotRecord.{SlotRecord}
use Rattle.qfs_base.specs.declared.image.SlotRow.{SlotRow}
use Rattle.qfs_base.specs.declared.reply.MetaReply.TheVariants as Told
use Rattle.qfs_base.specs.declared.request.SlotId.{SlotId}
use Rattle.qfs_base.specs.NameTree.{PathNames, look_refusal}
use Rattle.qfs_base.specs.NumberSet.{has}
use Rattle.qfs_base.specs.Shape.{Shape}
use Rattle.qfs_model_meta.specs.Decision.{Decision, refuse, unless, need, refuse_path}
use Rattle.qfs_model_meta.specs.LeasedGrants.{pending_refusal, comes_after, is_at_rest, is_live_on, grant_leased, grant_chosen, move_source}
use Rattle.qfs_model_meta.specs.Lists.{block_count, one_source}
use Rattle.qfs_model_meta.specs.Placing.{Numbered, census, open_servers, lighter, heavier, barred_for_block}
use Rattle.qfs_model_meta.specs.Servers.{server_at, is_listed, takes_chunks}
use Rattle.qfs_model_meta.specs.Slots.{slot_id, slot_at}
use Rattle.qfs_model_meta.specs.TreeRows.{standing, row_at}

-- whether a server has a live copy or grant of a block
unfoldable pub is_barred : List ServerView → List SlotRow → BlockId → ℕ → Bool
is_barred servers slots block server = has (barred_for_block servers slots block) server

-- whether a server may get a copy of a block
unfoldable pub may_get : List ServerView → List SlotRow → BlockId → ℕ → Bool
may_get servers slots block server =
    takes_chunks (server_at servers server) && not (is_barred servers slots block server)

-- a current copy is to move to a given server, or refused
unfoldable pub move_copy : Shape → ℕ → ℕ → BlockId → ℕ → ℕ → MetaImage → Option Grant → Copy → Decision
move_copy layout term actor block slot to m pending copy =
    refuse (pending_refusal pending)
    (unless (is_listed m.servers copy) (Told.Away copy.server)
    (unless (may_get m.servers m.slots block to) (Told.Barred to)
    (grant_leased layout term actor block slot (one_source slot copy) m to)))

-- the current copy of a slot of a file is to move to a given server
unfoldable pub decide_move : Shape → ℕ → ℕ → PathNames → ℕ → ℕ → ℕ → MetaImage → Decision
decide_move layout term actor path index slot to m =
    let block : BlockId = record { file = (row_at m.tree path).file; index = index } in
    let state : SlotRecord = slot_at m.slots block slot in
    refuse_path (look_refusal (standing m.tree) path)
    (unless (nat_lt index (block_count layout (row_at m.tree path).len)) Told.NoBlock
    (need Told.NoBlock (move_copy layout term actor block slot to m state.grant) state.current))

-- whether a slot's copy is live on a server, and isn't being recovered or moved already
unfoldable pub is_to_move : Shape → ℕ → MetaImage → SlotRow → Bool
is_to_move layout server m row =
    is_at_rest layout m.tree row && is_live_on m.servers server row.state.current

-- the first such slot behind another
unfoldable pub next_to_move : Shape → ℕ → Option SlotId → MetaImage → Option SlotRow
next_to_move layout server after m =
    find (λ (row : SlotRow). comes_after after (slot_id row) && is_to_move layout server m row) m.slots

-- a slot's copy is to move to a server that is chosen
unfoldable pub evacuate_slot : Shape → ℕ → ℕ → MetaImage → SlotRow → Decision
evacuate_slot layout term actor m row =
    grant_chosen layout term actor row.block row.slot (move_source row.slot row.state.current) m

-- the next copy on a server is to move away
unfoldable pub decide_evacuate : Shape → ℕ → ℕ → ℕ → Option SlotId → MetaImage → Decision
decide_evacuate layout term actor server after m =
    need Told.Nothing (evacuate_slot layout term actor m) (next_to_move layout server after m)

-- whether a slot's copy may move from one server to another
unfoldable pub fits_move : Shape → ℕ → ℕ → MetaImage → SlotRow → Bool
fits_move layout giver taker m row =
    is_to_move layout giver m row && not (is_barred m.servers m.slots row.block taker)

-- a slot's copy is to move to a given server
unfoldable pub move_slot : Shape → ℕ → ℕ → ℕ → MetaImage → SlotRow → Decision
move_slot layout term actor to m row =
    grant_leased layout term actor row.block row.slot (move_source row.slot row.state.current) m to

-- the first copy that fits is to move from one server to another, if that makes their loads more even
unfoldable pub even_out : Shape → ℕ → ℕ → MetaImage → Numbered → Numbered → Decision
even_out layout term actor m giver taker =
    unless (nat_le (taker.1.count + 2) giver.1.count) Told.Nothing
    (need Told.Nothing (move_slot layout term actor taker.0 m)
    (find (fits_move layout giver.0 taker.0 m) m.slots))

-- the server with the highest load gives to the one with the lowest
unfoldable pub give_to_lightest : Shape → ℕ → ℕ → MetaImage → List Numbered → Numbered → Decision
give_to_lightest layout term actor m takers giver =
    need Told.Nothing (even_out layout term actor m giver) (reduce lighter takers)

-- the servers that take chunks are made more even; among equals each is the one with the smallest
-- number
unfoldable pub decide_balance : Shape → ℕ → ℕ → MetaImage → Decision
decide_balance layout term actor m =
    let takers : List Numbered = open_servers [] (census m.servers m.slots) in
    need Told.Nothing (give_to_lightest layout term actor m takers) (reduce heavier takers)
