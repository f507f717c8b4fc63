-- What actors are told of blocks: their listed copies, and what a grant allows.
use Rattle.std.specs.Prelude.{ℕ, List, map, replicate, Option, Some, None, slice_set}
use Rattle.std.specs.List.{range_with_len}
use Rattle.qfs_base.specs.declared.chunk.BlockId.{BlockId}
use Rattle.qfs_base.specs.declared.chunk.Copy.{Copy}
use Rattle.qfs_base.specs.declared.image.MetaImage.{MetaImage}
use Rattle.qfs_base.specs.declared.image.ServerView.{ServerView}
use Rattle.qfs_base.specs.declared.image.SlotRow.{SlotRow}
use Rattle.qfs_base.specs.declared.reply.Granted.{Granted}
use Rattle.qfs_base.specs.Layout.{blocks_of, rows_of}
use Rattle.qfs_base.specs.Mask.{all_slots}
use Rattle.qfs_base.specs.Shape.{Shape}
use Rattle.qfs_base.specs.Sizes.{SLOTS}
use Rattle.qfs_model_meta.specs.Servers.{server_at, listed_copy}
use Rattle.qfs_model_meta.specs.Slots.{slot_at}

-- the copies of a block's nine slots
abbrev pub NineCopies : Type 0
NineCopies = List (Option Copy)

-- no copy of any slot, and that of one slot alone
unfoldable pub no_sources : NineCopies
no_sources = replicate SLOTS None

unfoldable pub one_source : ℕ → Copy → NineCopies
one_source slot copy = slice_set no_sources slot (Some copy)

-- the listed copies of a block, and those of all slots but one
unfoldable pub listed_nine : List ServerView → List SlotRow → BlockId → NineCopies
listed_nine servers slots block = map (λ slot. listed_copy servers (slot_at slots block slot).current) all_slots

unfoldable pub listed_others : List ServerView → List SlotRow → BlockId → ℕ → NineCopies
listed_others servers slots block slot = slice_set (listed_nine servers slots block) slot None

-- the listed copies of so many blocks of a file
unfoldable pub listed_blocks : List ServerView → List SlotRow → ℕ → ℕ → List NineCopies
listed_blocks servers slots file count =
    map (λ index. listed_nine servers slots (record { file = file; index = index })) (range_with_len 0 count)

-- how many blocks a file of so many bytes has
abbrev pub block_count : Shape → ℕ → ℕ
block_count layout len = blocks_of layout.s layout.r len

-- what an actor is told of a grant that it is about to get, for a slot of a file of len bytes
unfoldable pub new_grant : Shape → ℕ → BlockId → ℕ → ℕ → ℕ → NineCopies → MetaImage → Granted
new_grant layout len block slot server lease sources m =
    record {
      block = block;
      slot = slot;
      version = (slot_at m.slots block slot).next;
      server = server;
      life = (server_at m.servers server).life;
      lease = lease;
      sources = sources;
      rows = rows_of layout.s layout.r len block.index;
    }
