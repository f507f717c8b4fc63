-- A put: Create; for each block and each slot a Grant and a Put, again under a new grant where a Put failed; Close. The
-- file is aborted where the command ends early.
use Rattle.std.specs.Prelude.{ℕ, zero, suc, ◌+◌, ◌-◌, Bool, true, false, List, length}
use Rattle.std.specs.List.{range_with_len}
use Rattle.qfs_base.specs.Layout.{blocks_of}
use Rattle.qfs_base.specs.Shape.{Shape}
use Rattle.qfs_base.specs.declared.command.Reply.TheVariants as Report
use Rattle.qfs_base.specs.declared.reply.Granted.{Granted}
use Rattle.qfs_base.specs.declared.reply.MetaReply.{MetaReply}
use Rattle.qfs_base.specs.declared.reply.MetaReply.TheVariants as Said
use Rattle.qfs_base.specs.declared.request.ChunkRequest.TheVariants as Serve
use Rattle.qfs_base.specs.declared.request.MetaRequest.TheVariants as Ask
use Rattle.qfs_base.specs.Mask.{all_slots}
use Rattle.qfs_base.specs.Sizes.{SLOTS}
use Rattle.qfs_model_slot.specs.Slot.{slot_of}
use Rattle.qfs_model_actor.specs.Work.{Work, ends, for_each}
use Rattle.qfs_model_actor.specs.Hold.{nothing, unclosed, unnamed}
use Rattle.qfs_model_actor.specs.Ask.{ask, ask_server, key_of, after_store}
use Rattle.qfs_model_actor.specs.Tree.{refused}
use Rattle.qfs_model_actor.specs.Grants.{with_grant_of}

-- how many grants of one slot a put takes
abbrev pub MOST_GRANTS : ℕ
MOST_GRANTS = 64

-- the file was given up for want of a server
unfoldable pub aborted : ℕ → ℕ → MetaReply → Work
aborted index slot (Said.Done place) = ends (Report.PutNoServer place index slot)
aborted index slot answer = unnamed

-- a slot has a server, or none is left for it
unfoldable pub chosen : ℕ → ℕ → ℕ → (Granted → Work) → MetaReply → Work
chosen file index slot next (Said.Granted g) = with_grant_of index slot next g
chosen file index slot next (Said.NoServer block at) = ask nothing (Ask.Abort file) (aborted index slot)
chosen file index slot next answer = unnamed

-- asks for a server for a slot, `again` after one failed
unfoldable pub ask_grant : ℕ → ℕ → ℕ → Bool → (Granted → Work) → Work
ask_grant file index slot again next =
    ask (unclosed file) (Ask.Grant file index slot again) (chosen file index slot next)

-- stores a slot on the server of its grant
unfoldable pub store : Shape → List ℕ → ℕ → ℕ → ℕ → Work → Work → Granted → Work
store layout bytes file index slot stored failed g =
    ask_server (unclosed file) g.server
    (Serve.Put (key_of (record { file = file; index = index }) slot g.version) g.life (slot_of layout bytes index slot))
    (after_store stored (λ cause. failed))

-- stores a slot under at most so many grants, and goes on; one grant more is none that a put takes
unfoldable pub store_slot : ℕ → Bool → Shape → List ℕ → ℕ → ℕ → ℕ → Work → Work
store_slot zero again layout bytes file index slot rest = ask_grant file index slot again (λ g. unnamed)
store_slot (suc grants) again layout bytes file index slot rest =
    ask_grant file index slot again
    (λ g. store layout bytes file index slot rest (store_slot grants true layout bytes file index slot rest) g)

-- the slots of a block from this one on, and the blocks of a file of len bytes
abbrev pub slots_from : ℕ → List ℕ
slots_from slot = range_with_len slot (SLOTS - slot)

abbrev pub blocks_from : Shape → ℕ → ℕ → List ℕ
blocks_from layout len index = range_with_len index (blocks_of layout.s layout.r len - index)

-- stores these slots of a block, and goes on
unfoldable pub store_slots : Shape → List ℕ → ℕ → ℕ → List ℕ → Work → Work
store_slots layout bytes file index slots rest = for_each (store_slot MOST_GRANTS false layout bytes file index) slots rest

-- stores all slots of these blocks, and goes on
unfoldable pub store_blocks : Shape → List ℕ → ℕ → List ℕ → Work → Work
store_blocks layout bytes file blocks rest =
    for_each (λ index more. store_slots layout bytes file index all_slots more) blocks rest

-- the file was closed
unfoldable pub closed : ℕ → MetaReply → Work
closed len (Said.Done place) = ends (Report.Stored place len)
closed len answer = unnamed

unfoldable pub close_file : ℕ → ℕ → Work
close_file len file = ask (unclosed file) (Ask.Close file) (closed len)

-- what is left of a put from block `index` on
unfoldable pub put_blocks_from : Shape → List ℕ → ℕ → ℕ → Work
put_blocks_from layout bytes file index =
    store_blocks layout bytes file (blocks_from layout (length bytes) index) (close_file (length bytes) file)

-- what is left of a put from a slot of block `index` on
unfoldable pub put_slots_from : Shape → List ℕ → ℕ → ℕ → ℕ → Work
put_slots_from layout bytes file index slot =
    store_slots layout bytes file index (slots_from slot) (put_blocks_from layout bytes file (index + 1))

-- the file is there
unfoldable pub created : Shape → List ℕ → MetaReply → Work
created layout bytes (Said.Created file place) = put_blocks_from layout bytes file 0
created layout bytes answer = refused answer

-- the put that is the actor's command of this number
unfoldable pub put_work : Shape → ℕ → List (List ℕ) → List ℕ → Work
put_work layout number path bytes = ask nothing (Ask.Create path number (length bytes)) (created layout bytes)
