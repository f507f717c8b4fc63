-- A worked run over a state that no run leads to and only an image from elsewhere spells: a closed file without slot records,
-- and a record beyond the file's blocks.
use Rattle.std.specs.Prelude.{◌≡◌, ℕ, true, List, [], ◌∷◌, replicate, Option, Some, None}
use Rattle.qfs_base.specs.declared.image.MetaImage.{MetaImage}
use Rattle.qfs_base.specs.declared.image.SlotRow.{SlotRow}
use Rattle.qfs_base.specs.declared.image.TreeRow.{TreeRow}
use Rattle.qfs_base.specs.declared.reply.MetaReply.{MetaReply}
use Rattle.qfs_base.specs.declared.reply.MetaReply.TheVariants as Told
use Rattle.qfs_base.specs.declared.request.MetaRequest.TheVariants as Ask
use Rattle.qfs_base.specs.declared.request.SlotId.{SlotId}
use Rattle.qfs_model_meta.specs.Step.{opening}
use Rattle.qfs_model_meta.specs.Worked.{Asked, run, path_a, first_block, copy_on, grant_on, leased_on}

-- a closed file of one block, of whose slots no record is there
abbrev pub closed_row : TreeRow
closed_row = record { path = path_a; file = 1; closed = true; actor = 1; command = 1; len = 1 }

-- a slot of a second block, which the file doesn't have
abbrev pub row_beyond : SlotRow
row_beyond = record {
  block = record { file = 1; index = 1 };
  slot = 0;
  state = record { next = 2; current = Some (copy_on 1 1); grant = None; failed = [] };
}

abbrev pub foreign : MetaImage
foreign = record (opening 9) { next_file = 2; tree = closed_row ∷ []; slots = row_beyond ∷ [] }

-- where a request goes on behind a slot of the file's block
abbrev pub behind : ℕ → Option SlotId
behind slot = Some (record { block = first_block 1; slot = slot })

-- the slots of the file's block are missing, and what lies beyond is passed over; what has no copy isn't moved
abbrev pub foreign_asked : List Asked
foreign_asked =
    (1, Ask.HealNext None)
    ∷ (1, Ask.HealNext (behind 0))
    ∷ (1, Ask.HealNext (behind 8))
    ∷ (1, Ask.EvacNext 1 None)
    ∷ (1, Ask.MoveAt path_a 0 2 5)
    ∷ (1, Ask.MoveAt path_a 1 0 5)
    ∷ []

abbrev pub foreign_replies : List MetaReply
foreign_replies =
    Told.Granted (leased_on (grant_on 1 0 2 1) 1 (replicate 9 None))
    ∷ Told.Granted (leased_on (grant_on 1 1 3 1) 2 (replicate 9 None))
    ∷ Told.Nothing
    ∷ Told.Nothing
    ∷ Told.NoBlock
    ∷ Told.NoBlock
    ∷ []

pub record ForeignHealed : Type 0 where
  pub replies : (run (record { meta = foreign; replies = [] }) foreign_asked).replies ≡ foreign_replies
