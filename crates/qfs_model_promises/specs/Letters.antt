-- The letters of an audit, told by lives alone.
use Rattle.std.specs.Prelude.{◌≡◌, ℕ, ◌==◌, Bool, false, List, Option, Some, None}
use Rattle.qfs_base.specs.Mask.{all_slots}
use Rattle.qfs_base.specs.Table.{Each}
use Rattle.qfs_base.specs.declared.chunk.BlockId.{BlockId}
use Rattle.qfs_base.specs.declared.chunk.Copy.{Copy}
use Rattle.qfs_base.specs.declared.history.Step.{Step}
use Rattle.qfs_base.specs.declared.script.Script.{Script}
use Rattle.qfs_model_meta.specs.Slots.{slot_at}
use Rattle.qfs_model_server.specs.Server.{Server}
use Rattle.qfs_model_world.specs.Audit.{is_right_slot, standing_blocks}
use Rattle.qfs_model_world.specs.Events.{events}
use Rattle.qfs_model_world.specs.Made.{made}
use Rattle.qfs_model_world.specs.World.{World, numbered, after}

-- whether a server is in this life, up or not
unfoldable pub has_life : ℕ → Option Server → Bool
has_life life None = false
has_life life (Some server) = server.life == life

-- whether a copy is of its server's present life, and whether the current copy of a slot is
unfoldable pub is_of_life : World → Option Copy → Bool
is_of_life world None = false
is_of_life world (Some copy) = has_life copy.life (numbered world.servers copy.server)

unfoldable pub is_slot_of_life : World → BlockId → ℕ → Bool
is_slot_of_life world block slot = is_of_life world (slot_at world.meta.slots block slot).current

-- the current copy of a chunk is there and right exactly where its life is its server's
abbrev pub LetterTells : World → (ℕ → List ℕ) → BlockId → ℕ → Type 0
LetterTells world bytes block slot = is_right_slot world bytes block slot ≡ is_slot_of_life world block slot

-- so it is with all standing chunks of a run
abbrev pub LettersTellLives : Script → List Step → Type 0
LettersTellLives script order =
    Each (λ (block : BlockId).
    Each (LetterTells (after script order) (made script (events script order)) block) all_slots)
    (standing_blocks (after script order))
