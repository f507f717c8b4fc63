-- What the program prints by the metaserver's state and the lives of the servers alone is what the
-- definitions say of the world: each statement is a law of this crate. A run's world is sound, and
-- its slots are those of the blocks of their files (`SlotsFit`).
use Rattle.std.specs.Prelude.{◌≡◌, ℕ, Bool, false, List, map}
use Rattle.qfs_base.specs.declared.history.Step.{Step}
use Rattle.qfs_base.specs.declared.script.Script.{Script}
use Rattle.qfs_model_meta.specs.Grammar.{IsImage}
use Rattle.qfs_model_promises.specs.Along.{SlotsFit}
use Rattle.qfs_model_promises.specs.Letters.{LettersTellLives}
use Rattle.qfs_model_promises.specs.SoundWorld.{IsSoundAt, IsSoundWorld}
use Rattle.qfs_model_server.specs.Server.{Server}
use Rattle.qfs_model_world.specs.Audit.{audit_of, summary_of}
use Rattle.qfs_model_world.specs.Events.{Event}
use Rattle.qfs_model_world.specs.Text.{lines_of_world, text}
use Rattle.qfs_model_world.specs.World.{World, after}
use Rattle.qfs_report.specs.AuditOfImage.{audit_of_image, output_of_parts, summary_of_image}

-- the lives of a world's servers, from server 1 on
unfoldable pub lives_of : World → List ℕ
lives_of world = map (λ (server : Server). server.life) world.servers

-- what the program prints of a world behind an order of steps, with an audit or without
abbrev pub output_of_world : World → Bool → List Step → List ℕ
output_of_world world audit order =
    output_of_parts (lines_of_world world) world.meta (lives_of world) audit order

-- in a sound world the current copy of a chunk is on its server and right exactly where it was made
-- in its server's life
abbrev pub SoundLettersTellLives : Type 0
SoundLettersTellLives =
    (script : Script) (order : List Step) → IsSoundWorld script order → LettersTellLives script order

-- the summary of a world's state is that of the world, whatever stands on its servers
abbrev pub SummariesAgree : Type 0
SummariesAgree =
    (world : World) → IsImage world.meta → SlotsFit world.rules world.meta
    → (taken : ℕ) → summary_of_image world.meta taken ≡ summary_of world taken

-- the audit of the state of a sound world is that of the world
abbrev pub AuditsAgree : Type 0
AuditsAgree =
    (script : Script) (bytes : ℕ → List ℕ) (steps : List Event) (world : World)
    → IsSoundAt script bytes steps world → SlotsFit world.rules world.meta
    → (taken : ℕ) → audit_of_image world.meta (lives_of world) taken ≡ audit_of world bytes taken

-- what is printed of the world behind an order is the text of the order, with an audit where the
-- script asks for one
abbrev pub TextsAgree : Type 0
TextsAgree =
    (script : Script) (order : List Step) → IsSoundWorld script order
    → SlotsFit (after script order).rules (after script order).meta
    → output_of_world (after script order) script.audit order ≡ text script order

-- without an audit it is so of every world
abbrev pub PlainTextsAgree : Type 0
PlainTextsAgree =
    (script : Script) (order : List Step) → script.audit ≡ false
    → output_of_world (after script order) script.audit order ≡ text script order
