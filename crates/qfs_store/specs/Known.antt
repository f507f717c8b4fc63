-- What a chunk server knows of its copies, and what it refuses by that.
use Rattle.std.specs.Prelude.{ℕ, ◌+◌, ◌==◌, not, nat_le, Bool, false, if◌then◌else◌, List, length, map, Option, Some, None}
use Rattle.qfs_base.specs.Key.{key_cmp}
use Rattle.qfs_base.specs.KeyMap.{value_at, has_key, with_entry}
use Rattle.qfs_base.specs.declared.chunk.ChunkKey.{ChunkKey}
use Rattle.qfs_base.specs.declared.reply.ChunkAnswer.{ChunkAnswer}
use Rattle.qfs_base.specs.declared.reply.ChunkAnswer.TheVariants as Answer
use Rattle.qfs_base.specs.declared.request.ChunkRequest.{ChunkRequest}
use Rattle.qfs_base.specs.declared.request.ChunkRequest.TheVariants as Ask
use Rattle.qfs_model_server.specs.Chunk.{Chunk}
use Rattle.qfs_model_server.specs.Server.{Copies, refuse}
use Rattle.qfs_store.specs.declared.copies.CopySize.{CopySize}

-- the forms and lengths of copies, by key
abbrev pub Sizes : Type 0
Sizes = List (ChunkKey × CopySize)

abbrev pub size_of : Chunk → CopySize
size_of copy = record { form = copy.form; len = length copy.bytes }

abbrev pub sizes_in : Copies → Sizes
sizes_in copies = map (λ (copy : ChunkKey × Chunk). (copy.0, size_of copy.1)) copies

-- another size in place of that of a copy that is there
abbrev pub resized : Sizes → ChunkKey → CopySize → Sizes
resized copies key size =
    if has_key key_cmp copies key then with_entry key_cmp copies key size else copies

-- whether a server is up, the form in which it writes chunk records, and its copies as far as it
-- knows them
pub record Known : Type 0 where
  pub up : Bool
  pub form : ℕ
  pub copies : Sizes

-- a copy that is so long reaches to this end; none reaches anywhere
abbrev pub reaches : ℕ → Option CopySize → Bool
reaches end None = false
reaches end (Some size) = nat_le end size.len

-- ---- refusals

-- a server that isn't up, or is in another life than the one that was asked for, refuses; else the
-- rest decides
abbrev pub unless_away : Known → ℕ → ℕ → Option ChunkAnswer → Option ChunkAnswer
unless_away known now life other =
    refuse (not known.up) Answer.Down (refuse (not (life == now)) (Answer.Lost life now) other)

-- the refusal that is due in the life `now`, if one is
abbrev pub refusal : Known → ℕ → ChunkRequest → Option ChunkAnswer
refusal known now (Ask.Put key life bytes) =
    unless_away known now life (refuse (has_key key_cmp known.copies key) Answer.Held None)
refusal known now (Ask.Fetch key life from room) =
    unless_away known now life
    (refuse (not (reaches (from + length room) (value_at key_cmp known.copies key)))
    Answer.Absent None)
refusal known now (Ask.Erase key life) =
    unless_away known now life (refuse (not (has_key key_cmp known.copies key)) Answer.Absent None)
refusal known now Ask.Stop = None
refusal known now Ask.Start = None
refusal known now Ask.Wipe = None
refusal known now Ask.Inventory = refuse (not known.up) Answer.Down None
refusal known now Ask.Upgrade = refuse (not known.up) Answer.Down None
