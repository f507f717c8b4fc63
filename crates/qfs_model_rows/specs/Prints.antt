-- What a run prints, and what its servers hold in the end.
use Rattle.std.specs.Prelude.{◌≡◌, ℕ, List, [], ◌∷◌, map, true, IsTrue}
use Rattle.qfs_base.specs.declared.chunk.ChunkKey.{ChunkKey}
use Rattle.qfs_base.specs.declared.history.Step.{Step}
use Rattle.qfs_base.specs.declared.script.Script.{Script}
use Rattle.qfs_model_server.specs.Chunk.{Chunk}
use Rattle.qfs_model_server.specs.Server.{Server, Copies}
use Rattle.qfs_model_world.specs.Drawn.{is_drawn}
use Rattle.qfs_model_world.specs.Fits.{fits, is_whole}
use Rattle.qfs_model_world.specs.Text.{text}
use Rattle.qfs_model_world.specs.World.{World, after}
use Rattle.qfs_model_rows.specs.Scripts.{Lines, lines}

-- the order fits the script and is whole, and they print these lines
pub record Prints (script : Script) (order : List Step) (expected : Lines) : Type 0 where
  pub fitting : IsTrue (fits script order)
  pub whole : IsTrue (is_whole script order)
  pub printed : text script order ≡ lines expected

-- the same of an order that is drawn from a number
pub record PrintsDrawn (number : ℕ) (script : Script) (order : List Step) (expected : Lines) : Type 0 where
  pub prints : Prints script order expected
  pub drawn : is_drawn number script order ≡ true

-- the copies of each server, by number
abbrev pub copies_in : World → List Copies
copies_in world = map (λ (server : Server). server.copies) world.servers

-- the servers hold these copies in the end
pub record Stores (script : Script) (order : List Step) (copies : List Copies) : Type 0 where
  pub stored : copies_in (after script order) ≡ copies

-- the key of a version of a slot of a file's first block
abbrev pub first_key : ℕ → ℕ → ℕ → ChunkKey
first_key file slot version =
    record { block = record { file = file; index = 0 }; slot = slot; version = version }

-- bytes as a server writes them that wasn't upgraded, and one that was
abbrev pub in_first_form : List ℕ → Chunk
in_first_form bytes = record { form = 1; bytes = bytes }

abbrev pub in_second_form : List ℕ → Chunk
in_second_form bytes = record { form = 2; bytes = bytes }

-- one copy, of a slot of file 1
abbrev pub one_copy : ℕ → ℕ → List ℕ → Copies
one_copy slot version bytes = (first_key 1 slot version, in_first_form bytes) ∷ []
