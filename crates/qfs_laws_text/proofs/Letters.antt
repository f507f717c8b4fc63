-- In a sound world the current copy of a slot is on its server and right where its life is its
-- server's, and nowhere else.
use Rattle.std.proofs.Common.{◌≡◌, ℕ, zero, suc, ◌==◌, ◌&&◌, true, false, List, [], ◌∷◌, map, slice_get, Option, Some, None, refl, sym, ap, ◌∙◌, cond}
use Rattle.std.proofs.lemmas.Bool.{eqb-true, false≢true}
use Rattle.std.specs.Cmp.Lexicographic.{bytes_decides}
use Rattle.std.specs.Ordering.{is_eq}
use Rattle.std.specs.Prelude.{IfSome, is_some}
use Rattle.std.specs.declared.cmp.Ordering.TheVariants.{Less, Equal, Greater}
use Rattle.qfs_base.specs.Key.{key_cmp}
use Rattle.qfs_base.specs.KeyLaws.{key_cmp-Equal}
use Rattle.qfs_base.specs.KeyMap.{has_key, value_at}
use Rattle.qfs_base.specs.Mask.{all_slots}
use Rattle.qfs_base.specs.Shape.{Shape}
use Rattle.qfs_base.specs.Table.{Each}
use Rattle.qfs_base.specs.declared.chunk.BlockId.{BlockId}
use Rattle.qfs_base.specs.declared.chunk.ChunkKey.{ChunkKey}
use Rattle.qfs_base.specs.declared.chunk.Copy.{Copy}
use Rattle.qfs_base.specs.declared.script.Script.{Script}
use Rattle.qfs_laws_tables.specs.EachRow.{each_of_all}
use Rattle.qfs_model_meta.specs.Slots.{slot_at}
use Rattle.qfs_model_promises.specs.Letters.{LetterTells, has_life, is_of_life, is_slot_of_life}
use Rattle.qfs_model_promises.specs.SoundWorld.{IsSoundAt, IsRightChunk, IsStored, copy_of}
use Rattle.qfs_model_server.specs.Chunk.{Chunk}
use Rattle.qfs_model_server.specs.Server.{Server}
use Rattle.qfs_model_world.specs.Audit.{are_bytes, has_copy, is_right_copy, is_right_slot, key_at, standing_blocks}
use Rattle.qfs_model_world.specs.Events.{Event, events}
use Rattle.qfs_model_world.specs.Made.{made, right_bytes}
use Rattle.qfs_model_world.specs.World.{World, numbered, after}
use Rattle.qfs_laws_text.specs.Agree.{SoundLettersTellLives, lives_of}
use Rattle.qfs_report.specs.AuditOfImage.{is_life, is_live}

-- ---- copies that are there and right

module _ (layout : Shape) (bytes : ℕ → List ℕ) (key : ChunkKey) where
  -- a copy that is found under a key among right ones has the right bytes
  found_right : (copies : List (ChunkKey × Chunk)) → Each (IsRightChunk layout bytes) copies
      → has_key key_cmp copies key ≡ true
      → are_bytes (right_bytes layout bytes key) (value_at key_cmp copies key) ≡ true
  unfolding are_bytes
  found_right [] each has = absurd (false≢true has)
  found_right (copy ∷ copies) each has =
      elim (key_cmp key copy.0) as (λ o. key_cmp key copy.0 ≡ o
      → is_some (cond (is_eq o) (Some copy.1) (value_at key_cmp copies key)) ≡ true
      → are_bytes (right_bytes layout bytes key)
      (cond (is_eq o) (Some copy.1) (value_at key_cmp copies key)) ≡ true) [
        | Less ↦ λ _ has. found_right copies each.1 has
        | Equal ↦ λ same _.
            (bytes_decides copy.1.bytes (right_bytes layout bytes key)).1
            (each.0 ∙ ap (right_bytes layout bytes) (sym (key_cmp-Equal key copy.0 same)))
        | Greater ↦ λ _ has. found_right copies each.1 has
      ] refl has

  -- a server whose copies are right has this copy where it is in the copy's life, as long as it
  -- then has a copy under the key
  on_server : (life : ℕ) (server : Server) → Each (IsRightChunk layout bytes) server.copies
      → (server.life ≡ life → has_key key_cmp server.copies key ≡ true)
      → has_copy life key (right_bytes layout bytes key) (Some server) ≡ has_life life (Some server)
  unfolding has_copy has_life
  on_server life server right has =
      elim (server.life == life) as (λ b. (server.life == life) ≡ b
      → (b && are_bytes (right_bytes layout bytes key) (value_at key_cmp server.copies key)) ≡ b) [
        | true ↦ λ is. found_right server.copies right (has (eqb-true server.life life is))
        | false ↦ λ _. refl
      ] refl

  no_server : (life : ℕ)
      → has_copy life key (right_bytes layout bytes key) None ≡ has_life life None
  unfolding has_copy has_life
  no_server life = refl

-- what holds of each server holds of the one of a number
each_numbered : {X : Type 0} (P : X → Type 0) (xs : List X) (n : ℕ) → Each P xs
    → IfSome (numbered xs n) P
unfolding numbered
each_numbered P xs zero each = tt
each_numbered {X} P xs (suc n) each = at xs n each
  where
    at : (xs : List X) (k : ℕ) → Each P xs → IfSome (slice_get xs k) P
    at [] k each = tt
    at (x ∷ xs) zero each = each.0
    at (x ∷ xs) (suc k) each = at xs k each.1

copy_tells : (world : World) (bytes : ℕ → List ℕ) (block : BlockId) (slot : ℕ) (copy : Copy)
    → Each (λ (server : Server). Each (IsRightChunk world.rules.layout bytes) server.copies)
    world.servers
    → IsStored world (copy_of block slot copy)
    → is_right_copy world bytes block slot (Some copy) ≡ is_of_life world (Some copy)
unfolding is_right_copy is_of_life
copy_tells world bytes block slot copy right stored =
    elim (numbered world.servers copy.server) as (λ found.
    IfSome found (λ (server : Server). Each (IsRightChunk world.rules.layout bytes) server.copies)
    → IfSome found (λ (server : Server). server.life ≡ copy.life
    → has_key key_cmp server.copies (key_at block slot copy) ≡ true)
    → has_copy copy.life (key_at block slot copy)
    (right_bytes world.rules.layout bytes (key_at block slot copy)) found
    ≡ has_life copy.life found) [
      | None ↦ λ _ _. no_server world.rules.layout bytes (key_at block slot copy) copy.life
      | Some server ↦ λ right stored.
          on_server world.rules.layout bytes (key_at block slot copy) copy.life server right stored
    ]
    (each_numbered (λ (server : Server). Each (IsRightChunk world.rules.layout bytes) server.copies)
    world.servers copy.server right) stored

-- the letter of any slot is told by lives
pub letter_tells : (script : Script) (bytes : ℕ → List ℕ) (steps : List Event) (world : World)
    → IsSoundAt script bytes steps world
    → (block : BlockId) (slot : ℕ) → LetterTells world bytes block slot
unfolding is_right_slot is_slot_of_life is_right_copy is_of_life
letter_tells script bytes steps world sound block slot =
    tells (slot_at world.meta.slots block slot).current
    (sound.copies_stored.current block slot)
  where
    tells : (current : Option Copy)
        → ((copy : Copy) → current ≡ Some copy → IsStored world (copy_of block slot copy))
        → is_right_copy world bytes block slot current ≡ is_of_life world current
    tells None stored = refl
    tells (Some copy) stored =
        copy_tells world bytes block slot copy sound.right_copies.stored (stored copy refl)

pub letters_tell_lives : SoundLettersTellLives
letters_tell_lives script order sound =
    each_of_all
    (λ block. Each (LetterTells (after script order) (made script (events script order)) block)
    all_slots)
    (λ block. each_of_all
    (LetterTells (after script order) (made script (events script order)) block)
    (λ slot. letter_tells script (made script (events script order)) (events script order)
    (after script order) sound block slot) all_slots) (standing_blocks (after script order))

-- ---- lives by number

life_of : (servers : List Server) (life k : ℕ)
    → is_life life (slice_get (map (λ (server : Server). server.life) servers) k)
    ≡ has_life life (slice_get servers k)
unfolding is_life has_life
life_of [] life k = refl
life_of (server ∷ servers) life zero = refl
life_of (server ∷ servers) life (suc k) = life_of servers life k

pub live_is : (world : World) (current : Option Copy)
    → is_live (lives_of world) current ≡ is_of_life world current
unfolding is_live is_of_life is_life has_life lives_of numbered
live_is world None = refl
live_is world (Some copy) = at copy.server
  where
    at : (server : ℕ)
        → is_life copy.life (numbered (map (λ (s : Server). s.life) world.servers) server)
        ≡ has_life copy.life (numbered world.servers server)
    at zero = refl
    at (suc k) = life_of world.servers copy.life k
