-- The bytes of a chunk on their way to a server.
use Rattle.std.specs.Prelude.{◌≡◌, ℕ, Bool, List, Option, IfSome}

-- the bytes, and whether they are still at hand
pub record ChunkState : Type 0 where
  pub bytes : List ℕ
  pub is_held : Bool

-- what is at hand is these bytes
abbrev pub IsHeldAs : List ℕ → Option (List ℕ) → Type 0
IsHeldAs bytes held = IfSome held (λ at_hand. at_hand ≡ bytes)
