-- The bytes that a recipe stands for.
use Rattle.std.specs.Prelude.{ℕ, ◌+◌, ◌*◌, ◌/◌, ◌%◌, ◌^◌, ◌≤◌, List, length, map, replicate}
use Rattle.std.specs.List.{range_with_len}
use Rattle.qfs_base.specs.declared.recipe.Form.{Form}
use Rattle.qfs_base.specs.declared.recipe.Form.TheVariants.{Hex, Fill, Pattern}

-- hexadecimal digits tell 1 to 32 bytes, the other forms up to 268,435,456
abbrev pub IsRecipe : Form → Type 0
IsRecipe (Hex bytes) = (1 ≤ length bytes) × (length bytes ≤ 32)
IsRecipe (Fill byte len) = len ≤ 268435456
IsRecipe (Pattern start len) = len ≤ 268435456

-- byte i of the pattern: the top byte of a product in 32 bits
abbrev pub pattern_byte : ℕ → ℕ → ℕ
pattern_byte start i = (start + i) % 2 ^ 32 * 2654435761 % 2 ^ 32 / 2 ^ 24

-- the bytes of a recipe
abbrev pub bytes_of : Form → List ℕ
bytes_of (Hex bytes) = bytes
bytes_of (Fill byte len) = replicate len byte
bytes_of (Pattern start len) = map (pattern_byte start) (range_with_len 0 len)
