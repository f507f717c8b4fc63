-- The keys in a list of sizes are those of the chunks.
use Rattle.std.proofs.Common.{◌≡◌, [], ◌∷◌, refl, ap}
use Rattle.std.specs.Prelude.{map}
use Rattle.std.specs.Map.{keys_of}
use Rattle.qfs_device.specs.Held.{Contents, sizes_of}

pub keys-sizes_of : (contents : Contents) → map (λ chunk. chunk.key) (sizes_of contents) ≡ keys_of contents
keys-sizes_of [] = refl
keys-sizes_of (chunk ∷ contents) = ap (λ keys. chunk.0 ∷ keys) (keys-sizes_of contents)
