-- A Put that failed leaves what it knew of its copies.
use Rattle.std.proofs.Common.{◌≡◌, List, ℕ, ◌<◌, ◌≤◌, ◌^◌, ◌⊎◌, inl, inr, length, Option, Err, false, IsTrue, sym, ap, subst, ◌∙◌, arith}
use Rattle.std.specs.Prelude.{nat_lt}
use Rattle.std.proofs.lemmas.Bool.Decides.{nat_tests}
use Rattle.qfs_base.specs.Shape.{IsStripe}
use Rattle.qfs_record.specs.Part.{AreBytes}
use Rattle.qfs_record.specs.ChunkRecord.{IsChunk, named_stripe}
use Rattle.qfs_base.specs.Key.{key_cmp}
use Rattle.qfs_base.specs.KeyMap.{has_key, with_entry, without_key}
use Rattle.qfs_base.specs.declared.chunk.ChunkKey.{ChunkKey}
use Rattle.qfs_device.specs.Held.{Held, Writes}
use Rattle.qfs_device.specs.declared.errors.DeviceError.{DeviceError}
use Rattle.qfs_device.specs.declared.errors.DeviceError.TheVariants as Error
use Rattle.qfs_store.specs.Known.{Sizes}
use Rattle.qfs_store.specs.Serves.{PutLeaves, failure}
use Rattle.qfs_store.specs.declared.copies.CopySize.{CopySize}
use Rattle.qfs_store.proofs.KeyLaws.{taken_back}

pub put_failed : (key : ChunkKey) (size : CopySize) (spelled : List ℕ) (copies copies' : Sizes) (told told' : Option Held) (error : DeviceError) → has_key key_cmp copies key ≡ false
    → copies' ≡ without_key key_cmp (with_entry key_cmp copies key size) key → Writes {T = Unit {0}} key spelled told told' (Err error) → PutLeaves key size spelled (failure error) copies copies' told told'
put_failed key size spelled copies copies' told told' Error.Failed apart is wrote = (is ∙ taken_back copies key size apart, wrote)
put_failed key size spelled copies copies' told told' Error.NoMemory apart is wrote = (is ∙ taken_back copies key size apart, wrote)

-- what is stored is a chunk
pub is_chunk : (stripe : ℕ) (key : ChunkKey) (form : ℕ) (bytes : List ℕ) → key.block.file < 2 ^ 32 → key.block.index < 2 ^ 32 → key.slot < 9 → key.version < 2 ^ 32
    → AreBytes bytes → length bytes ≤ 67108864 → (form ≡ 1) ⊎ (form ≡ 2) → IsStripe stripe → IsChunk stripe key (record { form = form; bytes = bytes })
is_chunk stripe key form bytes file index slot version are size which is =
    let small : key.slot < 256 = omega arith in
    let slot_below : IsTrue (nat_lt key.slot 9) = grind (arith, nat_tests) in
    record {
      head = record {
        key = ((file, index), ((small, slot_below), version));
        len = size;
        named = elim which [
          | inl one ↦ inl (one, ap (λ (n : ℕ). named_stripe n stripe) one)
          | inr two ↦ inr (two, subst IsStripe (sym (ap (λ (n : ℕ). named_stripe n stripe) two)) is)
        ];
      };
      bytes = are;
    }
