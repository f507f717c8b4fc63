-- The range of a Fetch that isn't refused lies in the record of its copy.
use Rattle.std.proofs.Common.{◌≡◌, ℕ, ◌+◌, ◌≤◌, true, List, [], length, Option, Some, None, is_some, unwrap_or, inl, inr, sym, ap, subst, ◌∙◌, arith}
use Rattle.std.specs.Option.{ForSome, option_map}
use Rattle.std.proofs.lemmas.Bool.{leb-true}
use Rattle.qfs_base.specs.Key.{key_cmp}
use Rattle.qfs_base.specs.KeyMap.{value_at}
use Rattle.qfs_base.specs.declared.chunk.ChunkKey.{ChunkKey}
use Rattle.qfs_base.specs.declared.request.ChunkRequest.TheVariants as Ask
use Rattle.qfs_device.specs.Held.{Held, chunk_at, bytes_at}
use Rattle.qfs_model_server.specs.Chunk.{Chunk, head_bytes}
use Rattle.qfs_model_store.specs.Stands.{IsRecordOf, HoldsUnder}
use Rattle.qfs_record.specs.ChunkRecord.{IsNamed, head_of}
use Rattle.qfs_store.specs.Known.{Sizes, size_of, reaches}
use Rattle.qfs_store.specs.Serves.{IsAllowed, IsPart}
use Rattle.qfs_store.specs.Stored.{Stored, IsSound}
use Rattle.qfs_store.specs.declared.copies.CopySize.{CopySize}
use Rattle.qfs_store.proofs.KeyLaws.{size_at}
use Rattle.qfs_store.proofs.RecordLaws.{record_long}
use Rattle.qfs_store.proofs.SoundLaws.{not_unread}
use Rattle.qfs_store.proofs.StandsLaws.{fetch_passed}

small_head : (form stripe : ℕ) → IsNamed form stripe → head_bytes form ≤ 25
unfolding head_bytes
small_head form stripe named =
    elim named [
      | inl one ↦ subst (λ (form : ℕ). head_bytes form ≤ 25) (sym one.0) (omega arith)
      | inr two ↦ subst (λ (form : ℕ). head_bytes form ≤ 25) (sym two.0) (omega arith)
    ]

-- a range that a copy reaches lies behind the head of its record
part_of : (stripe : ℕ) (held : Held) (key : ChunkKey) (from count : ℕ) (copy : Chunk) → IsRecordOf stripe key (chunk_at held key) copy
    → reaches (from + count) (Some (size_of copy)) ≡ true → IsPart held key (size_of copy) from count
part_of stripe held key from count copy is reaches =
    let whole : length (bytes_at held key) ≡ head_bytes copy.form + length copy.bytes =
    ap (λ (found : Option (List ℕ)). length (unwrap_or found [])) is.spelled ∙ record_long stripe key copy is.fits in
    let inside = leb-true (from + count) (length copy.bytes) reaches in
    let small = small_head copy.form (head_of stripe key copy).stripe is.fits.named in
    let least = is.fits.len in
    record { lies = record { there = ap is_some is.spelled; inside = omega arith }; small = omega arith }

copy_part_of : (stripe : ℕ) (held : Held) (key : ChunkKey) (size : CopySize) (from count : ℕ) (copy : Option Chunk) → HoldsUnder stripe key (chunk_at held key) copy
    → option_map size_of copy ≡ Some size → reaches (from + count) (Some size) ≡ true → IsPart held key size from count
copy_part_of stripe held key size from count None holds is reached = let no : None ≡ Some size = is in absurd cc
copy_part_of stripe held key size from count (Some copy) holds is reached =
    let same : size_of copy ≡ size = let e = is in cc in
    subst (λ (s : CopySize). IsPart held key s from count) same
    (part_of stripe held key from count copy holds (subst (λ (s : CopySize). reaches (from + count) (Some s) ≡ true) (sym same) reached))

-- a store that let a Fetch through has its range, as far as its device tells what it holds
pub range_lies : (key : ChunkKey) (life from : ℕ) (room : List ℕ) (before : Stored) (size : CopySize) → IsAllowed (Ask.Fetch key life from room) before → IsSound before
    → value_at key_cmp before.known.copies key ≡ Some size → ForSome before.told (λ held. IsPart held key size from (length room))
range_lies key life from room before size due sound there held told_is =
    let passed = fetch_passed before.known due.now key life from room due.none in
    let reached : reaches (from + length room) (Some size) ≡ true = ap (reaches (from + length room)) (sym there) ∙ passed.1 in
    elim (sound.consistent held told_is) [
      | inl stood ↦
          copy_part_of before.stripe held key size from (length room) (value_at key_cmp stood.0.copies key) (stood.1.stands.keys key)
          (sym (size_at stood.0.copies key) ∙ ap (λ (sizes : Sizes). value_at key_cmp sizes key) (sym stood.1.copies) ∙ there) reached
      | inr waits ↦ not_unread before.known passed.0 waits
    ]
