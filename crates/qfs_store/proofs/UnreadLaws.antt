-- A stopped server over any device: a Start finds the chunks whose records stand there, and the two stand for the server
-- that has those copies.
use Rattle.std.proofs.Common.{◌≡◌, ℕ, ◌+◌, Bool, true, cond, List, [], ◌∷◌, drop, take, Option, Some, None, is_some, inl, inr, refl, sym, ap, subst, ◌∙◌, arith}
use Rattle.std.specs.List.{AllByRecursion, cons_option}
use Rattle.std.specs.List.Sorted.{IsStrictlySortedBy}
use Rattle.std.specs.Map.{keys_of}
use Rattle.std.specs.Option.{option_map}
use Rattle.std.specs.Ordering.{is_eq}
use Rattle.std.specs.declared.cmp.Ordering.{Ordering}
use Rattle.std.specs.declared.cmp.Ordering.TheVariants.{Less}
use Rattle.std.proofs.lemmas.Map.Keys.{sorted_head, sorted_tail}
use Rattle.std.proofs.lemmas.Option.{same_Some}
use Rattle.qfs_base.specs.Key.{key_cmp}
use Rattle.qfs_base.specs.KeyMap.{value_at}
use Rattle.qfs_base.specs.declared.chunk.ChunkKey.{ChunkKey}
use Rattle.qfs_base.specs.declared.reply.ChunkAnswer.{ChunkAnswer}
use Rattle.qfs_base.specs.declared.reply.ChunkAnswer.TheVariants as Answer
use Rattle.qfs_device.specs.Held.{Held, Contents}
use Rattle.qfs_model_server.specs.Chunk.{Chunk, head_bytes}
use Rattle.qfs_model_server.specs.Server.{Server, Copies}
use Rattle.qfs_model_store.specs.Stands.{IsRecordOf, HoldsUnder}
use Rattle.qfs_record.specs.ChunkRecord.{chunk_record}
use Rattle.qfs_record.specs.Part.{AreBytes}
use Rattle.qfs_store.specs.Known.{Known, Sizes, size_of, sizes_in}
use Rattle.qfs_store.specs.Serves.{FindsCopies, StartLeaves, up_after}
use Rattle.qfs_store.specs.Start.{front_bytes, copy_under, AreFronts, entry_of, copies_in, Found}
use Rattle.qfs_store.specs.Stored.{StandsOn, IsUnread, IsConsistent}
use Rattle.qfs_store.specs.declared.copies.CopySize.{CopySize}
use Rattle.qfs_store.proofs.HeadLaws.{record_found, found_record}
use Rattle.qfs_store.proofs.KeyLaws.{same_key, same_key-is, absent_again}
use Rattle.qfs_store.proofs.ReadLaws.{some_of}
use Rattle.qfs_store.proofs.RecordLaws.{behind_head}
use Rattle.qfs_store.proofs.StandsLaws.{holds_along, holds_one, nothing_named}

-- ---- the chunks whose records stand on a device

-- the chunk of a record, whose head tells this size
abbrev chunk_of : List ℕ → CopySize → Chunk
chunk_of bytes size = record { form = size.form; bytes = drop (head_bytes size.form) bytes }

abbrev with_chunk : ChunkKey → List ℕ → Option CopySize → Copies → Copies
with_chunk key bytes None others = others
with_chunk key bytes (Some size) others = (key, chunk_of bytes size) ∷ others

abbrev chunks_in : ℕ → Contents → Copies
chunks_in stripe [] = []
chunks_in stripe (e ∷ es) = with_chunk e.0 e.1 (copy_under stripe e.0 e.1) (chunks_in stripe es)

-- ---- one record

chunk_is : (stripe : ℕ) (key : ChunkKey) (bytes : List ℕ) (copy : Chunk) (size : CopySize) → IsRecordOf stripe key (Some bytes) copy → size_of copy ≡ size
    → copy ≡ chunk_of bytes size
chunk_is stripe key bytes copy size is same =
    let form : copy.form ≡ size.form = ap (λ (s : CopySize). s.form) same in
    let whole : bytes ≡ chunk_record stripe key copy = same_Some bytes (chunk_record stripe key copy) is.spelled in
    let all : head_bytes copy.form + 0 ≡ head_bytes size.form = omega (arith, ap head_bytes form) in
    let behind : copy.bytes ≡ drop (head_bytes size.form) bytes =
    sym (behind_head stripe key copy 0 is.fits)
    ∙ ap (λ (n : ℕ). drop n (chunk_record stripe key copy)) all
    ∙ ap (drop (head_bytes size.form)) (sym whole) in
    λ i. record { form = form i; bytes = behind i }

chunk_stands : (stripe : ℕ) (key : ChunkKey) (bytes : List ℕ) (size : CopySize) → AreBytes (take (front_bytes bytes) bytes) → copy_under stripe key bytes ≡ Some size
    → IsRecordOf stripe key (Some bytes) (chunk_of bytes size) × (size_of (chunk_of bytes size) ≡ size)
chunk_stands stripe key bytes size are is =
    let found = found_record stripe key bytes size are is in
    let same = chunk_is stripe key bytes found.0 size found.1 found.2 in
    (subst (IsRecordOf stripe key (Some bytes)) same found.1, ap size_of (sym same) ∙ found.2)

none_stands : (stripe : ℕ) (key : ChunkKey) (bytes : List ℕ) → copy_under stripe key bytes ≡ None → (chunk : Chunk) → IsRecordOf stripe key (Some bytes) chunk → ⊥
none_stands stripe key bytes none chunk is =
    let no : None ≡ Some (size_of chunk) = sym none ∙ record_found stripe key bytes chunk is in absurd cc

holds_found : (stripe : ℕ) (key : ChunkKey) (bytes : List ℕ) (size : Option CopySize) → AreBytes (take (front_bytes bytes) bytes) → copy_under stripe key bytes ≡ size
    → HoldsUnder stripe key (Some bytes) (option_map (chunk_of bytes) size)
holds_found stripe key bytes None are is = none_stands stripe key bytes is
holds_found stripe key bytes (Some size) are is = (chunk_stands stripe key bytes size are is).0

-- ---- all records

below_none : (stripe : ℕ) (key : ChunkKey) (es : Contents) → AllByRecursion (λ q. key_cmp key q ≡ Less) (keys_of es) → value_at key_cmp (chunks_in stripe es) key ≡ None
below_none stripe key [] above = refl
below_none stripe key (e ∷ es) above =
    elim (copy_under stripe e.0 e.1) as (λ (o : Option CopySize). value_at key_cmp (with_chunk e.0 e.1 o (chunks_in stripe es)) key ≡ None) [
      | None ↦ below_none stripe key es above.1
      | Some size ↦
          ap (λ (r : Ordering). cond (is_eq r) (Some (chunk_of e.1 size)) (value_at key_cmp (chunks_in stripe es) key)) above.0 ∙ below_none stripe key es above.1
    ]

value_with : (key : ChunkKey) (bytes : List ℕ) (size : Option CopySize) (others : Copies) (q : ChunkKey) → value_at key_cmp others key ≡ None
    → value_at key_cmp (with_chunk key bytes size others) q ≡ cond (same_key q key) (option_map (chunk_of bytes) size) (value_at key_cmp others q)
value_with key bytes None others q none = sym (absent_again others key q none)
value_with key bytes (Some size) others q none = refl

all_hold : (stripe : ℕ) (es : Contents) → AreFronts es → IsStrictlySortedBy key_cmp (keys_of es) → (q : ChunkKey)
    → HoldsUnder stripe q (value_at key_cmp es q) (value_at key_cmp (chunks_in stripe es) q)
all_hold stripe [] fronts rising q = nothing_named stripe q
all_hold stripe (e ∷ es) fronts rising q =
    let none = below_none stripe e.0 es (sorted_head key_cmp e.0 (keys_of es) rising) in
    holds_along stripe q _ _ _ _ refl
    (sym (value_with e.0 e.1 (copy_under stripe e.0 e.1) (chunks_in stripe es) q none))
    (holds_one stripe e.0 q (Some e.1) (value_at key_cmp es q) _ (value_at key_cmp (chunks_in stripe es) q) (same_key q e.0) (same_key-is q e.0)
    (holds_found stripe e.0 e.1 (copy_under stripe e.0 e.1) fronts.0 refl)
    (all_hold stripe es fronts.1 (sorted_tail key_cmp e.0 (keys_of es) rising) q))

all_sizes : (stripe : ℕ) (es : Contents) → AreFronts es → copies_in stripe es ≡ sizes_in (chunks_in stripe es)
all_sizes stripe [] fronts = refl
all_sizes stripe (e ∷ es) fronts =
    let rest = all_sizes stripe es fronts.1 in
    elim (copy_under stripe e.0 e.1) as (λ (o : Option CopySize). copy_under stripe e.0 e.1 ≡ o
    → cons_option (option_map (entry_of e.0) o) (copies_in stripe es) ≡ sizes_in (with_chunk e.0 e.1 o (chunks_in stripe es))) [
      | None ↦ λ is. rest
      | Some size ↦ λ is.
          let same = (chunk_stands stripe e.0 e.1 size fronts.0 is).1 in
          λ i. (e.0, sym same i) ∷ rest i
    ] refl

-- ---- the server that is found

-- how much was handed out before isn't known, and nothing is said of it
abbrev server_on : ℕ → ℕ → Held → Server
server_on stripe form held = record { up = true; life = held.life; form = form; copies = chunks_in stripe held.contents; handed_out = 0 }

found_stands : (stripe form : ℕ) (held : Held) (copies : Sizes) → AreFronts held.contents → IsStrictlySortedBy key_cmp (keys_of held.contents) → copies ≡ copies_in stripe held.contents
    → StandsOn stripe held (record { up = true; form = form; copies = copies }) (server_on stripe form held)
found_stands stripe form held copies fronts rising are = record {
  up = refl;
  form = refl;
  copies = are ∙ all_sizes stripe held.contents fronts;
  stands = record { life = refl; keys = all_hold stripe held.contents fronts rising };
}

started_stands : (stripe form : ℕ) (held now : Held) (told : Option Held) (copies : Sizes) → Found stripe held copies told → told ≡ Some now
    → StandsOn stripe now (record { up = true; form = form; copies = copies }) (server_on stripe form now)
started_stands stripe form held now told copies found told_is =
    let same : found.reads.after ≡ now = same_Some found.reads.after now (sym found.reads.told_is ∙ told_is) in
    let contents : held.contents ≡ now.contents = sym found.reads.contents ∙ ap (λ (h : Held). h.contents) same in
    found_stands stripe form now copies
    (subst AreFronts contents found.bytes)
    (subst (λ (c : Contents). IsStrictlySortedBy key_cmp (keys_of c)) contents found.rising)
    (found.copies ∙ ap (copies_in stripe) contents)

-- ---- a Start

-- a store that waits for its first Start finds the server that it then stands for, or goes on to wait
pub start_unread : (stripe : ℕ) (answer : ChunkAnswer) (told told' : Option Held) (known : Known) (copies' : Sizes) → IsUnread known
    → StartLeaves stripe known.up answer known.copies copies' told told' → is_some told' ≡ is_some told
    → IsConsistent stripe told' (record known { up = up_after answer known.up; copies = copies' })
start_unread stripe (Answer.Started life) told told' known copies' waits left tells now now_is =
    let before = some_of told (sym tells ∙ ap is_some now_is) in
    let finds = subst (λ (up : Bool). FindsCopies stripe up known.copies copies' told told') waits.down left.1 in
    inl (server_on stripe known.form now, started_stands stripe known.form before.0 now told' copies' (finds.1 before.0 before.1) now_is)
start_unread stripe Answer.Fault told told' known copies' waits left tells now now_is =
    inr (record { down = waits.down; none = left.0 ∙ waits.none })
start_unread stripe Answer.NoMemory told told' known copies' waits left tells now now_is =
    inr (record { down = waits.down; none = left.0 ∙ waits.none })
start_unread stripe _ told told' known copies' waits left tells now now_is = absurd left
