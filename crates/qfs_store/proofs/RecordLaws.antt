-- The records of copies: how long they are, what stands behind their heads, and that a torn one is none.
use Rattle.std.proofs.Common.{◌≡◌, ℕ, ◌+◌, ◌<◌, List, [], ◌++◌, length, take, drop, Option, Some, None, inl, inr, refl, sym, ap, subst, ◌∙◌, arith}
use Rattle.std.proofs.lemmas.List.{append-nil, length-append, length-drop, take-append-drop}
use Rattle.std.proofs.Math.Seq.{drop-append-add}
use Rattle.qfs_base.specs.declared.chunk.ChunkKey.{ChunkKey}
use Rattle.qfs_device.specs.Held.{IsTorn}
use Rattle.qfs_model_server.specs.Chunk.{Chunk, head_bytes}
use Rattle.qfs_model_store.specs.Stands.{IsRecordOf}
use Rattle.qfs_record.specs.ChunkRecord.{IsNamed, IsHead, first_head, second_head, head_text, head_of, chunk_record}
use Rattle.qfs_record.specs.declared.head.Head.{Head}
use Rattle.qfs_record.proofs.ChunkLaws.{apart_heads}

first_long : (key : ChunkKey) (len : ℕ) → length (first_head.text (key, len)) ≡ 21
first_long key len = refl

second_long : (key : ChunkKey) (len stripe : ℕ) → length (second_head.text ((key, len), stripe)) ≡ 25
second_long key len stripe = refl

-- how long a head is
pub head_long : (head : Head) → IsNamed head.form head.stripe → length (head_text head) ≡ head_bytes head.form
unfolding head_bytes
head_long head named =
    elim named [
      | inl one ↦ subst (λ (form : ℕ). length (head_text (record head { form = form })) ≡ head_bytes form) (sym one.0) (first_long head.key head.len)
      | inr two ↦ subst (λ (form : ℕ). length (head_text (record head { form = form })) ≡ head_bytes form) (sym two.0) (second_long head.key head.len head.stripe)
    ]

pub record_long : (stripe : ℕ) (key : ChunkKey) (copy : Chunk) → IsHead (head_of stripe key copy) → length (chunk_record stripe key copy) ≡ head_bytes copy.form + length copy.bytes
record_long stripe key copy fits =
    length-append (head_text (head_of stripe key copy)) copy.bytes
    ∙ ap (λ (n : ℕ). n + length copy.bytes) (head_long (head_of stripe key copy) fits.named)

pub behind_head : (stripe : ℕ) (key : ChunkKey) (copy : Chunk) (from : ℕ) → IsHead (head_of stripe key copy) → drop (head_bytes copy.form + from) (chunk_record stripe key copy) ≡ drop from copy.bytes
behind_head stripe key copy from fits =
    ap (λ (n : ℕ). drop (n + from) (chunk_record stripe key copy)) (sym (head_long (head_of stripe key copy) fits.named))
    ∙ drop-append-add (head_text (head_of stripe key copy)) copy.bytes from

-- no proper front of a record is a record
front_is_none : (stripe : ℕ) (key : ChunkKey) (copy other : Chunk) (count : ℕ) → IsHead (head_of stripe key copy) → IsHead (head_of stripe key other)
    → count < length (chunk_record stripe key copy) → take count (chunk_record stripe key copy) ≡ chunk_record stripe key other → ⊥
front_is_none stripe key copy other count one two less same =
    let whole = chunk_record stripe key copy in
    let left : drop count whole ≡ [] =
    sym (apart_heads stripe stripe key key copy other [] (drop count whole) one two
    (append-nil whole ∙ sym (take-append-drop count whole) ∙ ap (λ (front : List ℕ). front ++ drop count whole) same)).3 in
    omega (arith, length-drop count whole, ap length left)

pub torn_is_none : (stripe : ℕ) (key : ChunkKey) (copy : Chunk) (left : Option (List ℕ)) → IsHead (head_of stripe key copy) → IsTorn (chunk_record stripe key copy) left
    → (other : Chunk) → IsRecordOf stripe key left other → ⊥
torn_is_none stripe key copy None fits torn other is = let no : None ≡ Some (chunk_record stripe key other) = is.spelled in absurd cc
torn_is_none stripe key copy (Some part) fits torn other is =
    let whole : part ≡ chunk_record stripe key other = let e = is.spelled in cc in
    front_is_none stripe key copy other torn.0 fits is.fits torn.1 (sym torn.2 ∙ whole)
