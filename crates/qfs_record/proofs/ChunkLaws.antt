-- The laws of chunk records: what is written is read again, in either version, and what is read was written so.
use Rattle.std.proofs.Common.{◌≡◌, ◌∙◌, refl, sym, ap, subst, arith, ℕ, ◌+◌, ◌-◌, ◌<◌, ◌≤◌, Bool, true, false, IsTrue, cond, List, ◌++◌, length, get_or, take, drop, append_assoc, Option, Some, None, inl, inr}
use Rattle.std.specs.Prelude.{nat_lt, nat_le, nat_eq, codes}
use Rattle.std.specs.Option.{option_map}
use Rattle.std.specs.List.{starts_with}
use Rattle.std.proofs.lemmas.Bool.Decides.{nat_tests}
use Rattle.std.proofs.lemmas.List.{take_at, drop_at, length-append, take-append-drop, length-take}
use Rattle.std.proofs.lemmas.List.Elements.{All-from_get_or, All-take}
use Rattle.std.proofs.lemmas.Option.{same_Some}
use Rattle.qfs_base.specs.Shape.{IsStripe}
use Rattle.qfs_base.specs.declared.chunk.ChunkKey.{ChunkKey}
use Rattle.qfs_model_server.specs.Chunk.{Chunk}
use Rattle.qfs_record.specs.declared.chunk.ChunkRead.{ChunkRead}
use Rattle.qfs_record.specs.declared.head.Head.{Head}
use Rattle.qfs_record.specs.Part.{AreBytes}
use Rattle.qfs_record.specs.ChunkRecord.{block, slot, chunk_key, chunk_len, fields, is_stripe, stripe_part, first_head, second_head, IsNamed, IsHead, head_text, head_at, head_part, first_read, second_read, named_stripe, head_of, IsChunk, chunk_record}
use Rattle.qfs_record.proofs.PartLaws.{IsPart, Takes, map_some, number8, number32, pair-is_part, such-is_part, shaped-is_part, marked-is_part}

-- ---- heads

pub block-is_part : IsPart block
block-is_part = shaped-is_part _ _ _ (λ v. refl) (λ b. refl) (pair-is_part _ _ number32 number32)

pub slot-is_part : IsPart slot
slot-is_part = such-is_part (λ s. nat_lt s 9) _ number8

pub key-is_part : IsPart chunk_key
key-is_part = shaped-is_part _ _ _ (λ v. refl) (λ k. refl) (pair-is_part _ _ block-is_part (pair-is_part _ _ slot-is_part number32))

fields-is_part : IsPart fields
fields-is_part = pair-is_part _ _ key-is_part (such-is_part (λ n. nat_le n 67108864) _ number32)

first-is_part : IsPart first_head
first-is_part = marked-is_part (codes "QFC1") _ fields-is_part

second-is_part : IsPart second_head
second-is_part = marked-is_part (codes "QFC2") _ (pair-is_part _ _ fields-is_part (such-is_part is_stripe _ number32))

-- a count that a chunk may have fits its four bytes, and is one that the test lets through
len_fits : (n : ℕ) → n ≤ 67108864 → chunk_len.Fits n
len_fits n few = (omega arith, grind (arith, nat_tests))

len_is : (n : ℕ) → chunk_len.Fits n → n ≤ 67108864
len_is n fits = let test : IsTrue (nat_le n 67108864) = fits.1 in grind (arith, nat_tests)

stripe_fits : (n : ℕ) → IsStripe n → stripe_part.Fits n
stripe_fits n is = (omega arith, grind (arith, nat_tests))

stripe_is : (n : ℕ) → stripe_part.Fits n → IsStripe n
stripe_is n fits = let test : IsTrue (is_stripe n) = fits.1 in (grind (arith, nat_tests), grind (arith, nat_tests), grind (arith, nat_tests))

abbrev head_with : ChunkKey → ℕ → ℕ → ℕ → Head
head_with key form stripe len = record { key = key; form = form; stripe = stripe; len = len }

head_again : (head : Head) (rest : List ℕ) → IsHead head → head_at (head_text head ++ rest) ≡ Some (head, rest)
head_again head rest is =
    elim is.named [
      | inl one ↦
          let same : head ≡ head_with head.key 1 0 head.len =
          ap (λ (p : ℕ × ℕ). head_with head.key p.0 p.1 head.len) (λ i. (one.0 i, one.1 i)) in
          subst (λ h. head_at (head_text h ++ rest) ≡ Some (h, rest)) (sym same)
          (ap (option_map first_read) (first-is_part.again (head.key, head.len) rest (is.key, len_fits head.len is.len)))
      | inr two ↦
          let same : head ≡ head_with head.key 2 head.stripe head.len =
          ap (λ (form : ℕ). head_with head.key form head.stripe head.len) two.0 in
          subst (λ h. head_at (head_text h ++ rest) ≡ Some (h, rest)) (sym same)
          (ap (option_map second_read) (second-is_part.again ((head.key, head.len), head.stripe) rest ((is.key, len_fits head.len is.len), stripe_fits head.stripe two.1)))
    ]

-- the head that was read is the one that stands there
spelled_by : (bytes : List ℕ) (b : Bool) (head : Head) (rest : List ℕ) → AreBytes bytes
    → cond b (option_map first_read (first_head.read bytes)) (option_map second_read (second_head.read bytes)) ≡ Some (head, rest)
    → Takes head_part bytes head rest
spelled_by bytes true head rest are read =
    let m = map_some (first_head.read bytes) first_read (head, rest) read in
    let t = first-is_part.spelled bytes m.0.0 m.0.1 are m.1 in
    let takes : Takes head_part bytes (first_read m.0).0 (first_read m.0).1 = record {
      fits = record { key = t.fits.0; len = len_is m.0.0.1 t.fits.1; named = inl (refl, refl) };
      parts = t.parts;
      rest_fits = t.rest_fits;
    } in
    subst (λ (r : Head × List ℕ). Takes head_part bytes r.0 r.1) m.2 takes
spelled_by bytes false head rest are read =
    let m = map_some (second_head.read bytes) second_read (head, rest) read in
    let t = second-is_part.spelled bytes m.0.0 m.0.1 are m.1 in
    let takes : Takes head_part bytes (second_read m.0).0 (second_read m.0).1 = record {
      fits = record { key = t.fits.0.0; len = len_is m.0.0.0.1 t.fits.0.1; named = inr (refl, stripe_is m.0.0.1 t.fits.1) };
      parts = t.parts;
      rest_fits = t.rest_fits;
    } in
    subst (λ (r : Head × List ℕ). Takes head_part bytes r.0 r.1) m.2 takes

pub head-is_part : IsPart head_part
head-is_part = record {
  again = head_again;
  spelled = λ bytes head rest are read. spelled_by bytes (starts_with nat_eq bytes (codes "QFC1")) head rest are read;
}

-- ---- records

-- a head of a known form names the stripe of that form
pub named_same : (form stripe : ℕ) → IsNamed form stripe → named_stripe form stripe ≡ stripe
named_same form stripe is =
    elim is [
      | inl one ↦ ap (λ n. named_stripe n stripe) one.0 ∙ sym one.1
      | inr two ↦ ap (λ n. named_stripe n stripe) two.0
    ]

-- the bytes of a slice are bytes
pub are_bytes : (bytes : List ℕ) → ((i : ℕ) → get_or bytes i 0 < 256) → AreBytes bytes
are_bytes bytes each = All-from_get_or (λ byte. byte < 256) bytes 0 (λ i inside. each i)

-- a head and as many bytes as it counts are a chunk record
pub whole_chunk : (head : Head) (bytes : List ℕ) → IsHead head → AreBytes bytes → length bytes ≡ head.len
    → let chunk : Chunk = record { form = head.form; bytes = bytes } in
    IsChunk head.stripe head.key chunk × (head_text head ++ bytes ≡ chunk_record head.stripe head.key chunk)
whole_chunk head bytes is are long =
    let same : head_of head.stripe head.key (record { form = head.form; bytes = bytes }) ≡ head =
    ap (λ (p : ℕ × ℕ). head_with head.key head.form p.0 p.1) (λ i. (named_same head.form head.stripe is.named i, long i)) in (
      record { head = subst IsHead (sym same) is; bytes = are },
      ap (λ (h : Head). head_text h ++ bytes) (sym same),
    )

-- where a head and enough bytes behind it were read, the record is a front of the input
pub chunk_found : (input : List ℕ) (head : Head) (rest : List ℕ) → AreBytes input → Some (head, rest) ≡ head_at input → head.len ≤ length rest
    → let size : ℕ = length input - length rest + head.len in
    let chunk : Chunk = record { form = head.form; bytes = drop (size - head.len) (take size input) } in
    IsChunk head.stripe head.key chunk × (take size input ≡ chunk_record head.stripe head.key chunk)
chunk_found input head rest are read enough =
    let t = head-is_part.spelled input head rest are (sym read) in
    let text = head_text head in
    let bytes = take head.len rest in
    let size = length input - length rest + head.len in
    let long : length bytes ≡ head.len = omega (arith, length-take head.len rest) in
    let whole : length input ≡ length text + length rest = ap length t.parts ∙ length-append text rest in
    let parts : input ≡ (text ++ bytes) ++ drop head.len rest =
    t.parts ∙ ap (λ (r : List ℕ). text ++ r) (sym (take-append-drop head.len rest)) ∙ sym (append_assoc text bytes (drop head.len rest)) in
    let front : take size input ≡ text ++ bytes = ap (take size) parts ∙ take_at (text ++ bytes) (drop head.len rest) size (omega (arith, length-append text bytes)) in
    let last : drop (size - head.len) (take size input) ≡ bytes = ap (drop (size - head.len)) front ∙ drop_at text bytes (size - head.len) (omega arith) in
    let is = whole_chunk head bytes t.fits (All-take (λ byte. byte < 256) head.len rest t.rest_fits) long in
    subst
    (λ (b : List ℕ). IsChunk head.stripe head.key (record { form = head.form; bytes = b }) × (take size input ≡ chunk_record head.stripe head.key (record { form = head.form; bytes = b })))
    (sym last) (is.0, front ∙ is.1)

pub rest_within : (input : List ℕ) (head : Head) (rest : List ℕ) → AreBytes input → Some (head, rest) ≡ head_at input → length rest ≤ length input
rest_within input head rest are read =
    let t = head-is_part.spelled input head rest are (sym read) in
    omega (arith, ap length t.parts ∙ length-append (head_text head) rest)

-- what spells a chunk begins with its head
pub chunk_head : (input : List ℕ) (stripe : ℕ) (key : ChunkKey) (chunk : Chunk) (rest : List ℕ) → IsHead (head_of stripe key chunk)
    → input ≡ chunk_record stripe key chunk ++ rest → head_at input ≡ Some (head_of stripe key chunk, chunk.bytes ++ rest)
chunk_head input stripe key chunk rest is parts =
    ap head_at (parts ∙ append_assoc (head_text (head_of stripe key chunk)) chunk.bytes rest)
    ∙ head-is_part.again (head_of stripe key chunk) (chunk.bytes ++ rest) is

abbrev reading : Head → List ℕ → Option (Head × List ℕ)
reading head rest = Some (head, rest)

same_parts : (head other : Head) (rest after : List ℕ) → reading head rest ≡ reading other after → (head ≡ other) × (rest ≡ after)
same_parts head other rest after same =
    let all = same_Some {A = Head × List ℕ} (head, rest) (other, after) same in
    (ap (λ (r : Head × List ℕ). r.0) all, ap (λ (r : Head × List ℕ). r.1) all)

abbrev pub some_chunk : Head → ℕ → Option ChunkRead
some_chunk head size = Some (record { key = head.key; form = head.form; stripe = head.stripe; len = head.len; length = size })

-- and no other chunk was read
pub chunk_read_is : (input : List ℕ) (head : Head) (rest : List ℕ) → Some (head, rest) ≡ head_at input
    → (stripe : ℕ) (key : ChunkKey) (chunk : Chunk) (after : List ℕ) → IsChunk stripe key chunk → input ≡ chunk_record stripe key chunk ++ after
    → (head.len ≤ length rest)
    × (some_chunk head (length input - length rest + head.len) ≡ some_chunk (head_of stripe key chunk) (length (chunk_record stripe key chunk)))
chunk_read_is input head rest read stripe key chunk after is parts =
    let text = head_text (head_of stripe key chunk) in
    let same = same_parts head (head_of stripe key chunk) rest (chunk.bytes ++ after) (read ∙ chunk_head input stripe key chunk after is.head parts) in
    let len_is : head.len ≡ length chunk.bytes = ap (λ (h : Head). h.len) same.0 in
    let rest_is : length rest ≡ length chunk.bytes + length after = ap length same.1 ∙ length-append chunk.bytes after in
    let long : length input ≡ length (chunk_record stripe key chunk) + length after = ap length parts ∙ length-append (chunk_record stripe key chunk) after in
    let whole : length (chunk_record stripe key chunk) ≡ length text + length chunk.bytes = length-append text chunk.bytes in
    let size : length input - length rest + head.len ≡ length (chunk_record stripe key chunk) = omega arith in
    (omega arith, ap (λ (h : Head). some_chunk h (length input - length rest + head.len)) same.0 ∙ ap (some_chunk (head_of stripe key chunk)) size)

-- where no head or too few bytes were read, no chunk is there
pub no_chunk : {A : Type 0} (input : List ℕ) → None ≡ head_at input → (stripe : ℕ) (key : ChunkKey) (chunk : Chunk) (after : List ℕ)
    → IsChunk stripe key chunk → input ≡ chunk_record stripe key chunk ++ after → A
no_chunk input read stripe key chunk after is parts =
    let impossible : None ≡ reading (head_of stripe key chunk) (chunk.bytes ++ after) = read ∙ chunk_head input stripe key chunk after is.head parts in
    absurd cc

-- no record is a front of another
pub apart_heads : (stripe named : ℕ) (key other : ChunkKey) (chunk more : Chunk) (rest after : List ℕ) → IsHead (head_of stripe key chunk) → IsHead (head_of named other more)
    → chunk_record stripe key chunk ++ rest ≡ chunk_record named other more ++ after
    → (key ≡ other) × (chunk ≡ more) × (named_stripe chunk.form stripe ≡ named_stripe more.form named) × (rest ≡ after)
apart_heads stripe named key other chunk more rest after one two same =
    let both = same_parts (head_of stripe key chunk) (head_of named other more) (chunk.bytes ++ rest) (more.bytes ++ after)
    (sym (chunk_head _ stripe key chunk rest one refl) ∙ chunk_head (chunk_record stripe key chunk ++ rest) named other more after two same) in
    let long : length chunk.bytes ≡ length more.bytes = ap (λ (h : Head). h.len) both.0 in
    let bytes : chunk.bytes ≡ more.bytes =
    sym (take_at chunk.bytes rest (length more.bytes) long) ∙ ap (take (length more.bytes)) both.1 ∙ take_at more.bytes after (length more.bytes) refl in
    let behind : rest ≡ after =
    sym (drop_at chunk.bytes rest (length more.bytes) long) ∙ ap (drop (length more.bytes)) both.1 ∙ drop_at more.bytes after (length more.bytes) refl in (
      ap (λ (h : Head). h.key) both.0,
      (λ i. record { form = ap (λ (h : Head). h.form) both.0 i; bytes = bytes i }),
      ap (λ (h : Head). h.stripe) both.0,
      behind,
    )

pub apart : (stripe named : ℕ) (key other : ChunkKey) (chunk more : Chunk) (rest after : List ℕ) → IsChunk stripe key chunk → IsChunk named other more
    → chunk_record stripe key chunk ++ rest ≡ chunk_record named other more ++ after
    → (key ≡ other) × (chunk ≡ more) × (named_stripe chunk.form stripe ≡ named_stripe more.form named) × (rest ≡ after)
apart stripe named key other chunk more rest after one two same = apart_heads stripe named key other chunk more rest after one.head two.head same
