-- A start tells the record of a copy by its head: where a record stands its head tells the copy, and where a head tells
-- one, its record stands there.
use Rattle.std.proofs.Common.{◌≡◌, ℕ, ◌+◌, Bool, true, false, cond, List, [], ◌++◌, length, take, drop, append_assoc, Option, Some, None, inl, inr, refl, sym, ap, subst, ◌∙◌, arith}
use Rattle.std.specs.Prelude.{nat_le, ◌==◌, ◌&&◌, ◌||◌}
use Rattle.std.specs.Option.{option_map}
use Rattle.std.specs.Ordering.{is_eq}
use Rattle.std.proofs.lemmas.Bool.Decides.{Decides-eqb}
use Rattle.std.proofs.lemmas.List.{append-nil, length-append, take-append-drop, take_at}
use Rattle.std.proofs.lemmas.Option.{same_Some}
use Rattle.std.proofs.lemmas.Bool.{eq-eqb, le-leb}
use Rattle.qfs_base.specs.Key.{key_cmp}
use Rattle.qfs_base.specs.declared.chunk.ChunkKey.{ChunkKey}
use Rattle.qfs_model_server.specs.Chunk.{Chunk, head_bytes}
use Rattle.qfs_model_store.specs.Stands.{IsRecordOf}
use Rattle.qfs_record.specs.Part.{AreBytes}
use Rattle.qfs_record.specs.ChunkRecord.{begins_second, head_at, head_in, IsNamed, IsHead, head_text, head_of, named_stripe, chunk_record, head_part}
use Rattle.qfs_record.specs.declared.head.Head.{Head}
use Rattle.qfs_record.proofs.PartLaws.{Takes, map_some}
use Rattle.qfs_record.proofs.ChunkLaws.{head-is_part}
use Rattle.qfs_store.specs.Known.{size_of}
use Rattle.qfs_store.specs.Start.{front_bytes, is_head_of, size_in, copy_in, copy_under}
use Rattle.qfs_store.specs.declared.copies.CopySize.{CopySize}
use Rattle.qfs_store.proofs.KeyLaws.{same_key-is, same_itself}
use Rattle.qfs_store.proofs.RecordLaws.{head_long, record_long}

-- ---- a record's head tells the copy

-- a record names the stripe, or its form names none
stripe_named : (form stripe : ℕ) → ((form == 1) || (named_stripe form stripe == stripe)) ≡ true
stripe_named form stripe =
    elim (form == 1) as (λ (b : Bool). (b || (cond b 0 stripe == stripe)) ≡ true) [
      | true ↦ refl
      | false ↦ eq-eqb stripe stripe refl
    ]

all_three : (a b c : Bool) → a ≡ true → b ≡ true → c ≡ true → (a && b && c) ≡ true
all_three a b c at bt ct = λ i. (at i && bt i && ct i)

front_if : (bytes : List ℕ) (second long longer : Bool) → begins_second bytes ≡ second → nat_le 21 (length bytes) ≡ long → nat_le 25 (length bytes) ≡ longer
    → front_bytes bytes ≡ cond long (cond (second && longer) 25 21) 0
front_if bytes second long longer s l m = λ i. cond (l i) (cond (s i && m i) 25 21) 0

abbrev with_form : ℕ → List ℕ → Chunk
with_form form bytes = record { form = form; bytes = bytes }

first_marked : (stripe : ℕ) (key : ChunkKey) (bytes : List ℕ) → begins_second (chunk_record stripe key (with_form 1 bytes)) ≡ false
first_marked stripe key bytes = refl

second_marked : (stripe : ℕ) (key : ChunkKey) (bytes : List ℕ) → begins_second (chunk_record stripe key (with_form 2 bytes)) ≡ true
second_marked stripe key bytes = refl

first_front : (stripe : ℕ) (key : ChunkKey) (bytes : List ℕ) → length (chunk_record stripe key (with_form 1 bytes)) ≡ head_bytes 1 + length bytes
    → front_bytes (chunk_record stripe key (with_form 1 bytes)) ≡ head_bytes 1
unfolding head_bytes
first_front stripe key bytes long =
    front_if (chunk_record stripe key (with_form 1 bytes)) false true _ (first_marked stripe key bytes) (le-leb 21 _ (omega arith)) refl

second_front : (stripe : ℕ) (key : ChunkKey) (bytes : List ℕ) → length (chunk_record stripe key (with_form 2 bytes)) ≡ head_bytes 2 + length bytes
    → front_bytes (chunk_record stripe key (with_form 2 bytes)) ≡ head_bytes 2
unfolding head_bytes
second_front stripe key bytes long =
    front_if (chunk_record stripe key (with_form 2 bytes)) true true true (second_marked stripe key bytes) (le-leb 21 _ (omega arith)) (le-leb 25 _ (omega arith))

-- the head of a record is read, and no more
pub record_front : (stripe : ℕ) (key : ChunkKey) (copy : Chunk) → IsHead (head_of stripe key copy) → front_bytes (chunk_record stripe key copy) ≡ head_bytes copy.form
record_front stripe key copy fits =
    elim fits.named [
      | inl one ↦
          subst (λ (form : ℕ). length (chunk_record stripe key (with_form form copy.bytes)) ≡ head_bytes form + length copy.bytes → front_bytes (chunk_record stripe key (with_form form copy.bytes)) ≡ head_bytes form)
          (sym one.0) (first_front stripe key copy.bytes) (record_long stripe key copy fits)
      | inr two ↦
          subst (λ (form : ℕ). length (chunk_record stripe key (with_form form copy.bytes)) ≡ head_bytes form + length copy.bytes → front_bytes (chunk_record stripe key (with_form form copy.bytes)) ≡ head_bytes form)
          (sym two.0) (second_front stripe key copy.bytes) (record_long stripe key copy fits)
    ]

head_again : (head : Head) → IsHead head → head_in (head_text head) ≡ Some head
head_again head fits =
    ap head_in (sym (append-nil (head_text head)))
    ∙ ap (option_map (λ (front : Head × List ℕ). front.0)) (head-is_part.again head [] fits)

whole_found : (stripe : ℕ) (key : ChunkKey) (copy : Chunk) → IsHead (head_of stripe key copy) → copy_under stripe key (chunk_record stripe key copy) ≡ Some (size_of copy)
whole_found stripe key copy fits =
    let whole = chunk_record stripe key copy in
    let head = head_of stripe key copy in
    let front : take (front_bytes whole) whole ≡ head_text head =
    take_at (head_text head) copy.bytes (front_bytes whole) (head_long head fits.named ∙ sym (record_front stripe key copy fits)) in
    let tells : is_head_of stripe key (length whole) head ≡ true =
    all_three _ _ _ (same_itself key) (stripe_named copy.form stripe)
    (ap (λ (n : ℕ). head_bytes copy.form + length copy.bytes == n) (record_long stripe key copy fits) ∙ eq-eqb (head_bytes copy.form + length copy.bytes) (head_bytes copy.form + length copy.bytes) refl) in
    ap (copy_in stripe key (length whole)) (ap head_in front ∙ head_again head fits)
    ∙ ap (λ (b : Bool). cond b (Some (size_of copy)) None) tells

pub record_found : (stripe : ℕ) (key : ChunkKey) (bytes : List ℕ) (copy : Chunk) → IsRecordOf stripe key (Some bytes) copy → copy_under stripe key bytes ≡ Some (size_of copy)
record_found stripe key bytes copy is =
    ap (copy_under stripe key) (same_Some bytes (chunk_record stripe key copy) is.spelled) ∙ whole_found stripe key copy is.fits

-- ---- a head that tells a copy has its record

abbrev Told : ℕ → ChunkKey → ℕ → CopySize → Head → Type 0
Told stripe key size known head = (is_head_of stripe key size head ≡ true) × (size_in head ≡ known)

chosen : (test : Bool) (size known : CopySize) → cond test (Some size) None ≡ Some known → (test ≡ true) × (size ≡ known)
chosen true size known is = (refl, same_Some size known is)
chosen false size known is = let no : None ≡ Some known = is in absurd cc

told_by : (stripe : ℕ) (key : ChunkKey) (size : ℕ) (known : CopySize) (head : Option Head) → copy_in stripe key size head ≡ Some known
    → (h : Head) × (head ≡ Some h) × Told stripe key size known h
told_by stripe key size known None is = let no : None ≡ Some known = is in absurd cc
told_by stripe key size known (Some head) is = (head, refl, chosen (is_head_of stripe key size head) (size_in head) known is)

three_of : (a b c : Bool) → (a && b && c) ≡ true → (a ≡ true) × (b ≡ true) × (c ≡ true)
three_of true true true is = (refl, refl, refl)
three_of true true false is = absurd cc
three_of true false c is = absurd cc
three_of false b c is = absurd cc

-- a head that names this stripe, or none, is the one of a copy under it
stripe_of : (form stripe named : ℕ) → IsNamed form named → ((form == 1) || (named == stripe)) ≡ true → named_stripe form stripe ≡ named
stripe_of form stripe named is test =
    elim is [
      | inl one ↦ ap (λ (n : ℕ). named_stripe n stripe) one.0 ∙ sym one.1
      | inr two ↦
          ap (λ (n : ℕ). named_stripe n stripe) two.0
          ∙ sym ((Decides-eqb named stripe).0 (ap (λ (n : ℕ). (n == 1) || (named == stripe)) (sym two.0) ∙ test))
    ]

same_head : (stripe : ℕ) (key : ChunkKey) (head : Head) (bytes : List ℕ) → head.key ≡ key → named_stripe head.form stripe ≡ head.stripe → length bytes ≡ head.len
    → head_of stripe key (with_form head.form bytes) ≡ head
same_head stripe key head bytes named striped long = λ i. record { key = sym named i; form = head.form; stripe = striped i; len = long i }

pub found_record : (stripe : ℕ) (key : ChunkKey) (bytes : List ℕ) (size : CopySize) → AreBytes (take (front_bytes bytes) bytes) → copy_under stripe key bytes ≡ Some size
    → (copy : Chunk) × IsRecordOf stripe key (Some bytes) copy × (size_of copy ≡ size)
found_record stripe key bytes size are found =
    let count = front_bytes bytes in
    let front = take count bytes in
    let told = told_by stripe key (length bytes) size (head_in front) found in
    let head = told.0 in
    let read = map_some (head_at front) (λ (front : Head × List ℕ). front.0) head told.1 in
    let takes : Takes head_part front read.0.0 read.0.1 = head-is_part.spelled front read.0.0 read.0.1 are read.1 in
    let takes_head : Takes head_part front head read.0.1 = subst (λ (h : Head). Takes head_part front h read.0.1) read.2 takes in
    let fits : IsHead head = takes_head.fits in
    let tests = three_of (is_eq (key_cmp head.key key)) ((head.form == 1) || (head.stripe == stripe)) (head_bytes head.form + head.len == length bytes) told.2.0 in
    let behind = read.0.1 ++ drop count bytes in
    let parts : bytes ≡ head_text head ++ behind =
    sym (take-append-drop count bytes)
    ∙ ap (λ (b : List ℕ). b ++ drop count bytes) takes_head.parts
    ∙ append_assoc (head_text head) read.0.1 (drop count bytes) in
    let whole : head_bytes head.form + head.len ≡ length bytes = (Decides-eqb (head_bytes head.form + head.len) (length bytes)).0 tests.2 in
    let text_long : length (head_text head) ≡ head_bytes head.form = head_long head fits.named in
    let bytes_long : length bytes ≡ length (head_text head) + length behind = ap length parts ∙ length-append (head_text head) behind in
    let long : length behind ≡ head.len = omega (arith, whole, text_long, bytes_long) in
    let same : head_of stripe key (with_form head.form behind) ≡ head =
    same_head stripe key head behind (sym (same_key-is head.key key tests.0)) (stripe_of head.form stripe head.stripe fits.named tests.1) long in
    let spelled : bytes ≡ head_text (head_of stripe key (with_form head.form behind)) ++ behind = parts ∙ ap (λ (h : Head). head_text h ++ behind) (sym same) in
    let known : size_of (with_form head.form behind) ≡ size_in head = ap (λ (n : ℕ). record { form = head.form; len = n }) long in (
      with_form head.form behind,
      record {
        fits = subst IsHead (sym same) fits;
        spelled = ap (λ (b : List ℕ). Some b) spelled;
      },
      known ∙ told.2.1,
    )
