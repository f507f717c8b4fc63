-- What a start finds on a device that stands for a server: the copies of that server, from at least as many bytes as the
-- heads of their records have, and from just as many where each key on the device is that of a copy.
use Rattle.std.proofs.Common.{◌≡◌, ℕ, ◌+◌, ◌≤◌, Bool, true, false, not, cond, List, [], ◌∷◌, take, Option, Some, None, is_some, refl, sym, ap, subst, ◌∙◌, arith}
use Rattle.std.specs.Prelude.{sum_by}
use Rattle.std.specs.List.{AllByRecursion, list_any}
use Rattle.std.specs.List.Sorted.{IsStrictlySortedBy}
use Rattle.std.specs.Map.{keys_of}
use Rattle.std.specs.Option.{option_map, option_and_then}
use Rattle.std.specs.declared.cmp.Ordering.TheVariants.{Less}
use Rattle.std.proofs.lemmas.List.Sums.{sum_by-cons}
use Rattle.std.proofs.lemmas.Map.Keys.{sorted_head, sorted_tail}
use Rattle.std.proofs.lemmas.Option.{same_Some}
use Rattle.std.proofs.lemmas.Bool.{or_parts}
use Rattle.qfs_base.specs.Key.{key_cmp}
use Rattle.qfs_base.specs.KeyMap.{value_at, has_key}
use Rattle.qfs_base.specs.declared.chunk.ChunkKey.{ChunkKey}
use Rattle.qfs_device.specs.Held.{Held, Contents, chunk_at}
use Rattle.qfs_model_server.specs.Chunk.{Chunk, head_bytes}
use Rattle.qfs_model_server.specs.Server.{Server, Copies, start_reads}
use Rattle.qfs_model_store.specs.Stands.{IsRecordOf, HoldsUnder, StandsFor}
use Rattle.qfs_record.specs.Part.{AreBytes}
use Rattle.qfs_record.specs.ChunkRecord.{chunk_record}
use Rattle.qfs_store.specs.Known.{Sizes, size_of, sizes_in}
use Rattle.qfs_store.specs.Serves.{has_leftovers}
use Rattle.qfs_store.specs.Start.{front_bytes, copy_under, AreFronts, copies_in, fronts}
use Rattle.qfs_store.specs.declared.copies.CopySize.{CopySize}
use Rattle.qfs_store.proofs.EntryLaws.{behind_none, same_entries}
use Rattle.qfs_store.proofs.HeadLaws.{record_front, record_found, found_record}
use Rattle.qfs_store.proofs.KeyLaws.{same_key, same_key-is, size_at}
use Rattle.qfs_store.proofs.ReadLaws.{Stands, all_stand, added, copies_more}
use Rattle.qfs_store.proofs.StandsLaws.{nothing_named}

-- ---- the order of the keys

abbrev Above : ChunkKey → List ChunkKey → Type 0
Above key keys = AllByRecursion (λ q. key_cmp key q ≡ Less) keys

added_above : (key q : ChunkKey) (size : Option CopySize) (others : Sizes) → key_cmp q key ≡ Less → Above q (keys_of others) → Above q (keys_of (added key size others))
added_above key q None others less above = above
added_above key q (Some size) others less above = (less, above)

copies_above : (stripe : ℕ) (q : ChunkKey) (es : Contents) → Above q (keys_of es) → Above q (keys_of (copies_in stripe es))
copies_above stripe q [] above = tt
copies_above stripe q (e ∷ es) above =
    subst (λ (t : Sizes). Above q (keys_of t)) (sym (copies_more stripe e es))
    (added_above e.0 q (copy_under stripe e.0 e.1) (copies_in stripe es) above.0 (copies_above stripe q es above.1))

added_rise : (key : ChunkKey) (size : Option CopySize) (others : Sizes) → Above key (keys_of others) → IsStrictlySortedBy key_cmp (keys_of others)
    → IsStrictlySortedBy key_cmp (keys_of (added key size others))
unfolding IsStrictlySortedBy
added_rise key None others above rising = rising
added_rise key (Some size) others above rising = (above, rising)

copies_rise : (stripe : ℕ) (es : Contents) → IsStrictlySortedBy key_cmp (keys_of es) → IsStrictlySortedBy key_cmp (keys_of (copies_in stripe es))
copies_rise stripe [] rising = rising
copies_rise stripe (e ∷ es) rising =
    subst (λ (t : Sizes). IsStrictlySortedBy key_cmp (keys_of t)) (sym (copies_more stripe e es))
    (added_rise e.0 (copy_under stripe e.0 e.1) (copies_in stripe es)
    (copies_above stripe e.0 es (sorted_head key_cmp e.0 (keys_of es) rising))
    (copies_rise stripe es (sorted_tail key_cmp e.0 (keys_of es) rising)))

-- ---- the copy under a key

-- this one, or else another
abbrev first_of : Option CopySize → Option CopySize → Option CopySize
first_of None other = other
first_of (Some size) other = Some size

cond_same : (b : Bool) (value : Option CopySize) → value ≡ cond b value value
cond_same true value = refl
cond_same false value = refl

added_at : (key q : ChunkKey) (size : Option CopySize) (others : Sizes)
    → value_at key_cmp (added key size others) q ≡ cond (same_key q key) (first_of size (value_at key_cmp others q)) (value_at key_cmp others q)
added_at key q None others = cond_same (same_key q key) (value_at key_cmp others q)
added_at key q (Some size) others = refl

alone : (size : Option CopySize) → first_of size None ≡ size
alone None = refl
alone (Some size) = refl

one_at : (b : Bool) (under : List ℕ → Option CopySize) (size later : Option CopySize) (bytes : List ℕ) (found : Option (List ℕ))
    → (b ≡ true → size ≡ under bytes) → (b ≡ true → found ≡ None) → later ≡ option_and_then under found
    → cond b (first_of size later) later ≡ option_and_then under (cond b (Some bytes) found)
one_at true under size later bytes found here none rest =
    ap (first_of size) (rest ∙ ap (option_and_then under) (none refl)) ∙ alone size ∙ here refl
one_at false under size later bytes found here none rest = rest

-- the copy that is found under a key is the one whose record the bytes under it are
pub found_at : (stripe : ℕ) (es : Contents) (q : ChunkKey) → IsStrictlySortedBy key_cmp (keys_of es)
    → value_at key_cmp (copies_in stripe es) q ≡ option_and_then (copy_under stripe q) (value_at key_cmp es q)
found_at stripe [] q rising = refl
found_at stripe (e ∷ es) q rising =
    ap (λ (t : Sizes). value_at key_cmp t q) (copies_more stripe e es)
    ∙ added_at e.0 q (copy_under stripe e.0 e.1) (copies_in stripe es)
    ∙ one_at (same_key q e.0) (copy_under stripe q) (copy_under stripe e.0 e.1) (value_at key_cmp (copies_in stripe es) q) e.1 (value_at key_cmp es q)
    (λ at. ap (λ (k : ChunkKey). copy_under stripe k e.1) (same_key-is q e.0 at))
    (λ at. ap (value_at key_cmp es) (sym (same_key-is q e.0 at)) ∙ behind_none e.0 es (sorted_head key_cmp e.0 (keys_of es) rising))
    (found_at stripe es q (sorted_tail key_cmp e.0 (keys_of es) rising))

-- ---- the copies of the server

no_copy : (stripe : ℕ) (key : ChunkKey) (bytes : List ℕ) (size : Option CopySize) → AreBytes (take (front_bytes bytes) bytes)
    → ((copy : Chunk) → IsRecordOf stripe key (Some bytes) copy → ⊥) → copy_under stripe key bytes ≡ size → size ≡ None
no_copy stripe key bytes None are none is = refl
no_copy stripe key bytes (Some size) are none is =
    let found = found_record stripe key bytes size are is in
    absurd (none found.0 found.1)

copy_found : (stripe : ℕ) (key : ChunkKey) (found : Option (List ℕ)) (copy : Option Chunk)
    → ((bytes : List ℕ) → found ≡ Some bytes → AreBytes (take (front_bytes bytes) bytes)) → HoldsUnder stripe key found copy
    → option_and_then (copy_under stripe key) found ≡ option_map size_of copy
copy_found stripe key None None are holds = refl
copy_found stripe key None (Some copy) are holds = absurd (nothing_named stripe key copy holds)
copy_found stripe key (Some bytes) None are holds = no_copy stripe key bytes (copy_under stripe key bytes) (are bytes refl) holds refl
copy_found stripe key (Some bytes) (Some copy) are holds = record_found stripe key bytes copy holds

one_front : (b : Bool) (one bytes : List ℕ) (rest : Option (List ℕ)) → AreBytes (take (front_bytes one) one)
    → (rest ≡ Some bytes → AreBytes (take (front_bytes bytes) bytes)) → cond b (Some one) rest ≡ Some bytes → AreBytes (take (front_bytes bytes) bytes)
one_front true one bytes rest are others is = subst (λ (t : List ℕ). AreBytes (take (front_bytes t) t)) (same_Some one bytes is) are
one_front false one bytes rest are others is = others is

front_at : (es : Contents) (q : ChunkKey) (bytes : List ℕ) → AreFronts es → value_at key_cmp es q ≡ Some bytes → AreBytes (take (front_bytes bytes) bytes)
front_at [] q bytes are is = let no : None ≡ Some bytes = is in absurd cc
front_at (e ∷ es) q bytes are is = one_front (same_key q e.0) e.1 bytes (value_at key_cmp es q) are.0 (front_at es q bytes are.1) is

-- the copies that are found are those of the server
pub copies_found : (stripe : ℕ) (held : Held) (server : Server) → StandsFor stripe held server → IsStrictlySortedBy key_cmp (keys_of held.contents)
    → IsStrictlySortedBy key_cmp (keys_of (sizes_in server.copies)) → AreFronts held.contents → copies_in stripe held.contents ≡ sizes_in server.copies
copies_found stripe held server stands rising known are =
    same_entries (copies_in stripe held.contents) (sizes_in server.copies) (copies_rise stripe held.contents rising) known (λ q.
    found_at stripe held.contents q rising
    ∙ copy_found stripe q (chunk_at held q) (value_at key_cmp server.copies q) (λ bytes is. front_at held.contents q bytes are is) (stands.keys q)
    ∙ sym (size_at server.copies q))

-- ---- the bytes that are read

-- how long the head of the record of a copy of this size is
abbrev head_size : ChunkKey × CopySize → ℕ
head_size copy = head_bytes copy.1.form

abbrev heads : Sizes → ℕ
heads copies = sum_by head_size copies

abbrev head_if : Option CopySize → ℕ
head_if None = 0
head_if (Some size) = head_bytes size.form

heads_added : (key : ChunkKey) (size : Option CopySize) (others : Sizes) → heads (added key size others) ≡ head_if size + heads others
heads_added key None others = omega arith
heads_added key (Some size) others = sum_by-cons head_size (key, size) others

heads_more : (stripe : ℕ) (e : ChunkKey × List ℕ) (es : Contents) → heads (copies_in stripe (e ∷ es)) ≡ head_if (copy_under stripe e.0 e.1) + heads (copies_in stripe es)
heads_more stripe e es = ap heads (copies_more stripe e es) ∙ heads_added e.0 (copy_under stripe e.0 e.1) (copies_in stripe es)

-- where a copy is found its head was read, and no more
front_is_head : (stripe : ℕ) (key : ChunkKey) (bytes : List ℕ) (size : CopySize) → AreBytes (take (front_bytes bytes) bytes) → copy_under stripe key bytes ≡ Some size
    → head_bytes size.form ≡ front_bytes bytes
front_is_head stripe key bytes size are is =
    let found = found_record stripe key bytes size are is in
    ap (λ (s : CopySize). head_bytes s.form) (sym found.2)
    ∙ sym (record_front stripe key found.0 found.1.fits)
    ∙ ap front_bytes (sym (same_Some bytes (chunk_record stripe key found.0) found.1.spelled))

head_within : (stripe : ℕ) (key : ChunkKey) (bytes : List ℕ) (size : Option CopySize) → AreBytes (take (front_bytes bytes) bytes) → copy_under stripe key bytes ≡ size
    → head_if size ≤ front_bytes bytes
head_within stripe key bytes None are is = omega arith
head_within stripe key bytes (Some size) are is = let same = front_is_head stripe key bytes size are is in omega arith

head_whole : (stripe : ℕ) (key : ChunkKey) (bytes : List ℕ) (size : Option CopySize) → AreBytes (take (front_bytes bytes) bytes) → copy_under stripe key bytes ≡ size
    → is_some size ≡ true → head_if size ≡ front_bytes bytes
head_whole stripe key bytes None are is some = absurd cc
head_whole stripe key bytes (Some size) are is some = front_is_head stripe key bytes size are is

abbrev front_of : ChunkKey × List ℕ → ℕ
front_of chunk = front_bytes chunk.1

heads_within : (stripe : ℕ) (es : Contents) → AreFronts es → heads (copies_in stripe es) ≤ fronts es
heads_within stripe [] are = omega arith
heads_within stripe (e ∷ es) are =
    let more = heads_more stripe e es in
    let here = head_within stripe e.0 e.1 (copy_under stripe e.0 e.1) are.0 refl in
    let rest = heads_within stripe es are.1 in
    let all = sum_by-cons front_of e es in
    omega (arith, more, here, rest, all)

-- a copy is found under each key
abbrev AllFound : ℕ → Contents → Type 0
AllFound stripe es = AllByRecursion (λ (e : ChunkKey × List ℕ). is_some (copy_under stripe e.0 e.1) ≡ true) es

heads_whole : (stripe : ℕ) (es : Contents) → AreFronts es → AllFound stripe es → heads (copies_in stripe es) ≡ fronts es
heads_whole stripe [] are found = refl
heads_whole stripe (e ∷ es) are found =
    let more = heads_more stripe e es in
    let here = head_whole stripe e.0 e.1 (copy_under stripe e.0 e.1) are.0 refl found.0 in
    let rest = heads_whole stripe es are.1 found.1 in
    let all = sum_by-cons front_of e es in
    omega (arith, more, here, rest, all)

one_found : (stripe : ℕ) (key : ChunkKey) (bytes : List ℕ) (copy : Option Chunk) → HoldsUnder stripe key (Some bytes) copy → not (is_some copy) ≡ false
    → is_some (copy_under stripe key bytes) ≡ true
one_found stripe key bytes None holds there = absurd cc
one_found stripe key bytes (Some copy) holds there = ap is_some (record_found stripe key bytes copy holds)

all_found : (stripe : ℕ) (held : Held) (server : Server) (es : Contents) → StandsFor stripe held server → Stands held.contents es
    → list_any (λ (chunk : ChunkKey × List ℕ). not (has_key key_cmp server.copies chunk.0)) es ≡ false → AllFound stripe es
all_found stripe held server [] stands there none = tt
all_found stripe held server (e ∷ es) stands there none =
    let parts = or_parts (not (has_key key_cmp server.copies e.0)) (list_any (λ (chunk : ChunkKey × List ℕ). not (has_key key_cmp server.copies chunk.0)) es) none in (
      one_found stripe e.0 e.1 (value_at key_cmp server.copies e.0)
          (subst (λ (found : Option (List ℕ)). HoldsUnder stripe e.0 found (value_at key_cmp server.copies e.0)) there.0 (stands.keys e.0)) parts.0,
      all_found stripe held server es stands there.1 parts.1,
    )

abbrev copy_head : ChunkKey × Chunk → ℕ
copy_head copy = head_bytes copy.1.form

copy_heads : (copies : Copies) → sum_by copy_head copies ≡ heads (sizes_in copies)
copy_heads [] = refl
copy_heads (copy ∷ copies) =
    let rest = copy_heads copies in
    let all = sum_by-cons copy_head copy copies in
    let sizes = sum_by-cons head_size (copy.0, size_of copy.1) (sizes_in copies) in
    omega (arith, rest, all, sizes)

reads_down : (server : Server) → server.up ≡ false → start_reads server ≡ sum_by copy_head server.copies
unfolding start_reads
reads_down server down = ap (λ (b : Bool). cond b 0 (sum_by copy_head server.copies)) down

-- what is read of a device of a stopped server
pub record ReadsAs (held : Held) (server : Server) : Type 0 where
  pub least : start_reads server ≤ fronts held.contents
  pub exact : has_leftovers held server ≡ false → start_reads server ≡ fronts held.contents

pub reads_as : (stripe : ℕ) (held : Held) (server : Server) → StandsFor stripe held server → server.up ≡ false → IsStrictlySortedBy key_cmp (keys_of held.contents)
    → AreFronts held.contents → copies_in stripe held.contents ≡ sizes_in server.copies → ReadsAs held server
reads_as stripe held server stands down rising are found =
    let reads : start_reads server ≡ heads (copies_in stripe held.contents) = reads_down server down ∙ copy_heads server.copies ∙ ap heads (sym found) in
    let within = heads_within stripe held.contents are in
    record {
      least = omega (arith, reads, within);
      exact = λ none. reads ∙ heads_whole stripe held.contents are (all_found stripe held server held.contents stands (all_stand held.contents rising) none);
    }
