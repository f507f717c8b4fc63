-- The checks of noted keys, one after another, and what they read and leave.
use Rattle.std.proofs.Common.{◌≡◌, ℕ, ◌+◌, ◌≤◌, Bool, true, false, cond, List, [], ◌∷◌, ◌++◌, length, map, Option, Some, None, is_some, unwrap_or, IfSome, ◌<◌, ◌⊎◌, inl, inr, drop, refl, sym, ap, subst, ◌∙◌, true≢false, arith, append_assoc}
use Rattle.std.specs.Prelude.{nat_le, take, ◌&&◌}
use Rattle.std.proofs.lemmas.List.Sums.{sum_by-cons}
use Rattle.std.specs.List.{fold, AllByRecursion, cons_option}
use Rattle.std.specs.List.Sorted.{IsStrictlySortedBy}
use Rattle.std.specs.Map.{keys_of}
use Rattle.std.specs.Option.{option_map}
use Rattle.std.specs.Cmp.{tied_itself}
use Rattle.std.specs.Ordering.{is_eq, ordering_reverse, match_ordering}
use Rattle.std.proofs.lemmas.List.{append-nil}
use Rattle.std.proofs.Math.Seq.{take-add}
use Rattle.std.specs.declared.cmp.Ordering.{Ordering}
use Rattle.std.specs.declared.cmp.Ordering.TheVariants.{Less, Greater}
use Rattle.std.proofs.lemmas.Map.Keys.{sorted_head, sorted_tail}
use Rattle.std.proofs.lemmas.Option.{same_Some}
use Rattle.qfs_base.specs.Key.{key_cmp}
use Rattle.qfs_base.specs.KeyLaws.{key_cmp_total}
use Rattle.qfs_base.specs.KeyMap.{value_at, has_key, with_entry, without_key, unless}
use Rattle.qfs_base.specs.declared.chunk.ChunkKey.{ChunkKey}
use Rattle.qfs_device.proofs.Sizes.{keys-sizes_of}
use Rattle.qfs_device.specs.Held.{Held, Contents, bytes_at, handing, sizes_of}
use Rattle.qfs_device.specs.declared.chunk_device.KeySize.{KeySize}
use Rattle.std.proofs.lemmas.Bool.Decides.{nat_tests}
use Rattle.std.specs.Prelude.{Err}
use Rattle.std.proofs.lemmas.Bool.{le-leb}
use Rattle.qfs_device.specs.Fault.{TakesNoMemory}
use Rattle.qfs_device.specs.declared.errors.DeviceError.{DeviceError}
use Rattle.qfs_device.specs.declared.errors.DeviceError.TheVariants as Error
use Rattle.qfs_record.specs.Part.{AreBytes}
use Rattle.qfs_record.specs.ChunkRecord.{begins_second, head_in}
use Rattle.qfs_store.specs.Known.{Sizes}
use Rattle.qfs_store.specs.Start.{front_bytes, copy_in, copy_under, entry_of, copies_in, fronts, unread, noting, settled, checking, front_under, front_sum, HasBytes, AreFronts, IsSized, Reads, Found, Checked, FindsOn}
use Rattle.qfs_store.specs.declared.copies.CopySize.{CopySize}
use Rattle.qfs_store.proofs.KeyLaws.{same_key, same_itself}

-- ---- what a device tells

pub some_of : {X : Type 0} (o : Option X) → is_some o ≡ true → (x : X) × (o ≡ Some x)
some_of None some = absurd (true≢false (sym some))
some_of (Some x) some = (x, refl)

pub if_some_at : {A : Type 0} (P : A → Type 0) (o : Option A) (x : A) → o ≡ Some x → IfSome o P → P x
if_some_at {A = A} P o x is holds = subst (λ (p : Option A). IfSome p P) is holds

pub nothing_read : (held : Held) (told : Option Held) → told ≡ Some held → Reads held told 0
nothing_read held told told_is = record { after = held; told_is = told_is; contents = refl; life = refl; handed = omega arith }

pub read_more : (held : Held) (told told' : Option Held) (count more : ℕ) → Reads held told count → ((now : Held) → told ≡ Some now → Reads now told' more) → Reads held told' (count + more)
read_more held told told' count more before next =
    let then = next before.after before.told_is in
    let one = before.handed in
    let two = then.handed in
    record { after = then.after; told_is = then.told_is; contents = then.contents ∙ before.contents; life = then.life ∙ before.life; handed = omega arith }

pub nil_if : (rest : List KeySize) → length rest ≡ 0 → rest ≡ []
nil_if [] none = refl
nil_if (chunk ∷ rest) none = absurd (omega arith)

-- ---- one check

-- what depends on a device's chunks alone
along_contents : (P : Held → Type 0) (held after : Held) → P (record held { contents = after.contents }) → after.contents ≡ held.contents → P held
along_contents P held after holds same = subst (λ (contents : Contents). P (record held { contents = contents })) same holds

pub check_next : (stripe : ℕ) (held : Held) (told told' : Option Held) (begun now now' : Sizes) (sizes : List KeySize) (chunk : KeySize) (rest : List KeySize)
    → Checked stripe held told begun now sizes (chunk ∷ rest)
    → ((here : Held) → told ≡ Some here → (now' ≡ checking stripe here now chunk) × HasBytes here chunk × Reads here told' (front_under here chunk))
    → Checked stripe held told' begun now' sizes rest
check_next stripe held told told' begun now now' sizes chunk rest before did =
    let here = before.reads.after in
    let one = did here before.reads.told_is in
    let is : now' ≡ checking stripe held now chunk = one.0 ∙ ap (λ (contents : Contents). checking stripe (record held { contents = contents }) now chunk) before.reads.contents in
    let bytes : HasBytes held chunk = subst (λ (contents : Contents). HasBytes (record held { contents = contents }) chunk) before.reads.contents one.1 in
    let front : front_under here chunk ≡ front_under held chunk = ap (λ (contents : Contents). front_under (record held { contents = contents }) chunk) before.reads.contents in
    let counts = before.counts in
    record {
      count = before.count + front_under held chunk;
      reads = read_more held told told' before.count (front_under held chunk) before.reads
          (λ there told_is.
          let same : here ≡ there = same_Some here there (sym before.reads.told_is ∙ told_is) in
          subst (λ (h : Held). Reads h told' (front_under held chunk)) same (subst (Reads here told') front one.2));
      leads = ap (λ (t : Sizes). fold (checking stripe held) t rest) is ∙ before.leads;
      counts = omega (arith, sum_by-cons (front_under held) chunk rest);
      readable = before.readable.1;
      fronts_are = λ others. before.fronts_are (bytes, others);
    }

-- ---- the beginning

-- a key above another isn't the same
above : (a b : ChunkKey) → key_cmp a b ≡ Less → same_key b a ≡ false
above a b less = ap is_eq (key_cmp_total.antisymm b a ∙ ap ordering_reverse less)

abbrev pub Stands : Contents → Contents → Type 0
Stands whole part = AllByRecursion (λ (chunk : ChunkKey × List ℕ). value_at key_cmp whole chunk.0 ≡ Some chunk.1) part

stand_behind : (entry : ChunkKey × List ℕ) (whole rest : Contents) → AllByRecursion (λ key. key_cmp entry.0 key ≡ Less) (keys_of rest) → Stands whole rest → Stands (entry ∷ whole) rest
stand_behind entry whole [] behind stand = tt
stand_behind entry whole (next ∷ rest) behind stand = (
  ap (λ (b : Bool). cond b (Some entry.1) (value_at key_cmp whole next.0)) (above entry.0 next.0 behind.0) ∙ stand.0,
  stand_behind entry whole rest behind.1 stand.1,
)

-- each entry is found under its key
pub all_stand : (contents : Contents) → IsStrictlySortedBy key_cmp (keys_of contents) → Stands contents contents
all_stand [] rising = tt
all_stand (entry ∷ rest) rising = (
  ap (λ (b : Bool). cond b (Some entry.1) (value_at key_cmp rest entry.0)) (same_itself entry.0),
  stand_behind entry rest rest (sorted_head key_cmp entry.0 (keys_of rest) rising) (all_stand rest (sorted_tail key_cmp entry.0 (keys_of rest) rising)),
)

are_sized : (held : Held) (part : Contents) → Stands held.contents part → AllByRecursion (IsSized held) (sizes_of part)
are_sized held [] stand = tt
are_sized held (entry ∷ part) stand = (
  record { there = ap is_some stand.0; size = ap length (sym (ap (λ (o : Option (List ℕ)). unwrap_or o []) stand.0)) },
  are_sized held part stand.1,
)

pub contents_rise : (held : Held) (sizes : List KeySize) → sizes ≡ sizes_of held.contents → IsStrictlySortedBy key_cmp (map (λ chunk. chunk.key) sizes) → IsStrictlySortedBy key_cmp (keys_of held.contents)
contents_rise held sizes are rising = subst (IsStrictlySortedBy key_cmp) (ap (λ (t : List KeySize). map (λ chunk. chunk.key) t) are ∙ keys-sizes_of held.contents) rising

pub all_begin : (stripe : ℕ) (held : Held) (told : Option Held) (begun : Sizes) (sizes : List KeySize) → told ≡ Some held → sizes ≡ sizes_of held.contents
    → IsStrictlySortedBy key_cmp (map (λ chunk. chunk.key) sizes) → Checked stripe held told begun begun sizes sizes
all_begin stripe held told begun sizes told_is are rising = record {
  count = 0;
  reads = nothing_read held told told_is;
  leads = refl;
  counts = omega arith;
  readable = subst (AllByRecursion (IsSized held)) (sym are) (are_sized held held.contents (all_stand held.contents (contents_rise held sizes are rising)));
  fronts_are = λ all. all;
}

pub readable_here : (stripe : ℕ) (held here : Held) (told : Option Held) (begun now : Sizes) (sizes : List KeySize) (chunk : KeySize) (rest : List KeySize)
    → Checked stripe held told begun now sizes (chunk ∷ rest) → told ≡ Some here → IsSized here chunk
readable_here stripe held here told begun now sizes chunk rest checks told_is =
    let same : checks.reads.after ≡ here = same_Some checks.reads.after here (sym checks.reads.told_is ∙ told_is) in
    let contents : held.contents ≡ here.contents = sym checks.reads.contents ∙ ap (λ (h : Held). h.contents) same in
    let sized = checks.readable.0 in
    record {
      there = subst (λ (c : Contents). is_some (value_at key_cmp c chunk.key) ≡ true) contents sized.there;
      size = sized.size ∙ ap (λ (c : Contents). length (unwrap_or (value_at key_cmp c chunk.key) [])) contents;
    }

-- ---- entries in the order of their keys

-- every key of the entries is below this one
abbrev Below : Sizes → ChunkKey → Type 0
Below entries key = AllByRecursion (λ q. key_cmp q key ≡ Less) (keys_of entries)

-- and below each of these
abbrev AllBelow : Sizes → List ChunkKey → Type 0
AllBelow entries keys = AllByRecursion (Below entries) keys

greater : (a b : ChunkKey) → key_cmp a b ≡ Less → key_cmp b a ≡ Greater
greater a b less = key_cmp_total.antisymm b a ∙ ap ordering_reverse less

below_more : (entries : Sizes) (key q : ChunkKey) (size : CopySize) → Below entries q → key_cmp key q ≡ Less → Below (entries ++ (key, size) ∷ []) q
below_more [] key q size below less = (less, tt)
below_more (e ∷ es) key q size below less = (below.0, below_more es key q size below.1 less)

all_below_more : (entries : Sizes) (key : ChunkKey) (size : CopySize) (keys : List ChunkKey) → AllBelow entries keys → AllByRecursion (λ q. key_cmp key q ≡ Less) keys → AllBelow (entries ++ (key, size) ∷ []) keys
all_below_more entries key size [] below less = tt
all_below_more entries key size (q ∷ keys) below less = (below_more entries key q size below.0 less.0, all_below_more entries key size keys below.1 less.1)

nothing_below : (keys : List ChunkKey) → AllBelow [] keys
nothing_below [] = tt
nothing_below (q ∷ keys) = (tt, nothing_below keys)

-- an entry is set behind all that are below its key, before or in place of what stands there
set_last : (entries : Sizes) (key : ChunkKey) (size : CopySize) → Below entries key → with_entry key_cmp entries key size ≡ entries ++ (key, size) ∷ []
set_last [] key size below = refl
set_last (e ∷ es) key size below =
    ap (λ (r : Ordering). match_ordering r ((key, size) ∷ e ∷ es) ((e.0, size) ∷ es) (e ∷ with_entry key_cmp es key size)) (greater e.0 key below.0)
    ∙ ap (λ (others : Sizes). e ∷ others) (set_last es key size below.1)

set_between : (entries : Sizes) (key : ChunkKey) (old size : CopySize) (behind : Sizes) → Below entries key
    → with_entry key_cmp (entries ++ (key, old) ∷ behind) key size ≡ entries ++ (key, size) ∷ behind
set_between [] key old size behind below =
    ap (λ (r : Ordering). match_ordering r ((key, size) ∷ (key, old) ∷ behind) ((key, size) ∷ behind) ((key, old) ∷ with_entry key_cmp behind key size)) (tied_itself key_cmp_total key)
set_between (e ∷ es) key old size behind below =
    ap (λ (r : Ordering). match_ordering r ((key, size) ∷ e ∷ (es ++ (key, old) ∷ behind)) ((e.0, size) ∷ (es ++ (key, old) ∷ behind)) (e ∷ with_entry key_cmp (es ++ (key, old) ∷ behind) key size)) (greater e.0 key below.0)
    ∙ ap (λ (others : Sizes). e ∷ others) (set_between es key old size behind below.1)

there_between : (entries : Sizes) (key : ChunkKey) (old : CopySize) (behind : Sizes) → Below entries key → has_key key_cmp (entries ++ (key, old) ∷ behind) key ≡ true
there_between [] key old behind below = ap (λ (b : Bool). is_some (cond b (Some old) (value_at key_cmp behind key))) (same_itself key)
there_between (e ∷ es) key old behind below =
    ap (λ (r : Ordering). is_some (cond (is_eq r) (Some e.1) (value_at key_cmp (es ++ (key, old) ∷ behind) key))) (greater e.0 key below.0)
    ∙ there_between es key old behind below.1

out_behind : (key : ChunkKey) (behind : Sizes) → AllByRecursion (λ q. key_cmp key q ≡ Less) (keys_of behind) → without_key key_cmp behind key ≡ behind
out_behind key [] above = refl
out_behind key (e ∷ es) above =
    ap (λ (r : Ordering). unless (is_eq r) e (without_key key_cmp es key)) above.0 ∙ ap (λ (others : Sizes). e ∷ others) (out_behind key es above.1)

out_between : (entries : Sizes) (key : ChunkKey) (old : CopySize) (behind : Sizes) → Below entries key → AllByRecursion (λ q. key_cmp key q ≡ Less) (keys_of behind)
    → without_key key_cmp (entries ++ (key, old) ∷ behind) key ≡ entries ++ behind
out_between [] key old behind below above =
    ap (λ (b : Bool). unless b (key, old) (without_key key_cmp behind key)) (same_itself key) ∙ out_behind key behind above
out_between (e ∷ es) key old behind below above =
    ap (λ (r : Ordering). unless (is_eq r) e (without_key key_cmp (es ++ (key, old) ∷ behind) key)) (greater e.0 key below.0)
    ∙ ap (λ (others : Sizes). e ∷ others) (out_between es key old behind below.1 above)

-- ---- all keys

-- the keys that are noted before their heads are read
abbrev blanks : Contents → Sizes
blanks [] = []
blanks (e ∷ es) = cond (nat_le 21 (length e.1)) ((e.0, unread) ∷ blanks es) (blanks es)

noted_all : (entries : Sizes) (es : Contents) → AllBelow entries (keys_of es) → IsStrictlySortedBy key_cmp (keys_of es) → fold noting entries (sizes_of es) ≡ entries ++ blanks es
noted_all entries [] below rising = sym (append-nil entries)
noted_all entries (e ∷ es) below rising =
    elim (nat_le 21 (length e.1)) as (λ (b : Bool). fold noting (cond b (with_entry key_cmp entries e.0 unread) entries) (sizes_of es) ≡ entries ++ cond b ((e.0, unread) ∷ blanks es) (blanks es)) [
      | true ↦
          ap (λ (t : Sizes). fold noting t (sizes_of es)) (set_last entries e.0 unread below.0)
          ∙ noted_all (entries ++ (e.0, unread) ∷ []) es (all_below_more entries e.0 unread (keys_of es) below.1 (sorted_head key_cmp e.0 (keys_of es) rising)) (sorted_tail key_cmp e.0 (keys_of es) rising)
          ∙ append_assoc entries ((e.0, unread) ∷ []) (blanks es)
      | false ↦ noted_all entries es below.1 (sorted_tail key_cmp e.0 (keys_of es) rising)
    ]

blanks_above : (key : ChunkKey) (es : Contents) → AllByRecursion (λ q. key_cmp key q ≡ Less) (keys_of es) → AllByRecursion (λ q. key_cmp key q ≡ Less) (keys_of (blanks es))
blanks_above key [] above = tt
blanks_above key (e ∷ es) above =
    elim (nat_le 21 (length e.1)) as (λ (b : Bool). AllByRecursion (λ q. key_cmp key q ≡ Less) (keys_of (cond b ((e.0, unread) ∷ blanks es) (blanks es)))) [
      | true ↦ (above.0, blanks_above key es above.1)
      | false ↦ blanks_above key es above.1
    ]

abbrev pub added : ChunkKey → Option CopySize → Sizes → Sizes
added key None others = others
added key (Some size) others = (key, size) ∷ others

pub copies_more : (stripe : ℕ) (e : ChunkKey × List ℕ) (es : Contents) → copies_in stripe (e ∷ es) ≡ added e.0 (copy_under stripe e.0 e.1) (copies_in stripe es)
copies_more stripe e es =
    elim (copy_under stripe e.0 e.1) as (λ (o : Option CopySize). cons_option (option_map (entry_of e.0) o) (copies_in stripe es) ≡ added e.0 o (copies_in stripe es)) [
      | None ↦ refl
      | Some size ↦ refl
    ]

short_none : (stripe : ℕ) (key : ChunkKey) (bytes : List ℕ) → nat_le 21 (length bytes) ≡ false → copy_under stripe key bytes ≡ None
short_none stripe key bytes short =
    ap (λ (b : Bool). copy_in stripe key (length bytes) (head_in (take (cond b (cond (begins_second bytes && nat_le 25 (length bytes)) 25 21) 0) bytes))) short

settle_one : (key : ChunkKey) (size : Option CopySize) (entries behind : Sizes) → Below entries key → AllByRecursion (λ q. key_cmp key q ≡ Less) (keys_of behind)
    → settled (entries ++ (key, unread) ∷ behind) key size ≡ entries ++ added key size behind
settle_one key None entries behind below above = out_between entries key unread behind below above
settle_one key (Some size) entries behind below above =
    ap (λ (b : Bool). cond b (with_entry key_cmp (entries ++ (key, unread) ∷ behind) key size) (entries ++ (key, unread) ∷ behind)) (there_between entries key unread behind below)
    ∙ set_between entries key unread size behind below

-- what checking the keys that are left makes of the noted ones: the copies that stand there
settle_all : (stripe : ℕ) (held : Held) (entries : Sizes) (es : Contents) → Stands held.contents es → AllBelow entries (keys_of es) → IsStrictlySortedBy key_cmp (keys_of es)
    → fold (checking stripe held) (entries ++ blanks es) (sizes_of es) ≡ entries ++ copies_in stripe es
settle_all stripe held entries [] stand below rising = refl
settle_all stripe held entries (e ∷ es) stand below rising =
    let later = sorted_tail key_cmp e.0 (keys_of es) rising in
    let above = sorted_head key_cmp e.0 (keys_of es) rising in
    let copy = copy_under stripe e.0 e.1 in
    let here : bytes_at held e.0 ≡ e.1 = ap (λ (o : Option (List ℕ)). unwrap_or o []) stand.0 in
    let rest : (c : Option CopySize) → fold (checking stripe held) (entries ++ added e.0 c (blanks es)) (sizes_of es) ≡ entries ++ added e.0 c (copies_in stripe es) = λ c.
    elim c as (λ (o : Option CopySize). fold (checking stripe held) (entries ++ added e.0 o (blanks es)) (sizes_of es) ≡ entries ++ added e.0 o (copies_in stripe es)) [
      | None ↦ settle_all stripe held entries es stand.1 below.1 later
      | Some size ↦
          ap (λ (t : Sizes). fold (checking stripe held) t (sizes_of es)) (sym (append_assoc entries ((e.0, size) ∷ []) (blanks es)))
          ∙ settle_all stripe held (entries ++ (e.0, size) ∷ []) es stand.1 (all_below_more entries e.0 size (keys_of es) below.1 above) later
          ∙ append_assoc entries ((e.0, size) ∷ []) (copies_in stripe es)
    ] in
    elim (nat_le 21 (length e.1)) as (λ (b : Bool). nat_le 21 (length e.1) ≡ b
    → fold (checking stripe held)
    (cond b (settled (entries ++ cond b ((e.0, unread) ∷ blanks es) (blanks es)) e.0 (copy_under stripe e.0 (bytes_at held e.0))) (entries ++ cond b ((e.0, unread) ∷ blanks es) (blanks es)))
    (sizes_of es)
    ≡ entries ++ copies_in stripe (e ∷ es)) [
      | true ↦ λ long.
          ap (λ (t : Sizes). fold (checking stripe held) t (sizes_of es))
          (ap (λ (bytes : List ℕ). settled (entries ++ (e.0, unread) ∷ blanks es) e.0 (copy_under stripe e.0 bytes)) here
          ∙ settle_one e.0 copy entries (blanks es) below.0 (blanks_above e.0 es above))
          ∙ rest copy
          ∙ ap (λ (t : Sizes). entries ++ t) (sym (copies_more stripe e es))
      | false ↦ λ short.
          rest None
          ∙ ap (λ (t : Sizes). entries ++ t) (ap (λ (o : Option CopySize). added e.0 o (copies_in stripe es)) (sym (short_none stripe e.0 e.1 short)) ∙ sym (copies_more stripe e es))
    ] refl

-- ---- the end

front_sums : (held : Held) (part : Contents) → Stands held.contents part → front_sum held (sizes_of part) ≡ fronts part
front_sums held [] stand = refl
front_sums held (e ∷ es) stand =
    let chunk : KeySize = record { key = e.0; size = length e.1 } in
    let here : front_under held chunk ≡ front_bytes e.1 = ap (λ (o : Option (List ℕ)). front_bytes (unwrap_or o [])) stand.0 in
    let rest = front_sums held es stand.1 in
    omega (arith, here, rest, sum_by-cons (front_under held) chunk (sizes_of es), sum_by-cons (λ (c : ChunkKey × List ℕ). front_bytes c.1) e es)

are_fronts : (held : Held) (part : Contents) → Stands held.contents part → AllByRecursion (HasBytes held) (sizes_of part) → AreFronts part
are_fronts held [] stand all = tt
are_fronts held (e ∷ es) stand all = (
  subst (λ (o : Option (List ℕ)). AreBytes (take (front_bytes (unwrap_or o [])) (unwrap_or o []))) stand.0 all.0,
  are_fronts held es stand.1 all.1,
)

pub all_end : (stripe : ℕ) (held : Held) (told : Option Held) (begun now : Sizes) (sizes rest : List KeySize) → Checked stripe held told begun now sizes rest → rest ≡ []
    → begun ≡ fold noting [] sizes → sizes ≡ sizes_of held.contents → IsStrictlySortedBy key_cmp (keys_of held.contents) → Found stripe held now told
all_end stripe held told begun now sizes rest checks none noted are rising =
    let stand = all_stand held.contents rising in
    let left : fold (checking stripe held) now [] ≡ fold (checking stripe held) begun sizes = ap (λ (t : List KeySize). fold (checking stripe held) now t) (sym none) ∙ checks.leads in
    let none_left : front_sum held rest ≡ 0 = ap (front_sum held) none in
    let counts = checks.counts in
    let whole : front_sum held sizes ≡ fronts held.contents = ap (front_sum held) are ∙ front_sums held held.contents stand in
    record {
      copies = left
          ∙ ap (λ (t : Sizes). fold (checking stripe held) t sizes) noted
          ∙ ap (λ (t : List KeySize). fold (checking stripe held) (fold noting [] t) t) are
          ∙ ap (λ (t : Sizes). fold (checking stripe held) t (sizes_of held.contents)) (noted_all [] held.contents (nothing_below (keys_of held.contents)) rising)
          ∙ settle_all stripe held [] held.contents stand (nothing_below (keys_of held.contents)) rising;
      rising = rising;
      bytes = are_fronts held held.contents stand (subst (AllByRecursion (HasBytes held)) are (checks.fronts_are (subst (AllByRecursion (HasBytes held)) (sym none) tt)));
      reads = subst (Reads held told) (omega arith) checks.reads;
    }

-- ---- one head

second_front : (bytes : List ℕ) → begins_second (take 21 bytes) ≡ begins_second bytes
second_front [] = refl
second_front (a ∷ []) = refl
second_front (a ∷ b ∷ []) = refl
second_front (a ∷ b ∷ c ∷ []) = refl
second_front (a ∷ b ∷ c ∷ d ∷ rest) = refl

front_size : (bytes : List ℕ) (more : Bool) → 21 ≤ length bytes → (begins_second bytes && nat_le 25 (length bytes)) ≡ more → front_bytes bytes ≡ cond more 25 21
front_size bytes more long is =
    ap (λ (b : Bool). cond b (cond (begins_second bytes && nat_le 25 (length bytes)) 25 21) 0) (le-leb 21 (length bytes) long)
    ∙ ap (λ (b : Bool). cond b 25 21) is

-- so many bytes from the front were read, and are those that tell the head
pub head_was_read : (held : Held) (told' : Option Held) (chunk : KeySize) (front : List ℕ) (count : ℕ) → front_under held chunk ≡ count
    → front ≡ take count (bytes_at held chunk.key) → AreBytes front → Reads held told' count
    → (head_in front ≡ head_in (take (front_under held chunk) (bytes_at held chunk.key))) × HasBytes held chunk × Reads held told' (front_under held chunk)
head_was_read held told' chunk front count is front_is are reads =
    let same : front ≡ take (front_under held chunk) (bytes_at held chunk.key) = front_is ∙ ap (λ (n : ℕ). take n (bytes_at held chunk.key)) (sym is) in
    (ap head_in same, subst AreBytes same are, subst (Reads held told') (sym is) reads)

-- the errors of a check are faults
pub found_err : (stripe : ℕ) (error : DeviceError) (told told' : Option Held) → TakesNoMemory {T = Unit {0}} (Err error)
    → ((held : Held) → told ≡ Some held → (count : ℕ) × Reads held told' count) → FindsOn stripe (Err error) told told'
found_err stripe Error.Failed told told' some reads = reads
found_err stripe Error.NoMemory told told' some reads = absurd some

-- the device read so much and told it
one_read : (held : Held) (told told' : Option Held) (count : ℕ) → told ≡ Some held → told' ≡ option_map (handing count) told → Reads held told' count
one_read held told told' count told_is handed = record {
  after = handing count held;
  told_is = handed ∙ ap (option_map (handing count)) told_is;
  contents = refl;
  life = refl;
  handed = omega arith;
}

none_more : (bytes : List ℕ) (size : ℕ) → (begins_second bytes ≡ false) ⊎ (size < 25) → (begins_second bytes && nat_le 25 size) ≡ false
none_more bytes size (inl first) = ap (λ (b : Bool). b && nat_le 25 size) first
none_more bytes size (inr short) = grind (arith, nat_tests)

-- a head of the first version, or the front of another, was read at once
pub first_was_read : (held : Held) (told told' : Option Held) (chunk : KeySize) (front : List ℕ) → told ≡ Some held → IsSized held chunk → 21 ≤ chunk.size
    → told' ≡ option_map (handing 21) told → IfSome told (λ held. front ≡ take 21 (drop 0 (bytes_at held chunk.key))) → AreBytes front
    → (begins_second front ≡ false) ⊎ (chunk.size < 25)
    → (head_in front ≡ head_in (take (front_under held chunk) (bytes_at held chunk.key))) × HasBytes held chunk × Reads held told' (front_under held chunk)
first_was_read held told told' chunk front told_is sized long handed read are which =
    let bytes = bytes_at held chunk.key in
    let front_is : front ≡ take 21 bytes = if_some_at (λ (held : Held). front ≡ take 21 (bytes_at held chunk.key)) told held told_is read in
    let size = sized.size in
    let least : 21 ≤ length bytes = omega arith in
    let not_more : (begins_second bytes && nat_le 25 (length bytes)) ≡ false =
    ap (λ (t : Bool × ℕ). t.0 && nat_le 25 t.1) (λ i. ((sym (second_front bytes) ∙ ap begins_second (sym front_is)) i, sym size i)) ∙ none_more front chunk.size which in
    head_was_read held told' chunk front 21 (front_size bytes false least not_more) front_is are (one_read held told told' 21 told_is handed)

-- one of the second version was read in two parts
pub second_was_read : (held : Held) (told told1 told2 : Option Held) (chunk : KeySize) (front stripe whole : List ℕ) → told ≡ Some held → IsSized held chunk → 25 ≤ chunk.size
    → told1 ≡ option_map (handing 21) told → IfSome told (λ held. front ≡ take 21 (drop 0 (bytes_at held chunk.key)))
    → told2 ≡ option_map (handing 4) told1 → IfSome told1 (λ held. stripe ≡ take 4 (drop 21 (bytes_at held chunk.key)))
    → whole ≡ front ++ stripe → AreBytes whole → begins_second front ≡ true
    → (head_in whole ≡ head_in (take (front_under held chunk) (bytes_at held chunk.key))) × HasBytes held chunk × Reads held told2 (front_under held chunk)
second_was_read held told told1 told2 chunk front stripe whole told_is sized long handed read handed2 read2 joined are second =
    let bytes = bytes_at held chunk.key in
    let first = one_read held told told1 21 told_is handed in
    let front_is : front ≡ take 21 bytes = if_some_at (λ (held : Held). front ≡ take 21 (bytes_at held chunk.key)) told held told_is read in
    let stripe_is : stripe ≡ take 4 (drop 21 bytes) = if_some_at (λ (held : Held). stripe ≡ take 4 (drop 21 (bytes_at held chunk.key))) told1 (handing 21 held) (handed ∙ ap (option_map (handing 21)) told_is) read2 in
    let size = sized.size in
    let least : 25 ≤ length bytes = omega arith in
    let enough : nat_le 25 (length bytes) ≡ true = grind (arith, nat_tests) in
    let more : (begins_second bytes && nat_le 25 (length bytes)) ≡ true =
    ap (λ (t : Bool × Bool). t.0 && t.1) (λ i. ((sym (second_front bytes) ∙ ap begins_second (sym front_is) ∙ second) i, enough i)) in
    let whole_is : whole ≡ take 25 bytes =
    joined ∙ ap (λ (t : List ℕ × List ℕ). t.0 ++ t.1) (λ i. (front_is i, stripe_is i)) ∙ sym (take-add 21 4 bytes) in
    head_was_read held told2 chunk whole 25 (front_size bytes true (omega arith) more) whole_is are
    (read_more held told1 told2 21 4 first (λ now now_is. one_read now told1 told2 4 now_is handed2))
