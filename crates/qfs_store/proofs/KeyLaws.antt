-- What becomes of a server's keys, and of the sizes that are known of its copies, where a key is set or taken out.
use Rattle.std.proofs.Common.{◌≡◌, Bool, true, false, cond, List, [], ◌∷◌, Option, Some, None, is_some, refl, sym, ap, ◌∙◌, true≢false}
use Rattle.std.specs.Option.{option_map}
use Rattle.std.specs.Cmp.{tied_itself, Equal-is}
use Rattle.std.specs.Ordering.{is_eq, eq_by_cmp, match_ordering}
use Rattle.std.proofs.lemmas.Map.Made.{lookup-map_values}
use Rattle.std.specs.declared.cmp.Ordering.{Ordering}
use Rattle.std.specs.declared.cmp.Ordering.TheVariants.{Less, Equal, Greater}
use Rattle.qfs_base.specs.Key.{key_cmp}
use Rattle.qfs_base.specs.KeyLaws.{key_cmp_total, key_cmp-Equal}
use Rattle.qfs_base.specs.KeyMap.{value_at, has_key, with_entry, without_key, unless}
use Rattle.qfs_base.specs.declared.chunk.ChunkKey.{ChunkKey}
use Rattle.qfs_model_server.specs.Chunk.{Chunk}
use Rattle.qfs_model_server.specs.Server.{Copies}
use Rattle.qfs_store.specs.Known.{Sizes, size_of, sizes_in}

-- ---- one key

abbrev pub same_key : ChunkKey → ChunkKey → Bool
same_key q key = eq_by_cmp key_cmp q key

pub same_key-is : (q key : ChunkKey) → same_key q key ≡ true → key ≡ q
same_key-is q key e = sym (key_cmp-Equal q key ((Equal-is (key_cmp q key)).0 e))

pub same_itself : (key : ChunkKey) → is_eq (key_cmp key key) ≡ true
same_itself key = ap is_eq (tied_itself key_cmp_total key)

-- ---- entries that were set and taken out again

pub absent_key : {X : Type 0} (entries : List (ChunkKey × X)) (key : ChunkKey) → has_key key_cmp entries key ≡ false → value_at key_cmp entries key ≡ None
absent_key {X = X} entries key apart =
    elim (value_at key_cmp entries key) as (λ (o : Option X). is_some o ≡ false → o ≡ None) [
      | None ↦ λ h. refl
      | Some v ↦ λ h. absurd (true≢false h)
    ] apart

pub absent_again : {X : Type 0} (entries : List (ChunkKey × X)) (key q : ChunkKey) → value_at key_cmp entries key ≡ None → cond (same_key q key) None (value_at key_cmp entries q) ≡ value_at key_cmp entries q
absent_again {X = X} entries key q none =
    elim (same_key q key) as (λ b. same_key q key ≡ b → cond b None (value_at key_cmp entries q) ≡ value_at key_cmp entries q) [
      | true ↦ λ at. sym none ∙ ap (value_at key_cmp entries) (same_key-is q key at)
      | false ↦ λ apart. refl
    ] refl

-- where a key is absent, the first entry is another's, and the key is absent behind it
absent_head : {X : Type 0} (b : Bool) (value : X) (found : Option X) → cond b (Some value) found ≡ None → (b ≡ false) × (found ≡ None)
absent_head true value found none = cc
absent_head false value found none = (refl, none)

pub without_absent : {X : Type 0} (entries : List (ChunkKey × X)) (key : ChunkKey) → value_at key_cmp entries key ≡ None → without_key key_cmp entries key ≡ entries
without_absent [] key none = refl
without_absent {X = X} (e ∷ es) key none =
    let head = absent_head (is_eq (key_cmp key e.0)) e.1 (value_at key_cmp es key) none in
    ap (λ (b : Bool). unless b e (without_key key_cmp es key)) head.0 ∙ ap (λ (others : List (ChunkKey × X)). e ∷ others) (without_absent es key head.1)

taken : {X : Type 0} (entries : List (ChunkKey × X)) (key : ChunkKey) (value : X) → value_at key_cmp entries key ≡ None → without_key key_cmp (with_entry key_cmp entries key value) key ≡ entries
taken {X = X} [] key value none = ap (λ (b : Bool). unless b (key, value) []) (same_itself key)
taken {X = X} (e ∷ es) key value none =
    let head = absent_head (is_eq (key_cmp key e.0)) e.1 (value_at key_cmp es key) none in
    elim (key_cmp key e.0) as (λ (r : Ordering). is_eq r ≡ false → key_cmp key e.0 ≡ r → without_key key_cmp (match_ordering r ((key, value) ∷ e ∷ es) ((e.0, value) ∷ es) (e ∷ with_entry key_cmp es key value)) key ≡ e ∷ es) [
      | Less ↦ λ apart at. ap (λ (b : Bool). unless b (key, value) (without_key key_cmp (e ∷ es) key)) (same_itself key) ∙ without_absent (e ∷ es) key none
      | Equal ↦ λ apart at. absurd (true≢false apart)
      | Greater ↦ λ apart at. ap (λ (b : Bool). unless b e (without_key key_cmp (with_entry key_cmp es key value) key)) head.0 ∙ ap (λ (others : List (ChunkKey × X)). e ∷ others) (taken es key value head.1)
    ] head.0 refl

pub taken_back : {X : Type 0} (entries : List (ChunkKey × X)) (key : ChunkKey) (value : X) → has_key key_cmp entries key ≡ false → without_key key_cmp (with_entry key_cmp entries key value) key ≡ entries
taken_back entries key value apart = taken entries key value (absent_key entries key apart)

-- ---- sizes of copies

unless_sizes : (b : Bool) (copy : ChunkKey × Chunk) (others : Copies) → sizes_in (unless b copy others) ≡ unless b (copy.0, size_of copy.1) (sizes_in others)
unless_sizes true copy others = refl
unless_sizes false copy others = refl

pub sizes_without : (copies : Copies) (key : ChunkKey) → sizes_in (without_key key_cmp copies key) ≡ without_key key_cmp (sizes_in copies) key
sizes_without [] key = refl
sizes_without (copy ∷ copies) key =
    unless_sizes (is_eq (key_cmp key copy.0)) copy (without_key key_cmp copies key)
    ∙ ap (λ (others : Sizes). unless (is_eq (key_cmp key copy.0)) (copy.0, size_of copy.1) others) (sizes_without copies key)

pub sizes_with : (copies : Copies) (key : ChunkKey) (new : Chunk) → sizes_in (with_entry key_cmp copies key new) ≡ with_entry key_cmp (sizes_in copies) key (size_of new)
sizes_with [] key new = refl
sizes_with (copy ∷ copies) key new =
    elim (key_cmp key copy.0) as (λ (r : Ordering). sizes_in (match_ordering r ((key, new) ∷ copy ∷ copies) ((copy.0, new) ∷ copies) (copy ∷ with_entry key_cmp copies key new)) ≡ match_ordering r ((key, size_of new) ∷ sizes_in (copy ∷ copies)) ((copy.0, size_of new) ∷ sizes_in copies) ((copy.0, size_of copy.1) ∷ with_entry key_cmp (sizes_in copies) key (size_of new))) [
      | Less ↦ refl
      | Equal ↦ refl
      | Greater ↦ ap (λ (others : Sizes). (copy.0, size_of copy.1) ∷ others) (sizes_with copies key new)
    ]

pub size_at : (copies : Copies) (key : ChunkKey) → value_at key_cmp (sizes_in copies) key ≡ option_map size_of (value_at key_cmp copies key)
size_at copies key = lookup-map_values size_of (λ k. is_eq (key_cmp key k)) copies

is_some_map : (copy : Option Chunk) → is_some (option_map size_of copy) ≡ is_some copy
is_some_map None = refl
is_some_map (Some copy) = refl

-- the copies are those whose sizes are known
pub known_there : (sizes : Sizes) (copies : Copies) (key : ChunkKey) → sizes ≡ sizes_in copies → has_key key_cmp sizes key ≡ has_key key_cmp copies key
known_there sizes copies key are =
    ap (λ (s : Sizes). has_key key_cmp s key) are ∙ ap is_some (size_at copies key) ∙ is_some_map (value_at key_cmp copies key)
