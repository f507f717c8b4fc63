-- A store that stands for a server goes on to do so: what it refuses is what the server refuses, and where a key is set,
-- torn or taken out it stands for the server after that.
use Rattle.std.proofs.Common.{◌≡◌, ℕ, ◌+◌, Bool, true, false, not, cond, List, [], length, Option, Some, None, is_some, refl, sym, ap, subst, ◌∙◌}
use Rattle.std.specs.Prelude.{◌==◌, ◌&&◌, nat_le}
use Rattle.std.specs.Option.{option_map}
use Rattle.std.proofs.lemmas.Bool.{not-false}
use Rattle.qfs_base.specs.Key.{key_cmp}
use Rattle.qfs_base.specs.KeyLaws.{key_cmp_total}
use Rattle.qfs_base.specs.KeyMap.{value_at, has_key, with_entry, without_key}
use Rattle.qfs_base.specs.KeyMapLaws.{value_at-with_entry, value_at-without_key}
use Rattle.qfs_base.specs.declared.chunk.ChunkKey.{ChunkKey}
use Rattle.qfs_base.specs.declared.reply.ChunkAnswer.{ChunkAnswer}
use Rattle.qfs_base.specs.declared.reply.ChunkAnswer.TheVariants as Answer
use Rattle.qfs_base.specs.declared.request.ChunkRequest.{ChunkRequest}
use Rattle.qfs_base.specs.declared.request.ChunkRequest.TheVariants as Ask
use Rattle.qfs_device.specs.Held.{Held, IsTorn, chunk_at, holding, lacking, leaving, emptied}
use Rattle.qfs_model_server.specs.Chunk.{Chunk}
use Rattle.qfs_model_server.specs.Server.{Server, refuse, unless_away, has_range, chunk_refusal, bytes_in, next_life}
use Rattle.qfs_model_store.specs.Stands.{IsRecordOf, HoldsUnder, StandsFor}
use Rattle.qfs_record.specs.ChunkRecord.{IsChunk, chunk_record}
use Rattle.qfs_store.specs.Known.{Known, Sizes, size_of, sizes_in, reaches, refusal}
use Rattle.qfs_store.specs.Stored.{StandsOn}
use Rattle.qfs_store.proofs.KeyLaws.{same_key, same_key-is, absent_key, absent_again, sizes_with, sizes_without, size_at, known_there}
use Rattle.qfs_store.proofs.RecordLaws.{torn_is_none}

-- ---- refusals

range_of : (end : ℕ) (copy : Option Chunk) → reaches end (option_map size_of copy) ≡ (is_some copy && nat_le end (length (bytes_in copy)))
range_of end None = refl
range_of end (Some copy) = refl

pub known_range : (known : Known) (server : Server) (key : ChunkKey) (from count : ℕ) → known.copies ≡ sizes_in server.copies
    → reaches (from + count) (value_at key_cmp known.copies key) ≡ has_range server.copies key from count
unfolding has_range
known_range known server key from count are =
    ap (λ (sizes : Sizes). reaches (from + count) (value_at key_cmp sizes key)) are
    ∙ ap (reaches (from + count)) (size_at server.copies key)
    ∙ range_of (from + count) (value_at key_cmp server.copies key)

abbrev away : ℕ → ChunkAnswer → Bool → ℕ → Bool → Option ChunkAnswer
away life answer up now due = refuse (not up) Answer.Down (refuse (not (life == now)) (Answer.Lost life now) (refuse due answer None))

away_is : (life : ℕ) (answer : ChunkAnswer) (up up' : Bool) (now now' : ℕ) (due due' : Bool) → up ≡ up' → now ≡ now' → due ≡ due'
    → away life answer up now due ≡ away life answer up' now' due'
away_is life answer up up' now now' due due' a b c = λ i. away life answer (a i) (b i) (c i)

-- what a store refuses is what the server that it stands for refuses
pub refusal_is : (stripe : ℕ) (held : Held) (known : Known) (server : Server) (request : ChunkRequest) → StandsOn stripe held known server
    → refusal known held.life request ≡ chunk_refusal server request
unfolding chunk_refusal unless_away
refusal_is stripe held known server (Ask.Put key life bytes) stands =
    away_is life Answer.Held _ _ _ _ _ _ stands.up stands.stands.life (known_there known.copies server.copies key stands.copies)
refusal_is stripe held known server (Ask.Fetch key life from room) stands =
    away_is life Answer.Absent _ _ _ _ _ _ stands.up stands.stands.life (ap not (known_range known server key from (length room) stands.copies))
refusal_is stripe held known server (Ask.Erase key life) stands =
    away_is life Answer.Absent _ _ _ _ _ _ stands.up stands.stands.life (ap not (known_there known.copies server.copies key stands.copies))
refusal_is stripe held known server Ask.Stop stands = refl
refusal_is stripe held known server Ask.Start stands = refl
refusal_is stripe held known server Ask.Wipe stands = refl
refusal_is stripe held known server Ask.Inventory stands = ap (λ (up : Bool). refuse (not up) Answer.Down None) stands.up
refusal_is stripe held known server Ask.Upgrade stands = ap (λ (up : Bool). refuse (not up) Answer.Down None) stands.up

-- ---- what lets a request through

last_passed : (same : Bool) (one other : ChunkAnswer) (due : Bool) → refuse (not same) one (refuse due other None) ≡ None → due ≡ false
last_passed true one other false none = refl
last_passed true one other true none = absurd cc
last_passed false one other due none = absurd cc

both_passed : (life : ℕ) (answer : ChunkAnswer) (up : Bool) (now : ℕ) (due : Bool) → away life answer up now due ≡ None → (up ≡ true) × (due ≡ false)
both_passed life answer true now due none = (refl, last_passed (life == now) (Answer.Lost life now) answer due none)
both_passed life answer false now due none = absurd cc

pub put_passed : (known : Known) (now : ℕ) (key : ChunkKey) (life : ℕ) (bytes : List ℕ) → refusal known now (Ask.Put key life bytes) ≡ None
    → (known.up ≡ true) × (has_key key_cmp known.copies key ≡ false)
put_passed known now key life bytes none = both_passed life Answer.Held known.up now (has_key key_cmp known.copies key) none

pub fetch_passed : (known : Known) (now : ℕ) (key : ChunkKey) (life from : ℕ) (room : List ℕ) → refusal known now (Ask.Fetch key life from room) ≡ None
    → (known.up ≡ true) × (reaches (from + length room) (value_at key_cmp known.copies key) ≡ true)
fetch_passed known now key life from room none =
    let p = both_passed life Answer.Absent known.up now (not (reaches (from + length room) (value_at key_cmp known.copies key))) none in
    (p.0, not-false _ p.1)

pub erase_passed : (known : Known) (now : ℕ) (key : ChunkKey) (life : ℕ) → refusal known now (Ask.Erase key life) ≡ None → known.up ≡ true
erase_passed known now key life none = (both_passed life Answer.Absent known.up now (not (has_key key_cmp known.copies key)) none).0

up_passed : (up : Bool) → refuse (not up) Answer.Down None ≡ None → up ≡ true
up_passed true none = refl
up_passed false none = absurd cc

pub inventory_passed : (known : Known) (now : ℕ) → refusal known now Ask.Inventory ≡ None → known.up ≡ true
inventory_passed known now none = up_passed known.up none

pub upgrade_passed : (known : Known) (now : ℕ) → refusal known now Ask.Upgrade ≡ None → known.up ≡ true
upgrade_passed known now none = up_passed known.up none

-- ---- one key

pub holds_along : (stripe : ℕ) (q : ChunkKey) (under under' : Option (List ℕ)) (copy copy' : Option Chunk) → under ≡ under' → copy ≡ copy'
    → HoldsUnder stripe q under copy → HoldsUnder stripe q under' copy'
holds_along stripe q under under' copy copy' a b holds =
    subst (λ (t : Option (List ℕ) × Option Chunk). HoldsUnder stripe q t.0 t.1) (λ i. (a i, b i)) holds

-- at the key that was set stands what was set there, and at every other what stood there
pub holds_one : (stripe : ℕ) (key q : ChunkKey) (under under' : Option (List ℕ)) (copy copy' : Option Chunk) (b : Bool) → (b ≡ true → key ≡ q)
    → HoldsUnder stripe key under copy → HoldsUnder stripe q under' copy' → HoldsUnder stripe q (cond b under under') (cond b copy copy')
holds_one stripe key q under under' copy copy' true same set other = subst (λ (k : ChunkKey). HoldsUnder stripe k under copy) (same refl) set
holds_one stripe key q under under' copy copy' false same set other = other

pub nothing_named : (stripe : ℕ) (key : ChunkKey) (copy : Chunk) → IsRecordOf stripe key None copy → ⊥
nothing_named stripe key copy is = let no : None ≡ Some (chunk_record stripe key copy) = is.spelled in absurd cc

-- what is left of a record under its key
pub left_at : (held : Held) (key : ChunkKey) (left : Option (List ℕ)) (q : ChunkKey) → chunk_at (leaving key left held) q ≡ cond (same_key q key) left (chunk_at held q)
left_at held key None q = value_at-without_key key_cmp_total held.contents key q
left_at held key (Some part) q = value_at-with_entry key_cmp_total held.contents key part q

pub left_life : (held : Held) (key : ChunkKey) (left : Option (List ℕ)) → (leaving key left held).life ≡ held.life
left_life held key None = refl
left_life held key (Some part) = refl

pub left_count : (held : Held) (key : ChunkKey) (left : Option (List ℕ)) → (leaving key left held).handed_out ≡ held.handed_out
left_count held key None = refl
left_count held key (Some part) = refl

-- ---- the server that a store stands for then

-- the copy's record stands under its key
pub stored_stands : (stripe : ℕ) (held : Held) (known : Known) (server : Server) (key : ChunkKey) (copy : Chunk) → IsChunk stripe key copy → StandsOn stripe held known server
    → StandsOn stripe (holding key (chunk_record stripe key copy) held) (record known { copies = with_entry key_cmp known.copies key (size_of copy) })
    (record server { copies = with_entry key_cmp server.copies key copy })
stored_stands stripe held known server key copy fits stands = record {
  up = stands.up;
  form = stands.form;
  copies = ap (λ (sizes : Sizes). with_entry key_cmp sizes key (size_of copy)) stands.copies ∙ sym (sizes_with server.copies key copy);
  stands = record {
    life = stands.stands.life;
    keys = λ q.
        holds_along stripe q _ _ _ _
        (sym (value_at-with_entry key_cmp_total held.contents key (chunk_record stripe key copy) q))
        (sym (value_at-with_entry key_cmp_total server.copies key copy q))
        (holds_one stripe key q (Some (chunk_record stripe key copy)) _ (Some copy) _ (same_key q key) (same_key-is q key)
        (record { fits = fits.head; spelled = refl }) (stands.stands.keys q));
  };
}

-- a torn record under the key of no copy
pub torn_stands : (stripe : ℕ) (held : Held) (known : Known) (server : Server) (key : ChunkKey) (copy : Chunk) (left : Option (List ℕ)) → IsChunk stripe key copy
    → has_key key_cmp known.copies key ≡ false → IsTorn (chunk_record stripe key copy) left → StandsOn stripe held known server
    → StandsOn stripe (leaving key left held) known server
torn_stands stripe held known server key copy left fits apart torn stands = record {
  up = stands.up;
  form = stands.form;
  copies = stands.copies;
  stands = record {
    life = left_life held key left ∙ stands.stands.life;
    keys = λ q.
        holds_along stripe q _ _ _ _
        (sym (left_at held key left q))
        (absent_again server.copies key q (absent_key server.copies key (sym (known_there known.copies server.copies key stands.copies) ∙ apart)))
        (holds_one stripe key q left _ None _ (same_key q key) (same_key-is q key) (torn_is_none stripe key copy left fits.head torn) (stands.stands.keys q));
  };
}

-- the copy's key is taken out
pub erased_stands : (stripe : ℕ) (held : Held) (known : Known) (server : Server) (key : ChunkKey) → StandsOn stripe held known server
    → StandsOn stripe (lacking key held) (record known { copies = without_key key_cmp known.copies key }) (record server { copies = without_key key_cmp server.copies key })
erased_stands stripe held known server key stands = record {
  up = stands.up;
  form = stands.form;
  copies = ap (λ (sizes : Sizes). without_key key_cmp sizes key) stands.copies ∙ sym (sizes_without server.copies key);
  stands = record {
    life = stands.stands.life;
    keys = λ q.
        holds_along stripe q _ _ _ _
        (sym (value_at-without_key key_cmp_total held.contents key q))
        (sym (value_at-without_key key_cmp_total server.copies key q))
        (holds_one stripe key q None _ None _ (same_key q key) (same_key-is q key) (nothing_named stripe key) (stands.stands.keys q));
  };
}

-- no key is there
pub emptied_stands : (stripe : ℕ) (held : Held) (known : Known) (server : Server) → known.up ≡ server.up → known.form ≡ server.form → held.life ≡ server.life
    → StandsOn stripe (emptied held) (record known { copies = [] }) (record server { life = next_life server.life; copies = [] })
emptied_stands stripe held known server up form life = record {
  up = up;
  form = form;
  copies = refl;
  stands = record { life = ap next_life life; keys = nothing_named stripe };
}

-- the same keys in the same life
pub same_stands : (stripe : ℕ) (held now : Held) (server : Server) → now.contents ≡ held.contents → now.life ≡ held.life → StandsFor stripe held server → StandsFor stripe now server
same_stands stripe held now server contents life stands = record {
  life = life ∙ stands.life;
  keys = λ q. subst (λ found. HoldsUnder stripe q found (value_at key_cmp server.copies q)) (ap (λ c. value_at key_cmp c q) (sym contents)) (stands.keys q);
}
