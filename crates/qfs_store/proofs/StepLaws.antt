-- What a request does is the step of the server that the store stood for.
use Rattle.std.proofs.Common.{◌≡◌, ℕ, ◌+◌, ◌-◌, Bool, true, false, List, [], length, take, drop, Option, Some, None, IfSome, unwrap_or, ◌∷◌, refl, sym, ap, subst, ◌∙◌, arith}
use Rattle.std.specs.Prelude.{map}
use Rattle.std.specs.Option.{option_map}
use Rattle.std.specs.Map.{keys_of}
use Rattle.std.proofs.lemmas.Option.{same_Some}
use Rattle.qfs_base.specs.Key.{key_cmp}
use Rattle.qfs_base.specs.KeyMap.{value_at, has_key, with_entry, without_key}
use Rattle.qfs_base.specs.Outcome.{chunk_outcome}
use Rattle.qfs_base.specs.declared.chunk.ChunkKey.{ChunkKey}
use Rattle.qfs_base.specs.declared.history.Outcome.{Outcome}
use Rattle.qfs_base.specs.declared.reply.ChunkAnswer.{ChunkAnswer}
use Rattle.qfs_base.specs.declared.reply.ChunkAnswer.TheVariants as Answer
use Rattle.qfs_base.specs.declared.reply.ChunkReply.{ChunkReply}
use Rattle.qfs_base.specs.declared.request.ChunkRequest.{ChunkRequest}
use Rattle.qfs_base.specs.declared.request.ChunkRequest.TheVariants as Ask
use Rattle.qfs_device.specs.Held.{Held, bytes_at, chunk_at, holding, lacking, leaving, handing, emptied}
use Rattle.qfs_model_server.specs.Chunk.{Chunk, head_bytes}
use Rattle.qfs_model_server.specs.Server.{Server, Answered, Copies, server_step, chunk_decided, chunk_attempted, chunk_served, room_of, stays, bytes_in, written, without_room, next_life}
use Rattle.qfs_model_store.specs.Stands.{HandsOut, HoldsUnder}
use Rattle.qfs_record.specs.ChunkRecord.{IsChunk, chunk_record}
use Rattle.qfs_store.specs.Known.{Known, Sizes, size_of, sizes_in, refusal}
use Rattle.qfs_store.specs.Serves.{IsLife, PutLeaves, FetchLeaves, EraseLeaves, WipeLeaves, InventoryIs, Steps, reads_more}
use Rattle.qfs_store.specs.Stored.{Stored, StandsOn}
use Rattle.qfs_store.specs.declared.copies.CopySize.{CopySize}
use Rattle.qfs_store.proofs.KeyLaws.{size_at}
use Rattle.qfs_store.proofs.RecordLaws.{behind_head}
use Rattle.qfs_store.proofs.StandsLaws.{refusal_is, stored_stands, torn_stands, erased_stands, emptied_stands, left_count}

-- the two stand for the server after this step, over what the device tells now
abbrev pub Led : ChunkRequest → ChunkReply → ℕ → Held → Option Held → Known → Server → Answered → Type 0
Led request reply stripe held told known server step = (now : Held) × (told ≡ Some now) × Steps request reply stripe held now known server step

-- a life that was told is the one of the device
pub life_told : (life : ℕ) (told : Option Held) (held : Held) → told ≡ Some held → IsLife life told → life ≡ held.life
life_told life told held is life_is = subst (λ (t : Option Held). IsLife life t) is life_is

-- nothing was handed out
pub none_more : (more : Bool) (old count : ℕ) → HandsOut more old (old + (count - count))
none_more false old count = omega arith
none_more true old count = omega arith

-- a server that stays as it was
pub stayed : (request : ChunkRequest) (stripe : ℕ) (held : Held) (told : Option Held) (known : Known) (server : Server) (answer : ChunkAnswer) (room : List ℕ)
    → told ≡ Some held → StandsOn stripe held known server
    → Led request (record { answer = answer; room = room }) stripe held told known server (stays server answer room)
stayed request stripe held told known server answer room told_is stands = (
  held,
  told_is,
  record { reply_is = refl; stands = stands; handed = none_more (reads_more request answer held server) held.handed_out server.handed_out },
)

-- a refusal is a step
pub refused_step : (request : ChunkRequest) (answer : ChunkAnswer) (outcome : Outcome) (before : Stored) (held : Held) (server : Server)
    → before.told ≡ Some held → StandsOn before.stripe held before.known server → refusal before.known held.life request ≡ Some answer
    → Led request (record { answer = answer; room = room_of request }) before.stripe held before.told before.known server (server_step request outcome server)
unfolding server_step chunk_decided
refused_step request answer outcome before held server told_is stands due =
    subst (λ (step : Answered). Led request (record { answer = answer; room = room_of request }) before.stripe held before.told before.known server step)
    (sym (ap (chunk_decided server request outcome) (sym (refusal_is before.stripe held before.known server request stands) ∙ due)))
    (stayed request before.stripe held before.told before.known server answer (room_of request) told_is stands)

-- what is let through is attempted
pub attempted : (request : ChunkRequest) (outcome : Outcome) (stripe : ℕ) (held : Held) (known : Known) (server : Server) → StandsOn stripe held known server
    → refusal known held.life request ≡ None → server_step request outcome server ≡ chunk_attempted server request outcome
unfolding server_step chunk_decided
attempted request outcome stripe held known server stands none =
    ap (chunk_decided server request outcome) (sym (refusal_is stripe held known server request stands) ∙ none)

-- ---- Put

pub put_step : (stripe : ℕ) (key : ChunkKey) (life : ℕ) (bytes : List ℕ) (answer : ChunkAnswer) (held : Held) (told told' : Option Held) (known : Known) (copies' : Sizes) (server : Server)
    → told ≡ Some held → StandsOn stripe held known server → has_key key_cmp known.copies key ≡ false
    → let copy : Chunk = written server bytes in IsChunk stripe key copy
    → PutLeaves key (size_of copy) (chunk_record stripe key copy) answer known.copies copies' told told'
    → Led (Ask.Put key life bytes) (without_room answer) stripe held told' (record known { copies = copies' }) server (chunk_attempted server (Ask.Put key life bytes) (chunk_outcome answer))
unfolding chunk_attempted chunk_outcome chunk_served room_of
put_step stripe key life bytes Answer.Stored held told told' known copies' server told_is stands apart fits left = (
  holding key (chunk_record stripe key (written server bytes)) held,
  left.1 ∙ ap (option_map (holding key (chunk_record stripe key (written server bytes)))) told_is,
  record {
    reply_is = refl;
    stands = subst (λ (sizes : Sizes). StandsOn stripe (holding key (chunk_record stripe key (written server bytes)) held) (record known { copies = sizes }) (record server { copies = with_entry key_cmp server.copies key (written server bytes) }))
        (sym left.0) (stored_stands stripe held known server key (written server bytes) fits stands);
    handed = none_more false held.handed_out server.handed_out;
  },
)
put_step stripe key life bytes Answer.Fault held told told' known copies' server told_is stands apart fits left =
    let torn = left.1 in (
      leaving key torn.0 held,
      torn.2 ∙ ap (option_map (leaving key torn.0)) told_is,
      record {
        reply_is = refl;
        stands = subst (λ (sizes : Sizes). StandsOn stripe (leaving key torn.0 held) (record known { copies = sizes }) server) (sym left.0)
            (torn_stands stripe held known server key (written server bytes) torn.0 fits apart torn.1 stands);
        handed = let same = left_count held key torn.0 in omega arith;
      },
    )
put_step stripe key life bytes Answer.NoMemory held told told' known copies' server told_is stands apart fits left = (
  held,
  left.1 ∙ told_is,
  record {
    reply_is = refl;
    stands = subst (λ (sizes : Sizes). StandsOn stripe held (record known { copies = sizes }) server) (sym left.0) stands;
    handed = none_more false held.handed_out server.handed_out;
  },
)
put_step stripe key life bytes _ held told told' known copies' server told_is stands apart fits left = absurd left

-- ---- Fetch

bytes_are : (held : Held) (key : ChunkKey) (bytes : List ℕ) → chunk_at held key ≡ Some bytes → bytes_at held key ≡ bytes
bytes_are held key bytes is = ap (λ (o : Option (List ℕ)). unwrap_or o []) is

copy_part : (stripe : ℕ) (held : Held) (key : ChunkKey) (size : CopySize) (from count : ℕ) (copy : Option Chunk)
    → HoldsUnder stripe key (chunk_at held key) copy → option_map size_of copy ≡ Some size
    → take count (drop (head_bytes size.form + from) (bytes_at held key)) ≡ take count (drop from (bytes_in copy))
copy_part stripe held key size from count None holds is = let no : None ≡ Some size = is in absurd cc
copy_part stripe held key size from count (Some copy) holds is =
    let same : size_of copy ≡ size = same_Some (size_of copy) size is in
    ap (λ (s : CopySize). take count (drop (head_bytes s.form + from) (bytes_at held key))) (sym same)
    ∙ ap (λ (bytes : List ℕ). take count (drop (head_bytes copy.form + from) bytes)) (bytes_are held key (chunk_record stripe key copy) holds.spelled)
    ∙ ap (take count) (behind_head stripe key copy from holds.fits)

pub fetch_step : (stripe : ℕ) (key : ChunkKey) (life from : ℕ) (room room' : List ℕ) (answer : ChunkAnswer) (size : CopySize) (held : Held) (told told' : Option Held) (known : Known) (server : Server)
    → told ≡ Some held → StandsOn stripe held known server → value_at key_cmp known.copies key ≡ Some size
    → FetchLeaves key size from (length room) answer room' told told'
    → Led (Ask.Fetch key life from room) (record { answer = answer; room = room' }) stripe held told' known server (chunk_attempted server (Ask.Fetch key life from room) (chunk_outcome answer))
unfolding chunk_attempted chunk_outcome chunk_served room_of
fetch_step stripe key life from room room' Answer.Fetched size held told told' known server told_is stands there left =
    let known_size : option_map size_of (value_at key_cmp server.copies key) ≡ Some size =
    sym (size_at server.copies key) ∙ ap (λ (sizes : Sizes). value_at key_cmp sizes key) (sym stands.copies) ∙ there in
    let part : room' ≡ take (length room) (drop (head_bytes size.form + from) (bytes_at held key)) =
    subst (λ (t : Option Held). IfSome t (λ held. room' ≡ take (length room) (drop (head_bytes size.form + from) (bytes_at held key)))) told_is left.2 in (
      handing (length room) held,
      left.0 ∙ ap (option_map (handing (length room))) told_is,
      record {
        reply_is = ap (λ (bytes : List ℕ). record { answer = Answer.Fetched; room = bytes })
            (part ∙ copy_part stripe held key size from (length room) (value_at key_cmp server.copies key) (stands.stands.keys key) known_size);
        stands = record { up = stands.up; form = stands.form; copies = stands.copies; stands = record { life = stands.stands.life; keys = stands.stands.keys } };
        handed = omega arith;
      },
    )
fetch_step stripe key life from room room' Answer.Fault size held told told' known server told_is stands there left = (
  held,
  left.0 ∙ told_is,
  record {
    reply_is = ap (λ (bytes : List ℕ). record { answer = Answer.Fault; room = bytes }) left.1;
    stands = stands;
    handed = none_more false held.handed_out server.handed_out;
  },
)
fetch_step stripe key life from room room' _ size held told told' known server told_is stands there left = absurd left

-- ---- Erase and Wipe

pub erase_step : (stripe : ℕ) (key : ChunkKey) (life : ℕ) (answer : ChunkAnswer) (held : Held) (told told' : Option Held) (known : Known) (copies' : Sizes) (server : Server)
    → told ≡ Some held → StandsOn stripe held known server → EraseLeaves key answer known.copies copies' told told'
    → Led (Ask.Erase key life) (without_room answer) stripe held told' (record known { copies = copies' }) server (chunk_attempted server (Ask.Erase key life) (chunk_outcome answer))
unfolding chunk_attempted chunk_outcome chunk_served room_of
erase_step stripe key life Answer.Erased held told told' known copies' server told_is stands left = (
  lacking key held,
  left.1 ∙ ap (option_map (lacking key)) told_is,
  record {
    reply_is = refl;
    stands = subst (λ (sizes : Sizes). StandsOn stripe (lacking key held) (record known { copies = sizes }) (record server { copies = without_key key_cmp server.copies key }))
        (sym left.0) (erased_stands stripe held known server key stands);
    handed = none_more false held.handed_out server.handed_out;
  },
)
erase_step stripe key life Answer.Fault held told told' known copies' server told_is stands left = (
  held,
  left.1 ∙ told_is,
  record {
    reply_is = refl;
    stands = subst (λ (sizes : Sizes). StandsOn stripe held (record known { copies = sizes }) server) (sym left.0) stands;
    handed = none_more false held.handed_out server.handed_out;
  },
)
erase_step stripe key life _ held told told' known copies' server told_is stands left = absurd left

pub wipe_step : (stripe : ℕ) (answer : ChunkAnswer) (held : Held) (told told' : Option Held) (known : Known) (copies' : Sizes) (server : Server)
    → told ≡ Some held → StandsOn stripe held known server → WipeLeaves answer known.copies copies' told told'
    → Led Ask.Wipe (without_room answer) stripe held told' (record known { copies = copies' }) server (chunk_attempted server Ask.Wipe (chunk_outcome answer))
unfolding chunk_attempted chunk_outcome chunk_served room_of
wipe_step stripe (Answer.Wiped life) held told told' known copies' server told_is stands left =
    let now_is : told' ≡ Some (emptied held) = left.1 ∙ ap (option_map emptied) told_is in
    let life_is : life ≡ next_life server.life = life_told life told' (emptied held) now_is left.2 ∙ ap next_life stands.stands.life in (
      emptied held,
      now_is,
      record {
        reply_is = ap (λ (n : ℕ). without_room (Answer.Wiped n)) life_is;
        stands = subst (λ (sizes : Sizes). StandsOn stripe (emptied held) (record known { copies = sizes }) (record server { life = next_life server.life; copies = [] }))
            (sym left.0) (emptied_stands stripe held known server stands.up stands.form stands.stands.life);
        handed = none_more false held.handed_out server.handed_out;
      },
    )
wipe_step stripe Answer.Fault held told told' known copies' server told_is stands left = (
  held,
  left.1 ∙ told_is,
  record {
    reply_is = refl;
    stands = subst (λ (sizes : Sizes). StandsOn stripe held (record known { copies = sizes }) server) (sym left.0) stands;
    handed = none_more false held.handed_out server.handed_out;
  },
)
wipe_step stripe _ held told told' known copies' server told_is stands left = absurd left

-- ---- Inventory

keys_are : (copies : Copies) → keys_of (sizes_in copies) ≡ map (λ copy. copy.0) copies
keys_are [] = refl
keys_are (copy ∷ copies) = ap (λ (keys : List ChunkKey). copy.0 ∷ keys) (keys_are copies)

pub inventory_step : (stripe : ℕ) (answer : ChunkAnswer) (held : Held) (told : Option Held) (known : Known) (server : Server)
    → told ≡ Some held → StandsOn stripe held known server → InventoryIs answer known.copies told
    → Led Ask.Inventory (without_room answer) stripe held told known server (chunk_attempted server Ask.Inventory (chunk_outcome answer))
unfolding chunk_attempted chunk_outcome chunk_served room_of
inventory_step stripe (Answer.Inventory life keys) held told known server told_is stands is =
    let life_is : life ≡ server.life = life_told life told held told_is is.1 ∙ stands.stands.life in
    let keys_is : keys ≡ map (λ copy. copy.0) server.copies = is.0 ∙ ap keys_of stands.copies ∙ keys_are server.copies in (
      held,
      told_is,
      record {
        reply_is = λ i. without_room (Answer.Inventory (life_is i) (keys_is i));
        stands = stands;
        handed = none_more false held.handed_out server.handed_out;
      },
    )
inventory_step stripe Answer.NoMemory held told known server told_is stands is = stayed Ask.Inventory stripe held told known server Answer.NoMemory [] told_is stands
inventory_step stripe _ held told known server told_is stands is = absurd is
