-- What a request that isn't refused does is the step of the server that the store stood for, and leaves the store sound.
use Rattle.std.proofs.Common.{◌≡◌, ◌⊎◌, ℕ, false, List, [], length, Option, Some, is_some, inr, refl, sym, ap, subst, ◌∙◌}
use Rattle.qfs_base.specs.Key.{key_cmp}
use Rattle.qfs_base.specs.KeyMap.{has_key}
use Rattle.qfs_base.specs.Outcome.{chunk_outcome}
use Rattle.qfs_base.specs.Shape.{IsStripe}
use Rattle.qfs_base.specs.declared.chunk.ChunkKey.{ChunkKey}
use Rattle.qfs_base.specs.declared.reply.ChunkAnswer.{ChunkAnswer}
use Rattle.qfs_base.specs.declared.reply.ChunkAnswer.TheVariants as Answer
use Rattle.qfs_base.specs.declared.reply.ChunkReply.{ChunkReply}
use Rattle.qfs_base.specs.declared.request.ChunkRequest.{ChunkRequest}
use Rattle.qfs_base.specs.declared.request.ChunkRequest.TheVariants as Ask
use Rattle.qfs_device.specs.Held.{Held}
use Rattle.qfs_model_server.specs.Chunk.{Chunk}
use Rattle.qfs_model_server.specs.Server.{Server, Answered, chunk_attempted, chunk_served, without_room}
use Rattle.qfs_record.specs.ChunkRecord.{IsChunk, chunk_record}
use Rattle.qfs_store.specs.Known.{Known, Sizes, size_of}
use Rattle.qfs_store.specs.Serves.{IsAllowed, IsDone, PutLeaves, WipeLeaves, Does}
use Rattle.qfs_store.specs.Stored.{Stored, StandsOn, IsUnread, IsConsistent, IsSound}
use Rattle.qfs_store.proofs.SoundLaws.{consistent_after, not_unread}
use Rattle.qfs_store.proofs.StandsLaws.{put_passed, fetch_passed, erase_passed, inventory_passed, upgrade_passed}
use Rattle.qfs_store.proofs.StartStep.{start_step}
use Rattle.qfs_store.proofs.StepLaws.{Led, none_more, put_step, fetch_step, erase_step, wipe_step, inventory_step}
use Rattle.qfs_store.proofs.UnreadLaws.{start_unread}

-- ---- the step

-- where a reply, what is known and what is told are the same, the same step was taken
led_along : (request : ChunkRequest) (stripe : ℕ) (held : Held) (server : Server) (step : Answered) (reply reply' : ChunkReply) (told told' : Option Held) (known known' : Known)
    → reply' ≡ reply → told' ≡ told → known' ≡ known → Led request reply stripe held told known server step → Led request reply' stripe held told' known' server step
led_along request stripe held server step reply reply' told told' known known' a b c led =
    subst (λ (t : ChunkReply × (Option Held × Known)). Led request t.0 stripe held t.1.0 t.1.1 server step) (λ i. (sym a i, (sym b i, sym c i))) led

roomless : (reply : ChunkReply) → reply.room ≡ [] → reply ≡ without_room reply.answer
roomless reply none = ap (λ (room : List ℕ). record { answer = reply.answer; room = room }) none

-- a server stopped, or writing in the second version, where what is known says so
stop_step : (stripe : ℕ) (held : Held) (told : Option Held) (known : Known) (server : Server) → told ≡ Some held → StandsOn stripe held known server
    → Led Ask.Stop (without_room Answer.Stopped) stripe held told (record known { up = false }) server (chunk_attempted server Ask.Stop (chunk_outcome Answer.Stopped))
unfolding chunk_attempted chunk_outcome chunk_served
stop_step stripe held told known server told_is stands = (
  held,
  told_is,
  record {
    reply_is = refl;
    stands = record { up = refl; form = stands.form; copies = stands.copies; stands = record { life = stands.stands.life; keys = stands.stands.keys } };
    handed = none_more false held.handed_out server.handed_out;
  },
)

upgrade_step : (stripe : ℕ) (held : Held) (told : Option Held) (known : Known) (server : Server) → told ≡ Some held → StandsOn stripe held known server
    → Led Ask.Upgrade (without_room Answer.Upgraded) stripe held told (record known { form = 2 }) server (chunk_attempted server Ask.Upgrade (chunk_outcome Answer.Upgraded))
unfolding chunk_attempted chunk_outcome chunk_served
upgrade_step stripe held told known server told_is stands = (
  held,
  told_is,
  record {
    reply_is = refl;
    stands = record { up = stands.up; form = refl; copies = stands.copies; stands = record { life = stands.stands.life; keys = stands.stands.keys } };
    handed = none_more false held.handed_out server.handed_out;
  },
)

-- the server writes in the form that is known
put_as_written : (stripe : ℕ) (key : ChunkKey) (life : ℕ) (bytes : List ℕ) (answer : ChunkAnswer) (held : Held) (told told' : Option Held) (known : Known) (copies' : Sizes) (server : Server)
    → told ≡ Some held → StandsOn stripe held known server → has_key key_cmp known.copies key ≡ false
    → let copy : Chunk = record { form = known.form; bytes = bytes } in IsChunk stripe key copy
    → PutLeaves key (size_of copy) (chunk_record stripe key copy) answer known.copies copies' told told'
    → Led (Ask.Put key life bytes) (without_room answer) stripe held told' (record known { copies = copies' }) server (chunk_attempted server (Ask.Put key life bytes) (chunk_outcome answer))
put_as_written stripe key life bytes answer held told told' known copies' server told_is stands apart fits left =
    put_step stripe key life bytes answer held told told' known copies' server told_is stands apart
    (subst (λ (form : ℕ). IsChunk stripe key (record { form = form; bytes = bytes })) stands.form fits)
    (subst (λ (form : ℕ). PutLeaves key (record { form = form; len = length bytes }) (chunk_record stripe key (record { form = form; bytes = bytes })) answer known.copies copies' told told') stands.form left)

-- what was done is the step of the server that the two stood for
pub does_step : (request : ChunkRequest) (reply : ChunkReply) (before after : Stored) (server : Server) (held : Held) → IsAllowed request before → Does request reply before after
    → before.told ≡ Some held → StandsOn before.stripe held before.known server
    → Led request reply before.stripe held after.told after.known server (chunk_attempted server request (chunk_outcome reply.answer))
does_step (Ask.Put key life bytes) reply before after server held due did told_is stands =
    led_along (Ask.Put key life bytes) before.stripe held server _ (without_room reply.answer) reply after.told after.told (record before.known { copies = after.known.copies }) after.known
    (roomless reply did.0) refl did.1
    (put_as_written before.stripe key life bytes reply.answer held before.told after.told before.known after.known.copies server told_is stands
    (put_passed before.known due.now key life bytes due.none).1 did.2 did.3)
does_step (Ask.Fetch key life from room) reply before after server held due did told_is stands =
    led_along (Ask.Fetch key life from room) before.stripe held server _ reply reply after.told after.told before.known after.known refl refl did.0
    (fetch_step before.stripe key life from room reply.room reply.answer did.1.0 held before.told after.told before.known server told_is stands did.1.1 did.1.2)
does_step (Ask.Erase key life) reply before after server held due did told_is stands =
    led_along (Ask.Erase key life) before.stripe held server _ (without_room reply.answer) reply after.told after.told (record before.known { copies = after.known.copies }) after.known
    (roomless reply did.0) refl did.1
    (erase_step before.stripe key life reply.answer held before.told after.told before.known after.known.copies server told_is stands did.2)
does_step Ask.Stop reply before after server held due did told_is stands =
    subst (λ (r : ChunkReply). Led Ask.Stop r before.stripe held after.told after.known server (chunk_attempted server Ask.Stop (chunk_outcome r.answer))) (sym did.0)
    (led_along Ask.Stop before.stripe held server _ (without_room Answer.Stopped) (without_room Answer.Stopped) before.told after.told (record before.known { up = false }) after.known refl did.2 did.1
    (stop_step before.stripe held before.told before.known server told_is stands))
does_step Ask.Start reply before after server held due did told_is stands =
    led_along Ask.Start before.stripe held server _ (without_room reply.answer) reply after.told after.told _ after.known
    (roomless reply did.0) refl did.1
    (start_step before.stripe reply.answer held before.told after.told before.known after.known.copies server told_is stands did.2)
does_step Ask.Wipe reply before after server held due did told_is stands =
    led_along Ask.Wipe before.stripe held server _ (without_room reply.answer) reply after.told after.told (record before.known { copies = after.known.copies }) after.known
    (roomless reply did.0) refl did.1
    (wipe_step before.stripe reply.answer held before.told after.told before.known after.known.copies server told_is stands did.2)
does_step Ask.Inventory reply before after server held due did told_is stands =
    led_along Ask.Inventory before.stripe held server _ (without_room reply.answer) reply before.told after.told before.known after.known
    (roomless reply did.0) did.2 did.1
    (inventory_step before.stripe reply.answer held before.told before.known server told_is stands did.3)
does_step Ask.Upgrade reply before after server held due did told_is stands =
    subst (λ (r : ChunkReply). Led Ask.Upgrade r before.stripe held after.told after.known server (chunk_attempted server Ask.Upgrade (chunk_outcome r.answer))) (sym did.0)
    (led_along Ask.Upgrade before.stripe held server _ (without_room Answer.Upgraded) (without_room Answer.Upgraded) before.told after.told (record before.known { form = 2 }) after.known refl did.2 did.1
    (upgrade_step before.stripe held before.told before.known server told_is stands))

-- ---- soundness

wiped_none : (answer : ChunkAnswer) (before after : Stored) → WipeLeaves answer before.known.copies after.known.copies before.told after.told
    → before.known.copies ≡ [] → after.known.copies ≡ []
wiped_none (Answer.Wiped life) before after left none = left.0
wiped_none Answer.Fault before after left none = left.0 ∙ none
wiped_none _ before after left none = absurd left

-- a store that waits for its first Start or Wipe goes on to wait, or stands for a server from then on
waits_on : (request : ChunkRequest) (reply : ChunkReply) (before after : Stored) → IsAllowed request before → Does request reply before after
    → is_some after.told ≡ is_some before.told → IsUnread before.known → IsConsistent before.stripe after.told after.known
waits_on (Ask.Put key life bytes) reply before after due did tells waits = not_unread before.known (put_passed before.known due.now key life bytes due.none).0 waits
waits_on (Ask.Fetch key life from room) reply before after due did tells waits = not_unread before.known (fetch_passed before.known due.now key life from room due.none).0 waits
waits_on (Ask.Erase key life) reply before after due did tells waits = not_unread before.known (erase_passed before.known due.now key life due.none) waits
waits_on Ask.Inventory reply before after due did tells waits = not_unread before.known (inventory_passed before.known due.now due.none) waits
waits_on Ask.Upgrade reply before after due did tells waits = not_unread before.known (upgrade_passed before.known due.now due.none) waits
waits_on Ask.Stop reply before after due did tells waits =
    subst (λ (known : Known). IsConsistent before.stripe after.told known) (sym did.1)
    (λ held told_is. inr (record { down = refl; none = waits.none }))
waits_on Ask.Start reply before after due did tells waits =
    subst (λ (known : Known). IsConsistent before.stripe after.told known) (sym did.1)
    (start_unread before.stripe reply.answer before.told after.told before.known after.known.copies waits did.2 tells)
waits_on Ask.Wipe reply before after due did tells waits =
    subst (λ (known : Known). IsConsistent before.stripe after.told known) (sym did.1)
    (λ held told_is. inr (record { down = waits.down; none = wiped_none reply.answer before after did.2 waits.none }))

abbrev IsForm : Known → Type 0
IsForm known = (known.form ≡ 1) ⊎ (known.form ≡ 2)

form_after : (request : ChunkRequest) (reply : ChunkReply) (before after : Stored) → Does request reply before after → IsForm before.known → IsForm after.known
form_after (Ask.Put key life bytes) reply before after did form = subst IsForm (sym did.1) form
form_after (Ask.Fetch key life from room) reply before after did form = subst IsForm (sym did.0) form
form_after (Ask.Erase key life) reply before after did form = subst IsForm (sym did.1) form
form_after Ask.Stop reply before after did form = subst IsForm (sym did.1) form
form_after Ask.Start reply before after did form = subst IsForm (sym did.1) form
form_after Ask.Wipe reply before after did form = subst IsForm (sym did.1) form
form_after Ask.Inventory reply before after did form = subst IsForm (sym did.1) form
form_after Ask.Upgrade reply before after did form = subst IsForm (sym did.1) (inr refl)

-- what a request does leaves a sound store sound
pub sound_after : (request : ChunkRequest) (reply : ChunkReply) (before after : Stored) → IsAllowed request before → after.stripe ≡ before.stripe → Does request reply before after
    → is_some after.told ≡ is_some before.told → IsSound before → IsSound after
sound_after request reply before after due same did tells sound = record {
  stripe = subst IsStripe (sym same) sound.stripe;
  form = form_after request reply before after did sound.form;
  consistent = subst (λ (stripe : ℕ). IsConsistent stripe after.told after.known) (sym same)
      (consistent_after request reply before.stripe before.told after.told before.known after.known
      (λ server. chunk_attempted server request (chunk_outcome reply.answer)) tells
      (λ server held. does_step request reply before after server held due did)
      (waits_on request reply before after due did tells) sound.consistent);
}

-- a request that isn't due for a refusal, told of the same request and store
pub allowed_so : (request request' : ChunkRequest) (before before' : Stored) → request ≡ request' → before' ≡ before → IsAllowed request before → IsAllowed request' before'
allowed_so request request' before before' same is due = subst (λ (t : ChunkRequest × Stored). IsAllowed t.0 t.1) (λ i. (same i, sym is i)) due

pub done_so : (request request' : ChunkRequest) (reply : ChunkReply) (before before' after : Stored) → request ≡ request' → before' ≡ before → IsDone request' reply before' after → IsDone request reply before after
done_so request request' reply before before' after same is done = subst (λ (t : ChunkRequest × Stored). IsDone t.0 reply t.1 after) (λ i. (sym same i, is i)) done
