-- A Start is the step of the server that the store stood for.
use Rattle.std.proofs.Common.{◌≡◌, ℕ, ◌+◌, ◌-◌, ◌≤◌, Bool, true, false, Option, Some, refl, sym, ap, subst, ◌∙◌, arith}
use Rattle.std.specs.List.Sorted.{IsStrictlySortedBy}
use Rattle.std.specs.Map.{keys_of}
use Rattle.qfs_base.specs.Key.{key_cmp}
use Rattle.qfs_base.specs.Outcome.{chunk_outcome}
use Rattle.qfs_base.specs.declared.reply.ChunkAnswer.{ChunkAnswer}
use Rattle.qfs_base.specs.declared.reply.ChunkAnswer.TheVariants as Answer
use Rattle.qfs_base.specs.declared.request.ChunkRequest.TheVariants as Ask
use Rattle.qfs_device.specs.Held.{Held}
use Rattle.qfs_model_server.specs.Server.{Server, chunk_attempted, chunk_served, room_of, start_reads, without_room}
use Rattle.qfs_model_store.specs.Stands.{HandsOut, kept}
use Rattle.qfs_store.specs.Known.{Known, Sizes, sizes_in}
use Rattle.qfs_store.specs.Serves.{IsLife, FindsCopies, StartLeaves, has_leftovers, up_after}
use Rattle.qfs_store.specs.Start.{Reads, Found, copies_in, fronts}
use Rattle.qfs_store.specs.Stored.{StandsOn}
use Rattle.qfs_store.proofs.FoundLaws.{copies_found, ReadsAs, reads_as}
use Rattle.qfs_store.proofs.StandsLaws.{same_stands}
use Rattle.qfs_store.proofs.StepLaws.{Led, life_told, none_more}

-- a server that was started
abbrev started : Server → Server
started server = record server { up = true; handed_out = server.handed_out + start_reads server }

-- the two stand for the server that was started, over a device from which no more than reads were asked
started_stands : (stripe : ℕ) (held now : Held) (known : Known) (server : Server) (copies' : Sizes) → StandsOn stripe held known server
    → now.contents ≡ held.contents → now.life ≡ held.life → copies' ≡ sizes_in server.copies
    → StandsOn stripe now (record known { up = true; copies = copies' }) (started server)
started_stands stripe held now known server copies' stands contents life copies =
    let same = same_stands stripe held now server contents life stands.stands in
    record { up = refl; form = stands.form; copies = copies; stands = record { life = same.life; keys = same.keys } }

none_up : (server : Server) → server.up ≡ true → start_reads server ≡ 0
unfolding start_reads
none_up server up = rw up refl

nothing_more : (more : Bool) (old out reads : ℕ) → reads ≡ 0 → HandsOut more old (old + ((out + reads) - out))
nothing_more false old out reads none = omega arith
nothing_more true old out reads none = omega arith

handed_as : (more : Bool) (old new out reads count : ℕ) → reads ≤ count → (more ≡ false → reads ≡ count) → kept new ≡ kept (old + count)
    → HandsOut more new (old + ((out + reads) - out))
handed_as false old new out reads count least exact handed = let same = exact refl in omega (arith, same, handed)
handed_as true old new out reads count least exact handed = omega arith

start_done : (stripe life : ℕ) (up : Bool) (held : Held) (told told' : Option Held) (known : Known) (copies' : Sizes) (server : Server)
    → told ≡ Some held → StandsOn stripe held known server → known.up ≡ up → IsLife life told'
    → FindsCopies stripe up known.copies copies' told told'
    → Led Ask.Start (without_room (Answer.Started life)) stripe held told' (record known { up = true; copies = copies' }) server (chunk_served server Ask.Start)
unfolding chunk_served
start_done stripe life true held told told' known copies' server told_is stands up life_is found =
    let now_is : told' ≡ Some held = found.1 ∙ told_is in (
      held,
      now_is,
      record {
        reply_is = ap (λ (n : ℕ). without_room (Answer.Started n)) (life_told life told' held now_is life_is ∙ stands.stands.life);
        stands = started_stands stripe held held known server copies' stands refl refl (found.0 ∙ stands.copies);
        handed = nothing_more (has_leftovers held server) held.handed_out server.handed_out (start_reads server) (none_up server (sym stands.up ∙ up));
      },
    )
start_done stripe life false held told told' known copies' server told_is stands up life_is found =
    let finds : Found stripe held copies' told' = found.1 held told_is in
    let now = finds.reads.after in
    let known_rise = subst (λ (t : Sizes). IsStrictlySortedBy key_cmp (keys_of t)) stands.copies found.0 in
    let same : copies_in stripe held.contents ≡ sizes_in server.copies = copies_found stripe held server stands.stands finds.rising known_rise finds.bytes in
    let reads : ReadsAs held server = reads_as stripe held server stands.stands (sym stands.up ∙ up) finds.rising finds.bytes same in (
      now,
      finds.reads.told_is,
      record {
        reply_is = ap (λ (n : ℕ). without_room (Answer.Started n)) (life_told life told' now finds.reads.told_is life_is ∙ finds.reads.life ∙ stands.stands.life);
        stands = started_stands stripe held now known server copies' stands finds.reads.contents finds.reads.life (finds.copies ∙ same);
        handed = handed_as (has_leftovers held server) held.handed_out now.handed_out server.handed_out (start_reads server) (fronts held.contents) reads.least reads.exact finds.reads.handed;
      },
    )

-- a device from which some bytes were read
read_stands : (stripe : ℕ) (held now : Held) (known : Known) (copies' : Sizes) (server : Server) → StandsOn stripe held known server → now.contents ≡ held.contents
    → now.life ≡ held.life → copies' ≡ known.copies → StandsOn stripe now (record known { copies = copies' }) server
read_stands stripe held now known copies' server stands contents life copies =
    record { up = stands.up; form = stands.form; copies = copies ∙ stands.copies; stands = same_stands stripe held now server contents life stands.stands }

some_more : (old new out count : ℕ) → kept new ≡ kept (old + count) → kept (old + (out - out)) ≤ kept new
some_more old new out count handed = omega arith

pub start_step : (stripe : ℕ) (answer : ChunkAnswer) (held : Held) (told told' : Option Held) (known : Known) (copies' : Sizes) (server : Server)
    → told ≡ Some held → StandsOn stripe held known server
    → StartLeaves stripe known.up answer known.copies copies' told told'
    → Led Ask.Start (without_room answer) stripe held told' (record known { up = up_after answer known.up; copies = copies' }) server (chunk_attempted server Ask.Start (chunk_outcome answer))
unfolding chunk_attempted chunk_outcome room_of
start_step stripe (Answer.Started life) held told told' known copies' server told_is stands left =
    start_done stripe life known.up held told told' known copies' server told_is stands refl left.0 left.1
start_step stripe Answer.Fault held told told' known copies' server told_is stands left =
    let read = left.1 held told_is in
    let reads : Reads held told' read.0 = read.1 in (
      reads.after,
      reads.told_is,
      record {
        reply_is = refl;
        stands = read_stands stripe held reads.after known copies' server stands reads.contents reads.life left.0;
        handed = some_more held.handed_out reads.after.handed_out server.handed_out read.0 reads.handed;
      },
    )
start_step stripe Answer.NoMemory held told told' known copies' server told_is stands left = (
  held,
  left.1 ∙ told_is,
  record {
    reply_is = refl;
    stands = read_stands stripe held held known copies' server stands refl refl left.0;
    handed = none_more false held.handed_out server.handed_out;
  },
)
start_step stripe _ held told told' known copies' server told_is stands left = absurd left
