-- What the pieces of puts and gets ask. For the law that puts and gets delete nothing.
use Rattle.std.proofs.Common.{ℕ, Bool, true, false, List, [], ◌∷◌}
use Rattle.qfs_base.specs.declared.chunk.BlockId.{BlockId}
use Rattle.qfs_base.specs.declared.chunk.Copy.{Copy}
use Rattle.qfs_base.specs.declared.lists.Cause.{Cause}
use Rattle.qfs_base.specs.declared.reply.ChunkAnswer.{ChunkAnswer}
use Rattle.qfs_base.specs.declared.reply.ChunkAnswer.TheVariants as Did
use Rattle.qfs_base.specs.declared.reply.MetaReply.{MetaReply}
use Rattle.qfs_base.specs.declared.reply.MetaReply.TheVariants as Said
use Rattle.qfs_base.specs.declared.reply.NodeReply.{NodeReply}
use Rattle.qfs_base.specs.declared.reply.NodeReply.TheVariants as From
use Rattle.qfs_base.specs.declared.request.ChunkRequest.{ChunkRequest}
use Rattle.qfs_base.specs.declared.request.MetaRequest.{MetaRequest}
use Rattle.qfs_model_actor.specs.Work.{Report, Work, ends, for_each}
use Rattle.qfs_model_actor.specs.Hold.{Hold, nothing, unclosed, opened, granted, on_answer, on_meta}
use Rattle.qfs_model_actor.specs.Hold.{ask_or, was_given_back, was_released, give_back, end_with}
use Rattle.qfs_model_actor.specs.Ask.{ask, on_served, on_chunk, ask_server, after_store, filled}
use Rattle.qfs_model_actor.specs.Ask.{after_fetch, fetch}
use Rattle.qfs_model_actor.specs.Tree.{refused}
use Rattle.qfs_laws_first.specs.Asks.{IsMetaOfFiles, IsChunkOfFiles, AsksOfFiles}

on_answer-asks : (give_up : Report → Work) (next : MetaReply → Work)
    → ((r : Report) → AsksOfFiles (give_up r)) → ((a : MetaReply) → AsksOfFiles (next a))
    → (a : MetaReply) → AsksOfFiles (on_answer give_up next a)
unfolding on_answer
on_answer-asks give_up next g h (Said.Dropped turn) = tt
on_answer-asks give_up next g h Said.LogFault = g _
on_answer-asks give_up next g h Said.NoMemory = g _
on_answer-asks give_up next g h (Said.BadLog right offset) = g _
on_answer-asks give_up next g h answer = h answer

on_meta-asks : (give_up : Report → Work) (next : MetaReply → Work)
    → ((r : Report) → AsksOfFiles (give_up r)) → ((a : MetaReply) → AsksOfFiles (next a))
    → (reply : NodeReply) → AsksOfFiles (on_meta give_up next reply)
unfolding on_meta
on_meta-asks give_up next g h (From.Meta answer) = on_answer-asks give_up next g h answer
on_meta-asks give_up next g h (From.Chunk answer) = tt

ask_or-asks : (give_up : Report → Work) (request : MetaRequest) (next : MetaReply → Work)
    → IsMetaOfFiles request
    → ((r : Report) → AsksOfFiles (give_up r)) → ((a : MetaReply) → AsksOfFiles (next a))
    → AsksOfFiles (ask_or give_up request next)
unfolding ask_or
ask_or-asks give_up request next of g h = (of, on_meta-asks give_up next g h)

was_given_back-asks : (next : Work) → AsksOfFiles next → (a : MetaReply)
    → AsksOfFiles (was_given_back next a)
unfolding was_given_back
was_given_back-asks next h (Said.Done place) = h
was_given_back-asks next h answer = tt

was_released-asks : (next : Work) → AsksOfFiles next → (a : MetaReply)
    → AsksOfFiles (was_released next a)
unfolding was_released
was_released-asks next h (Said.Done place) = h
was_released-asks next h Said.Gone = h
was_released-asks next h answer = tt

-- a put or get holds nothing, an unclosed file or an open one
abbrev pub IsOfFile : Hold → Type 0
IsOfFile nothing = Unit {0}
IsOfFile (unclosed file) = Unit {0}
IsOfFile (opened lease) = Unit {0}
IsOfFile (granted g) = ⊥

pub give_back-asks : (next : Work) (hold : Hold) → IsOfFile hold → AsksOfFiles next
    → AsksOfFiles (give_back next hold)
unfolding give_back
give_back-asks next nothing of h = h
give_back-asks next (unclosed file) of h =
    ask_or-asks ends _ _ tt (λ r. tt) (was_given_back-asks next h)
give_back-asks next (opened lease) of h =
    ask_or-asks ends _ _ tt (λ r. tt) (was_released-asks next h)
give_back-asks next (granted g) of h = absurd of

pub end_with-asks : (hold : Hold) → IsOfFile hold → (r : Report) → AsksOfFiles (end_with hold r)
unfolding end_with
end_with-asks hold of r = give_back-asks (ends r) hold of tt

pub ask-asks : (hold : Hold) (request : MetaRequest) (next : MetaReply → Work) → IsOfFile hold
    → IsMetaOfFiles request
    → ((a : MetaReply) → AsksOfFiles (next a)) → AsksOfFiles (ask hold request next)
unfolding ask
ask-asks hold request next held of h =
    ask_or-asks (end_with hold) request next of (end_with-asks hold held) h

on_served-asks : (hold : Hold) (next : ChunkAnswer → Work) → IsOfFile hold
    → ((a : ChunkAnswer) → AsksOfFiles (next a)) → (a : ChunkAnswer)
    → AsksOfFiles (on_served hold next a)
unfolding on_served
on_served-asks hold next held h Did.NoMemory = end_with-asks hold held _
on_served-asks hold next held h answer = h answer

pub on_chunk-asks : (hold : Hold) (next : List ℕ → ChunkAnswer → Work) → IsOfFile hold
    → ((room : List ℕ) (a : ChunkAnswer) → AsksOfFiles (next room a)) → (reply : NodeReply)
    → AsksOfFiles (on_chunk hold next reply)
unfolding on_chunk
on_chunk-asks hold next held h (From.Meta answer) = tt
on_chunk-asks hold next held h (From.Chunk reply) =
    on_served-asks hold (next reply.room) held (h reply.room) reply.answer

pub ask_server-asks : (hold : Hold) (server : ℕ) (request : ChunkRequest)
    (next : ChunkAnswer → Work) → IsOfFile hold
    → IsChunkOfFiles request → ((a : ChunkAnswer) → AsksOfFiles (next a))
    → AsksOfFiles (ask_server hold server request next)
unfolding ask_server
ask_server-asks hold server request next held of h =
    (of, on_chunk-asks hold (λ room. next) held (λ room. h))

pub after_store-asks : (stored : Work) (failed : Cause → Work) → AsksOfFiles stored
    → ((c : Cause) → AsksOfFiles (failed c)) → (a : ChunkAnswer)
    → AsksOfFiles (after_store stored failed a)
unfolding after_store
after_store-asks stored failed s f Did.Stored = s
after_store-asks stored failed s f Did.Down = f _
after_store-asks stored failed s f (Did.Lost asked now) = f _
after_store-asks stored failed s f Did.Fault = f _
after_store-asks stored failed s f answer = tt

filled-asks : (fetched : List ℕ → Work) (room : List ℕ) → AsksOfFiles (fetched room) → (b : Bool)
    → AsksOfFiles (filled fetched room b)
unfolding filled
filled-asks fetched room h true = h
filled-asks fetched room h false = tt

after_fetch-asks : (len : ℕ) (fetched : List ℕ → Work) (failed : Cause → Work)
    → ((room : List ℕ) → AsksOfFiles (fetched room)) → ((c : Cause) → AsksOfFiles (failed c))
    → (room : List ℕ) (a : ChunkAnswer) → AsksOfFiles (after_fetch len fetched failed room a)
unfolding after_fetch
after_fetch-asks len fetched failed s f room Did.Fetched = filled-asks fetched room (s room) _
after_fetch-asks len fetched failed s f room Did.Down = f _
after_fetch-asks len fetched failed s f room (Did.Lost asked now) = f _
after_fetch-asks len fetched failed s f room Did.Absent = f _
after_fetch-asks len fetched failed s f room Did.Fault = f _
after_fetch-asks len fetched failed s f room answer = tt

pub fetch-asks : (hold : Hold) (block : BlockId) (slot from len : ℕ) (fetched : List ℕ → Work)
    (failed : Cause → Work) → IsOfFile hold
    → ((room : List ℕ) → AsksOfFiles (fetched room)) → ((c : Cause) → AsksOfFiles (failed c))
    → (copy : Copy) → AsksOfFiles (fetch hold block slot from len fetched failed copy)
unfolding fetch
fetch-asks hold block slot from len fetched failed held s f copy = (
  tt,
  on_chunk-asks hold (after_fetch len fetched failed) held
      (after_fetch-asks len fetched failed s f),
)

pub for_each-asks : {X : Type 0} (step : X → Work → Work)
    → ((x : X) (rest : Work) → AsksOfFiles rest → AsksOfFiles (step x rest))
    → (xs : List X) (rest : Work) → AsksOfFiles rest → AsksOfFiles (for_each step xs rest)
unfolding for_each
for_each-asks step h [] rest a = a
for_each-asks step h (x ∷ xs) rest a = h x (for_each step xs rest) (for_each-asks step h xs rest a)

pub refused-asks : (a : MetaReply) → AsksOfFiles (refused a)
unfolding refused
refused-asks (Said.Refused refusal place) = tt
refused-asks answer = tt
