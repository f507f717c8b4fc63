-- Each command asks a bounded number of requests.
use Rattle.std.proofs.Common.{ℕ, zero, suc, ◌+◌, ◌*◌, ◌≤◌, Bool, true, false, List, [], ◌∷◌, length, arith}
use Rattle.qfs_base.specs.declared.chunk.BlockId.{BlockId}
use Rattle.qfs_base.specs.declared.chunk.Copy.{Copy}
use Rattle.qfs_base.specs.declared.lists.Cause.{Cause}
use Rattle.qfs_base.specs.declared.reply.ChunkAnswer.{ChunkAnswer}
use Rattle.qfs_base.specs.declared.reply.ChunkAnswer.TheVariants as Did
use Rattle.qfs_base.specs.declared.reply.MetaReply.{MetaReply}
use Rattle.qfs_base.specs.declared.reply.MetaReply.TheVariants as Said
use Rattle.qfs_base.specs.declared.reply.NodeReply.{NodeReply}
use Rattle.qfs_base.specs.declared.reply.NodeReply.TheVariants as From
use Rattle.qfs_base.specs.declared.request.ChunkRequest.{ChunkRequest}
use Rattle.qfs_base.specs.declared.request.MetaRequest.{MetaRequest}
use Rattle.qfs_model_actor.specs.Work.{Report, Work, ends, asks, for_each}
use Rattle.qfs_model_actor.specs.Hold.{Hold, nothing, unclosed, opened, granted, on_answer, on_meta, ask_or, was_given_back, was_released, give_back, end_with}
use Rattle.qfs_model_actor.specs.Ask.{ask, on_served, on_chunk, ask_server, after_store, filled, after_fetch, fetch}
use Rattle.qfs_model_actor.specs.Steps.{AsksAtMost}

-- who asks at most n requests asks at most m
pub more_steps : (w : Work) (n m : ℕ) → n ≤ m → AsksAtMost n w → AsksAtMost m w
more_steps (ends report) n m h a = tt
more_steps (asks request next) zero m h a = absurd a
more_steps (asks request next) (suc n) zero h a = absurd (omega arith)
more_steps (asks request next) (suc n) (suc m) h a = λ reply. more_steps (next reply) n m (omega arith) (a reply)

on_answer-steps : (n : ℕ) (give_up : Report → Work) (next : MetaReply → Work)
    → ((r : Report) → AsksAtMost n (give_up r)) → ((a : MetaReply) → AsksAtMost n (next a))
    → (a : MetaReply) → AsksAtMost n (on_answer give_up next a)
unfolding on_answer
on_answer-steps n give_up next g h (Said.Dropped turn) = tt
on_answer-steps n give_up next g h Said.LogFault = g _
on_answer-steps n give_up next g h Said.NoMemory = g _
on_answer-steps n give_up next g h (Said.BadLog right offset) = g _
on_answer-steps n give_up next g h answer = h answer

pub ask_or-steps : (n : ℕ) (give_up : Report → Work) (request : MetaRequest) (next : MetaReply → Work)
    → ((r : Report) → AsksAtMost n (give_up r)) → ((a : MetaReply) → AsksAtMost n (next a))
    → AsksAtMost (suc n) (ask_or give_up request next)
unfolding ask_or on_meta
ask_or-steps n give_up request next g h =
    elim [ From.Meta answer ↦ on_answer-steps n give_up next g h answer | From.Chunk answer ↦ tt ]

pub was_given_back-steps : (n : ℕ) (next : Work) → AsksAtMost n next → (a : MetaReply) → AsksAtMost n (was_given_back next a)
unfolding was_given_back
was_given_back-steps n next h (Said.Done place) = h
was_given_back-steps n next h answer = tt

was_released-steps : (n : ℕ) (next : Work) → AsksAtMost n next → (a : MetaReply) → AsksAtMost n (was_released next a)
unfolding was_released
was_released-steps n next h (Said.Done place) = h
was_released-steps n next h Said.Gone = h
was_released-steps n next h answer = tt

-- one request gives back what is held
pub give_back-steps : (n : ℕ) (next : Work) (hold : Hold) → AsksAtMost n next → AsksAtMost (suc n) (give_back next hold)
unfolding give_back
give_back-steps n next nothing h = more_steps next n (suc n) (omega arith) h
give_back-steps n next (unclosed file) h = ask_or-steps n ends _ _ (λ r. tt) (was_given_back-steps n next h)
give_back-steps n next (opened lease) h = ask_or-steps n ends _ _ (λ r. tt) (was_released-steps n next h)
give_back-steps n next (granted g) h = ask_or-steps n ends _ _ (λ r. tt) (was_given_back-steps n next h)

pub end_with-steps : (n : ℕ) (hold : Hold) (r : Report) → AsksAtMost (suc n) (end_with hold r)
unfolding end_with
end_with-steps n hold r = give_back-steps n (ends r) hold tt

-- who holds nothing ends at once
end_with-nothing-steps : (n : ℕ) (r : Report) → AsksAtMost n (end_with nothing r)
unfolding end_with give_back
end_with-nothing-steps n r = tt

pub ask-steps : (n : ℕ) (hold : Hold) (request : MetaRequest) (next : MetaReply → Work)
    → ((a : MetaReply) → AsksAtMost (suc n) (next a)) → AsksAtMost (suc (suc n)) (ask hold request next)
unfolding ask
ask-steps n hold request next h = ask_or-steps (suc n) (end_with hold) request next (end_with-steps n hold) h

pub ask-nothing-steps : (n : ℕ) (request : MetaRequest) (next : MetaReply → Work)
    → ((a : MetaReply) → AsksAtMost n (next a)) → AsksAtMost (suc n) (ask nothing request next)
unfolding ask
ask-nothing-steps n request next h = ask_or-steps n (end_with nothing) request next (end_with-nothing-steps n) h

on_served-steps : (n : ℕ) (hold : Hold) (next : ChunkAnswer → Work) → ((r : Report) → AsksAtMost n (end_with hold r))
    → ((a : ChunkAnswer) → AsksAtMost n (next a)) → (a : ChunkAnswer) → AsksAtMost n (on_served hold next a)
unfolding on_served
on_served-steps n hold next g h Did.NoMemory = g _
on_served-steps n hold next g h answer = h answer

on_chunk-steps : (n : ℕ) (hold : Hold) (next : List ℕ → ChunkAnswer → Work)
    → ((r : Report) → AsksAtMost n (end_with hold r))
    → ((room : List ℕ) (a : ChunkAnswer) → AsksAtMost n (next room a))
    → (reply : NodeReply) → AsksAtMost n (on_chunk hold next reply)
unfolding on_chunk
on_chunk-steps n hold next g h (From.Meta answer) = tt
on_chunk-steps n hold next g h (From.Chunk reply) = on_served-steps n hold (next reply.room) g (h reply.room) reply.answer

pub ask_server-steps : (n : ℕ) (hold : Hold) (server : ℕ) (request : ChunkRequest) (next : ChunkAnswer → Work)
    → ((a : ChunkAnswer) → AsksAtMost (suc n) (next a)) → AsksAtMost (suc (suc n)) (ask_server hold server request next)
unfolding ask_server
ask_server-steps n hold server request next h =
    on_chunk-steps (suc n) hold (λ room. next) (end_with-steps n hold) (λ room. h)

pub ask_server-nothing-steps : (n : ℕ) (server : ℕ) (request : ChunkRequest) (next : ChunkAnswer → Work)
    → ((a : ChunkAnswer) → AsksAtMost n (next a)) → AsksAtMost (suc n) (ask_server nothing server request next)
unfolding ask_server
ask_server-nothing-steps n server request next h =
    on_chunk-steps n nothing (λ room. next) (end_with-nothing-steps n) (λ room. h)

pub after_store-steps : (n : ℕ) (stored : Work) (failed : Cause → Work) → AsksAtMost n stored
    → ((c : Cause) → AsksAtMost n (failed c)) → (a : ChunkAnswer) → AsksAtMost n (after_store stored failed a)
unfolding after_store
after_store-steps n stored failed s f Did.Stored = s
after_store-steps n stored failed s f Did.Down = f _
after_store-steps n stored failed s f (Did.Lost asked now) = f _
after_store-steps n stored failed s f Did.Fault = f _
after_store-steps n stored failed s f answer = tt

filled-steps : (n : ℕ) (fetched : List ℕ → Work) (room : List ℕ) → AsksAtMost n (fetched room)
    → (b : Bool) → AsksAtMost n (filled fetched room b)
unfolding filled
filled-steps n fetched room h true = h
filled-steps n fetched room h false = tt

after_fetch-steps : (n len : ℕ) (fetched : List ℕ → Work) (failed : Cause → Work)
    → ((room : List ℕ) → AsksAtMost n (fetched room)) → ((c : Cause) → AsksAtMost n (failed c))
    → (room : List ℕ) (a : ChunkAnswer) → AsksAtMost n (after_fetch len fetched failed room a)
unfolding after_fetch
after_fetch-steps n len fetched failed s f room Did.Fetched = filled-steps n fetched room (s room) _
after_fetch-steps n len fetched failed s f room Did.Down = f _
after_fetch-steps n len fetched failed s f room (Did.Lost asked now) = f _
after_fetch-steps n len fetched failed s f room Did.Absent = f _
after_fetch-steps n len fetched failed s f room Did.Fault = f _
after_fetch-steps n len fetched failed s f room answer = tt

pub fetch-steps : (n : ℕ) (hold : Hold) (block : BlockId) (slot from len : ℕ) (fetched : List ℕ → Work) (failed : Cause → Work)
    → ((room : List ℕ) → AsksAtMost (suc n) (fetched room)) → ((c : Cause) → AsksAtMost (suc n) (failed c))
    → (copy : Copy) → AsksAtMost (suc (suc n)) (fetch hold block slot from len fetched failed copy)
unfolding fetch
fetch-steps n hold block slot from len fetched failed s f copy =
    on_chunk-steps (suc n) hold (after_fetch len fetched failed) (end_with-steps n hold)
    (after_fetch-steps (suc n) len fetched failed s f)

-- pieces of work that ask at most k requests each ask at most k times as many
pub for_each-steps : {X : Type 0} (k : ℕ) (step : X → Work → Work)
    → ((x : X) (rest : Work) (n : ℕ) → AsksAtMost (suc n) rest → AsksAtMost (k + suc n) (step x rest))
    → (xs : List X) (rest : Work) (n : ℕ) → AsksAtMost (suc n) rest → AsksAtMost (length xs * k + suc n) (for_each step xs rest)
unfolding for_each
for_each-steps k step h [] rest n a = more_steps rest (suc n) (0 * k + suc n) (grind arith) a
for_each-steps k step h (x ∷ xs) rest n a =
    let m = length xs * k in
    let behind = more_steps (for_each step xs rest) (m + suc n) (suc (m + n)) (omega arith) (for_each-steps k step h xs rest n a) in
    more_steps (step x (for_each step xs rest)) (k + suc (m + n)) (length (x ∷ xs) * k + suc n) (grind arith)
    (h x (for_each step xs rest) (m + n) behind)
