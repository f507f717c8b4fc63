-- A server through a step: its store goes on to stand for it, whether the step is one there or at another node.
use Rattle.std.proofs.Common.{◌≡◌, ℕ, ◌+◌, ◌-◌, ◌<◌, ◌≤◌, false, cond, List, [], ◌∷◌, ◌++◌, Option, Some, None, refl, sym, ◌∙◌, ap, subst, arith, eq-eqb, inl, inr}
use Rattle.std.specs.Prelude.{◌&&◌}
use Rattle.std.proofs.lemmas.List.Sums.{sum_by-append, sum_by-cons}
use Rattle.qfs_base.specs.Outcome.{chunk_outcome}
use Rattle.qfs_base.specs.Sizes.{LAST_U64}
use Rattle.qfs_base.specs.declared.history.Outcome.{Outcome}
use Rattle.qfs_base.specs.declared.history.Outcome.TheVariants as Ended
use Rattle.qfs_base.specs.declared.reply.ChunkAnswer.{ChunkAnswer}
use Rattle.qfs_base.specs.declared.reply.ChunkAnswer.TheVariants as Did
use Rattle.qfs_base.specs.declared.reply.ChunkReply.{ChunkReply}
use Rattle.qfs_base.specs.declared.reply.NodeReply.{NodeReply}
use Rattle.qfs_base.specs.declared.reply.NodeReply.TheVariants as From
use Rattle.qfs_base.specs.declared.request.ChunkRequest.{ChunkRequest}
use Rattle.qfs_base.specs.declared.request.ChunkRequest.TheVariants as Serve
use Rattle.qfs_base.specs.declared.request.NodeRequest.{NodeRequest}
use Rattle.qfs_base.specs.declared.request.NodeRequest.TheVariants as To
use Rattle.qfs_device.specs.Fault.{RoseOnce}
use Rattle.qfs_device.specs.Held.{Held}
use Rattle.qfs_machine.specs.Askable.{IsAskedOfServer}
use Rattle.qfs_model_actor.specs.Work.{node_of_request}
use Rattle.qfs_model_headline.specs.Nodes.{is_wiped, wiped_at}
use Rattle.qfs_model_server.specs.Server.{Server, chunk_refusal, chunk_served, chunk_attempted, chunk_decided, server_step}
use Rattle.qfs_model_store.specs.Stands.{kept, HandsOut}
use Rattle.qfs_model_text.specs.Order.{same_outcome}
use Rattle.qfs_model_world.specs.Events.{Event}
use Rattle.qfs_model_world.specs.Headline.{is_failed_at, failed_at}
use Rattle.qfs_model_world.specs.World.{numbered}
use Rattle.qfs_store.specs.Serves.{Answers, Counted, Serves, Steps, reads_more}
use Rattle.qfs_store.specs.Stored.{Stored, StandsOn}
use Rattle.qfs_world.specs.Calls.{GoesOn}
use Rattle.qfs_world.specs.Servers.{StandsForServer}
use Rattle.qfs_world.proofs.Leftovers.{MayRefuse, may_refuse, no_other-longer, no_other-after}
use Rattle.qfs_world.proofs.Lists.{differs}

-- ---- what a store counts

stays-counted : (answer : ChunkAnswer) (old new : ℕ) → chunk_outcome answer ≡ Ended.Done → new ≡ old → Counted answer old new
unfolding chunk_outcome
stays-counted Did.Fault old new done same = absurd (cc)
stays-counted answer old new done same = same

counted-by : (request : ChunkRequest) (reply : ChunkReply) (before after : Stored) (due : Option ChunkAnswer) → MayRefuse due
    → Answers request reply before after due → Counted reply.answer before.faults after.faults
counted-by request reply before after (Some answer) may answers =
    stays-counted reply.answer before.faults after.faults
    (ap (λ (r : ChunkReply). chunk_outcome r.answer) answers.0 ∙ may.0)
    (ap (λ (s : Stored). s.faults) answers.1)
counted-by request reply before after None may answers = answers.counted

pub counted : (request : ChunkRequest) (reply : ChunkReply) (before after : Stored) → Serves request reply before after
    → Counted reply.answer before.faults after.faults
counted request reply before after serves =
    counted-by request reply before after _ (may_refuse before.known serves.now request) serves.answers

-- a failure raises the count once
pub rose-once : (answer : ChunkAnswer) (old new : ℕ) → Counted answer old new → chunk_outcome answer ≡ Ended.Failed → RoseOnce old new
unfolding chunk_outcome
rose-once Did.Fault old new counts failed = counts
rose-once Did.NoMemory old new counts failed = absurd (cc)
rose-once answer old new counts failed = absurd (cc)

never-falls : (answer : ChunkAnswer) (old new : ℕ) → Counted answer old new → old ≤ new
never-falls Did.Fault old new (inl more) = omega (arith, more)
never-falls Did.Fault old new (inr last) = omega (arith, last.0, last.1)
never-falls answer old new counts = omega (arith, counts)

pub serves-goes_on : (request : ChunkRequest) (reply : ChunkReply) (before after : Stored) → Serves request reply before after → GoesOn before after
serves-goes_on request reply before after serves =
    record { tells = serves.tells; never_falls = never-falls reply.answer _ _ (counted request reply before after serves) }

-- below its last value a count tells how many steps failed
rises : (answer : ChunkAnswer) (old new : ℕ) → Counted answer old new → new < LAST_U64
    → new ≡ old + cond (same_outcome (chunk_outcome answer) Ended.Failed) 1 0
unfolding chunk_outcome same_outcome
rises Did.Fault old new (inl more) below = more
rises Did.Fault old new (inr last) below = absurd (omega (arith, last.1, below))
rises answer old new counts below = let none : old ≡ old + 0 = omega arith in counts ∙ none

-- ---- how many steps failed

pub failed-more : (number : ℕ) (steps : List Event) (event : Event)
    → failed_at number (steps ++ event ∷ []) ≡ failed_at number steps + cond (is_failed_at number event) 1 0
unfolding failed_at
failed-more number steps event =
    let more = sum_by-append (λ e. cond (is_failed_at number e) 1 0) steps (event ∷ []) in
    let one = sum_by-cons (λ e. cond (is_failed_at number e) 1 0) event [] in omega (arith, more, one)

pub fails-here : (number : ℕ) (event : Event) → node_of_request event.request ≡ number → is_failed_at number event ≡ same_outcome event.outcome Ended.Failed
unfolding is_failed_at
fails-here number event to = ap (λ b. b && same_outcome event.outcome Ended.Failed) (eq-eqb (node_of_request event.request) number to)

pub fails-elsewhere : (number : ℕ) (event : Event) → (node_of_request event.request ≡ number → ⊥) → is_failed_at number event ≡ false
unfolding is_failed_at
fails-elsewhere number event apart =
    ap (λ b. b && same_outcome event.outcome Ended.Failed) (differs (node_of_request event.request) number apart)

-- where no step more failed, as many did
pub none-more : (number : ℕ) (steps : List Event) (event : Event) → is_failed_at number event ≡ false
    → failed_at number (steps ++ event ∷ []) ≡ failed_at number steps
none-more number steps event none =
    let zero : ◌≡◌ {A = ℕ} (cond (is_failed_at number event) 1 0) 0 = ap (λ b. cond b 1 0) none in
    omega (arith, failed-more number steps event, zero)

-- ---- which steps empty a server

wiped-elsewhere : (number : ℕ) (reply : NodeReply) (request : NodeRequest) → (node_of_request request ≡ number → ⊥)
    → wiped_at number reply request ≡ false
unfolding wiped_at node_of_request
wiped-elsewhere number (From.Meta reply) request apart = refl
wiped-elsewhere number (From.Chunk reply) (To.Meta request) apart = refl
wiped-elsewhere number (From.Chunk reply) (To.Chunk server request) apart =
    ap (λ b. b && is_wiped reply.answer) (differs server number apart)

-- ---- bytes handed out never fall

handed-served : (server : Server) (request : ChunkRequest) → server.handed_out ≤ (chunk_served server request).server.handed_out
unfolding chunk_served
handed-served server Serve.Stop = omega arith
handed-served server request = omega arith

handed-attempted : (server : Server) (request : ChunkRequest) (outcome : Outcome)
    → server.handed_out ≤ (chunk_attempted server request outcome).server.handed_out
unfolding chunk_attempted
handed-attempted server request Ended.Done = handed-served server request
handed-attempted server request outcome = omega arith

handed-decided : (server : Server) (request : ChunkRequest) (outcome : Outcome) (refusal : Option ChunkAnswer)
    → server.handed_out ≤ (chunk_decided server request outcome refusal).server.handed_out
unfolding chunk_decided
handed-decided server request outcome None = handed-attempted server request outcome
handed-decided server request outcome (Some answer) = omega arith

handed-step : (request : ChunkRequest) (outcome : Outcome) (server : Server)
    → server.handed_out ≤ (server_step request outcome server).server.handed_out
unfolding server_step
handed-step request outcome server = handed-decided server request outcome (chunk_refusal server request)

-- what is asked of a server reads no more than the definition says
hands-out : (request : ChunkRequest) (answer : ChunkAnswer) (held : Held) (server : Server) (old new : ℕ) → IsAskedOfServer request
    → HandsOut (reads_more request answer held server) new old → kept new ≡ kept old
hands-out Serve.Start answer held server old new asked handed = absurd asked
hands-out request answer held server old new asked handed = handed

kept-on : (device server device' server' : ℕ) → kept device ≡ kept server → server ≤ server'
    → kept device' ≡ kept (device + (server' - server)) → kept device' ≡ kept server'
kept-on device server device' server' same more handed = omega arith

-- a request that is carried out keeps the stripe, and so does one that is refused
same-stripe : (request : ChunkRequest) (reply : ChunkReply) (before after : Stored) (due : Option ChunkAnswer)
    → Answers request reply before after due → after.stripe ≡ before.stripe
same-stripe request reply before after (Some answer) answers = ap (λ (s : Stored). s.stripe) answers.1
same-stripe request reply before after None answers = answers.stripe

-- ---- one step more

module _ (stripe : ℕ) (counts : List ℕ) (steps : List Event) (number : ℕ) (stored : Stored) (server : Server)
    (is : StandsForServer stripe counts steps number stored server) where
  -- at another node
  pub stands-on : (event : Event) → (node_of_request event.request ≡ number → ⊥)
      → StandsForServer stripe counts (steps ++ event ∷ []) number stored server
  stands-on event apart = record {
    stripe_is = is.stripe_is;
    held = is.held;
    told = is.told;
    stands = is.stands;
    handed_out = is.handed_out;
    others = no_other-longer stripe steps event number is.held server (wiped-elsewhere number event.reply event.request apart) is.others;
    faults = λ count at below.
        is.faults count at below ∙ ap (λ n. count + n) (sym (none-more number steps event (fails-elsewhere number event apart)));
  }

  -- at this server
  module _ (request : ChunkRequest) (answer : ChunkReply) (next : Stored) (serves : Serves request answer stored next) where
    abbrev pub moved : Server
    moved = (server_step request (chunk_outcome answer.answer) server).server

    led : (now : Held) × (next.told ≡ Some now)
        × Steps request answer stored.stripe is.held now next.known server (server_step request (chunk_outcome answer.answer) server)
    led = serves.step server is.held is.told (subst (λ n. StandsOn n is.held stored.known server) (sym is.stripe_is) is.stands)

    pub step-is : server_step request (chunk_outcome answer.answer) server ≡ record { server = moved; reply = answer }
    step-is = ap (λ r. record { server = moved; reply = r }) (sym led.2.reply_is)

    module _ (event : Event) (asked : event.request ≡ To.Chunk number request)
        (told : event.reply ≡ From.Chunk answer) (ended : event.outcome ≡ chunk_outcome answer.answer)
        (by : numbered event.before.servers number ≡ Some server) (askable : IsAskedOfServer request) where
      counts-on : (count : ℕ) → numbered counts number ≡ Some count → next.faults < LAST_U64
          → next.faults ≡ count + failed_at number (steps ++ event ∷ [])
      unfolding node_of_request
      counts-on count at below =
          let rose = counted request answer stored next serves in
          let before = is.faults count at (let no_less = never-falls answer.answer stored.faults next.faults rose in omega (arith, no_less, below)) in
          let fails = fails-here number event (ap node_of_request asked) ∙ ap (λ o. same_outcome o Ended.Failed) ended in
          let same : ◌≡◌ {A = ℕ} (cond (is_failed_at number event) 1 0) (cond (same_outcome (chunk_outcome answer.answer) Ended.Failed) 1 0) =
          ap (λ b. cond b 1 0) fails in
          let more = rises answer.answer stored.faults next.faults rose below in
          omega (arith, before, more, failed-more number steps event, same)

      pub stands-through : StandsForServer stripe counts (steps ++ event ∷ []) number next moved
      stands-through =
          let stands : StandsOn stripe led.0 next.known moved = subst (λ n. StandsOn n led.0 next.known moved) is.stripe_is led.2.stands in
          record {
            stripe_is = same-stripe request answer stored next _ serves.answers ∙ is.stripe_is;
            held = led.0;
            told = led.1;
            stands = stands;
            handed_out =
                kept-on is.held.handed_out server.handed_out led.0.handed_out moved.handed_out is.handed_out
                (handed-step request (chunk_outcome answer.answer) server)
                (hands-out request answer.answer is.held server _ led.0.handed_out askable led.2.handed);
            others =
                no_other-after stripe steps event number request answer server moved stored next is.held led.0
                askable asked ended told by is.stripe_is is.told led.1 is.stands stands serves is.others;
            faults = counts-on;
          }
