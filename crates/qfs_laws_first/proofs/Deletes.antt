-- Puts and gets delete nothing, and restart nothing. The law `puts_and_gets_delete_nothing`.
use Rattle.std.proofs.Common.{◌≡◌, ℕ, ◌+◌, Bool, true, false, cond, List, [], ◌∷◌, length, Option}
use Rattle.std.proofs.Common.{Some, None, refl, sym, subst}
use Rattle.std.specs.List.{cons_option}
use Rattle.qfs_base.specs.Rules.{rules_of}
use Rattle.qfs_base.specs.Shape.{Shape}
use Rattle.qfs_base.specs.Table.{Each}
use Rattle.qfs_base.specs.declared.chunk.BlockId.{BlockId}
use Rattle.qfs_base.specs.declared.command.Command.{Command}
use Rattle.qfs_base.specs.declared.command.Command.TheVariants as Does
use Rattle.qfs_base.specs.declared.command.FileCommand.TheVariants as File
use Rattle.qfs_base.specs.declared.history.Outcome.{Outcome}
use Rattle.qfs_base.specs.declared.history.Outcome.TheVariants as Ended
use Rattle.qfs_base.specs.declared.history.Step.{Step}
use Rattle.qfs_base.specs.declared.image.Grant.{Grant}
use Rattle.qfs_base.specs.declared.image.MetaImage.{MetaImage}
use Rattle.qfs_base.specs.declared.image.TreeRow.{TreeRow}
use Rattle.qfs_base.specs.declared.reply.MetaReply.{MetaReply}
use Rattle.qfs_base.specs.declared.reply.MetaReply.TheVariants as Told
use Rattle.qfs_base.specs.declared.reply.NodeReply.{NodeReply}
use Rattle.qfs_base.specs.declared.reply.TreeRefusal.{TreeRefusal}
use Rattle.qfs_base.specs.declared.request.ChunkRequest.{ChunkRequest}
use Rattle.qfs_base.specs.declared.request.ChunkRequest.TheVariants as Serve
use Rattle.qfs_base.specs.declared.request.MetaRequest.{MetaRequest}
use Rattle.qfs_base.specs.declared.request.MetaRequest.TheVariants as Ask
use Rattle.qfs_base.specs.declared.request.NodeRequest.{NodeRequest}
use Rattle.qfs_base.specs.declared.request.NodeRequest.TheVariants as To
use Rattle.qfs_base.specs.declared.request.SlotId.{SlotId}
use Rattle.qfs_base.specs.declared.rules.Rules.{Rules}
use Rattle.qfs_base.specs.declared.script.Script.{Script}
use Rattle.qfs_model_actor.specs.Actor.{Actor, starting, present_command, command_number, work_left}
use Rattle.qfs_model_actor.specs.Actor.{request_of, moved_on, after_reply}
use Rattle.qfs_model_actor.specs.Command.{file_work, work_of}
use Rattle.qfs_model_actor.specs.Work.{Work, ends, asks, goes_on, follow, request_in}
use Rattle.qfs_model_meta.specs.Apply.{apply_all}
use Rattle.qfs_model_meta.specs.Counters.{counters_fit}
use Rattle.qfs_model_meta.specs.Decide.{decide, decide_request}
use Rattle.qfs_model_meta.specs.Decision.{Decision, Tells, UsesDisks, Makes, refuse, unless, need}
use Rattle.qfs_model_meta.specs.Decision.{refuse_file}
use Rattle.qfs_model_meta.specs.Dropped.{dropped_at}
use Rattle.qfs_model_meta.specs.GetRequests.{decide_open, decide_release}
use Rattle.qfs_model_meta.specs.PutRequests.{decide_create, decide_grant, grant_in, grant_for_put}
use Rattle.qfs_model_meta.specs.PutRequests.{put_granted, taken_refusal, decide_close}
use Rattle.qfs_model_meta.specs.PutRequests.{close_complete, incomplete, decide_abort}
use Rattle.qfs_model_meta.specs.PutRequests.{abort_unclosed}
use Rattle.qfs_model_meta.specs.Range.{in_range}
use Rattle.qfs_model_meta.specs.Step.{Served, stays, take_step, carry_out, fail_disks, end_step}
use Rattle.qfs_model_meta.specs.Step.{serve_unless_dropped, meta_step}
use Rattle.qfs_model_server.specs.Server.{Server}
use Rattle.qfs_model_world.specs.Deletion.{NoDeletion, ordered_copy, erased_copy, erased_at}
use Rattle.qfs_model_world.specs.Deletion.{deleted_by, deleted_in}
use Rattle.qfs_model_world.specs.Replayed.{says_restarted, has_restarted, KeepsAtRestart}
use Rattle.qfs_model_world.specs.Events.{Event, event_asking, event_by, event_in, events_from}
use Rattle.qfs_model_world.specs.Events.{events}
use Rattle.qfs_model_world.specs.World.{World, numbered_actors, start, numbered, meta_turned}
use Rattle.qfs_model_world.specs.World.{chunk_turned, chunk_turn, node_turn, handed_over}
use Rattle.qfs_model_world.specs.World.{move_asking, move_actor, move}
use Rattle.qfs_model_world.proofs.OneStep.{turn-keeps}
use Rattle.qfs_laws_first.specs.Asks.{IsMetaOfFiles, IsChunkOfFiles, IsOfFiles, AsksOfFiles}
use Rattle.qfs_laws_first.specs.FirstPath.{IsPutOrGet, PutsAndGets}
use Rattle.qfs_laws_first.proofs.AsksOfGets.{get_work-asks}
use Rattle.qfs_laws_first.proofs.AsksOfPuts.{put_work-asks}
use Rattle.qfs_laws_first.proofs.Rows.{each_at, each_numbered, each_renumbered}
use Rattle.qfs_base.specs.EachLaws.{each_weaker}

-- ---- what a put or get asks

work_of-asks : (rules : Rules) (number : ℕ) (command : Command) → IsPutOrGet command
    → AsksOfFiles (work_of rules number command)
unfolding work_of file_work
work_of-asks rules number (Does.File (File.Put path recipe)) is =
    put_work-asks rules.layout number path _
work_of-asks rules number (Does.File (File.Get path range)) is =
    get_work-asks rules.layout rules.tries path range
work_of-asks rules number command is = absurd is

goes_on-asks : (work : Work) (reply : NodeReply) → AsksOfFiles work
    → AsksOfFiles (goes_on work reply)
unfolding goes_on
goes_on-asks (ends report) reply h = tt
goes_on-asks (asks request next) reply h = h.1 reply

follow-asks : (work : Work) (replies : List NodeReply) → AsksOfFiles work
    → AsksOfFiles (follow work replies)
unfolding follow
follow-asks work [] h = h
follow-asks work (reply ∷ replies) h =
    follow-asks (goes_on work reply) replies (goes_on-asks work reply h)

-- a request that a work asks, if it asks one
abbrev IfOfFiles : Option NodeRequest → Type 0
IfOfFiles None = Unit {0}
IfOfFiles (Some request) = IsOfFiles request

request_in-asks : (work : Work) → AsksOfFiles work → IfOfFiles (request_in work)
unfolding request_in
request_in-asks (ends report) h = tt
request_in-asks (asks request next) h = h.0

-- an actor that only puts and gets
abbrev PutsAndGetsOnly : Actor → Type 0
PutsAndGetsOnly actor = Each IsPutOrGet actor.commands

request_of-asks : (actor : Actor) → PutsAndGetsOnly actor → IfOfFiles (request_of actor)
unfolding request_of work_left
request_of-asks actor only = present (present_command actor) refl
  where
    present : (found : Option Command) → present_command actor ≡ found
        → IfOfFiles (request_of actor)
    present None is = rw is tt
    present (Some command) is =
        rw is (request_in-asks
        (follow (work_of actor.rules (command_number actor) command) actor.heard)
        (follow-asks _ actor.heard
        (work_of-asks actor.rules (command_number actor) command
        (each_at IsPutOrGet actor.commands (length actor.ended) command only is))))

-- ---- what the metaserver answers

-- a reply that orders no deletion, and doesn't say that the metaserver restarted
abbrev IsQuiet : MetaReply → Type 0
IsQuiet reply = (ordered_copy reply ≡ None) × (says_restarted reply ≡ false)

abbrev IsSilent : Decision → Type 0
IsSilent (Tells reply) = IsQuiet reply
IsSilent (UsesDisks reply) = IsQuiet reply
IsSilent (Makes changes reply) = IsQuiet reply

-- a refusal that orders nothing
abbrev OrdersNothing : Option MetaReply → Type 0
OrdersNothing None = Unit {0}
OrdersNothing (Some reply) = IsQuiet reply

refuse-silent : (refusal : Option MetaReply) (further : Decision) → OrdersNothing refusal
    → IsSilent further → IsSilent (refuse refusal further)
unfolding refuse
refuse-silent None further r f = f
refuse-silent (Some reply) further r f = r

unless-silent : (test : Bool) (reply : MetaReply) (further : Decision) → IsQuiet reply
    → IsSilent further → IsSilent (unless test reply further)
unfolding unless
unless-silent true reply further r f = f
unless-silent false reply further r f = r

need-silent : {X : Type 0} (reply : MetaReply) (further : X → Decision) (found : Option X)
    → IsQuiet reply → ((x : X) → IsSilent (further x))
    → IsSilent (need reply further found)
unfolding need
need-silent reply further None r f = r
need-silent reply further (Some x) r f = f x

refuse_file-silent : (place : ℕ) (refusal : Option TreeRefusal) (further : Decision)
    → IsSilent further → IsSilent (refuse_file place refusal further)
unfolding refuse_file refuse ordered_copy says_restarted
refuse_file-silent place None further f = f
refuse_file-silent place (Some why) further f = (refl, refl)

taken-silent : (again : Bool) (grant : Option Grant) → OrdersNothing (taken_refusal again grant)
unfolding taken_refusal ordered_copy says_restarted
taken-silent again None = tt
taken-silent true (Some grant) = tt
taken-silent false (Some grant) = (refl, refl)

incomplete-silent : (found : Option SlotId) → OrdersNothing (incomplete found)
unfolding incomplete ordered_copy says_restarted
incomplete-silent None = tt
incomplete-silent (Some id) = (refl, refl)

decide_grant-silent : (layout : Shape) (actor : ℕ) (block : BlockId) (slot : ℕ) (again : Bool)
    (m : MetaImage) → IsSilent (decide_grant layout actor block slot again m)
unfolding decide_grant grant_in grant_for_put put_granted ordered_copy says_restarted
decide_grant-silent layout actor block slot again m =
    need-silent Told.Gone _ _ (refl, refl) (λ (row : TreeRow).
    unless-silent _ Told.NoBlock _ (refl, refl)
    (refuse-silent (taken_refusal again _) _ (taken-silent again _)
    (need-silent (Told.NoServer block slot) _ _ (refl, refl) (λ server. (refl, refl)))))

decide_close-silent : (layout : Shape) (actor file : ℕ) (m : MetaImage)
    → IsSilent (decide_close layout actor file m)
unfolding decide_close close_complete ordered_copy says_restarted
decide_close-silent layout actor file m =
    need-silent Told.Gone _ _ (refl, refl)
    (λ (row : TreeRow). refuse-silent (incomplete _) _ (incomplete-silent _) (refl, refl))

decide_abort-silent : (actor file : ℕ) (m : MetaImage) → IsSilent (decide_abort actor file m)
unfolding decide_abort abort_unclosed ordered_copy says_restarted
decide_abort-silent actor file m =
    need-silent Told.Gone _ _ (refl, refl) (λ (row : TreeRow). (refl, refl))

decide_request-silent : (rules : Rules) (actor : ℕ) (m : MetaImage) (request : MetaRequest)
    → IsMetaOfFiles request → IsSilent (decide_request rules actor m request)
unfolding decide_request decide_create decide_open decide_release ordered_copy says_restarted
decide_request-silent rules actor m (Ask.Create path command len) of =
    refuse_file-silent _ _ _ (refl, refl)
decide_request-silent rules actor m (Ask.Grant file index slot again) of =
    decide_grant-silent rules.layout actor _ slot again m
decide_request-silent rules actor m (Ask.Close file) of =
    decide_close-silent rules.layout actor file m
decide_request-silent rules actor m (Ask.Abort file) of = decide_abort-silent actor file m
decide_request-silent rules actor m (Ask.OpenFile path) of = refuse_file-silent _ _ _ (refl, refl)
decide_request-silent rules actor m (Ask.Release lease) of =
    unless-silent _ Told.Gone _ (refl, refl) (refl, refl)
decide_request-silent rules actor m request of = absurd of

take_step-silent : (m next : MetaImage) (reply : MetaReply) (fits : Bool) → IsQuiet reply
    → IsQuiet (take_step m next reply fits).reply
unfolding take_step stays ordered_copy says_restarted
take_step-silent m next reply true silent = silent
take_step-silent m next reply false silent = (refl, refl)

failed-silent : (b : Bool) → IsQuiet (cond b Told.LogFault Told.NoMemory)
unfolding ordered_copy says_restarted
failed-silent true = (refl, refl)
failed-silent false = (refl, refl)

end_step-silent : (m : MetaImage) (decision : Decision) (outcome : Outcome) → IsSilent decision
    → IsQuiet (end_step m decision outcome).reply
unfolding end_step carry_out fail_disks stays ordered_copy says_restarted
end_step-silent m (Tells reply) Ended.Done silent = silent
end_step-silent m (UsesDisks reply) Ended.Done silent = silent
end_step-silent m (Makes changes reply) Ended.Done silent =
    take_step-silent m (apply_all changes m) reply (counters_fit (apply_all changes m)) silent
end_step-silent m (Tells reply) Ended.Failed silent = silent
end_step-silent m (UsesDisks reply) Ended.Failed silent = (refl, refl)
end_step-silent m (Makes changes reply) Ended.Failed silent =
    failed-silent (counters_fit (apply_all changes m))
end_step-silent m decision Ended.NoMemory silent = (refl, refl)

served-silent : (m : MetaImage) (served : Served) (turn : Option ℕ) → IsQuiet served.reply
    → IsQuiet (serve_unless_dropped m served turn).reply
unfolding serve_unless_dropped stays ordered_copy says_restarted
served-silent m served None silent = silent
served-silent m served (Some turn) silent = (refl, refl)

meta_step-silent : (rules : Rules) (actor : ℕ) (request : MetaRequest) (outcome : Outcome)
    (m : MetaImage) → IsMetaOfFiles request
    → IsQuiet (meta_step rules actor request outcome m).reply
unfolding meta_step decide ordered_copy says_restarted
meta_step-silent rules actor request outcome m of =
    served-silent m _ (dropped_at actor m.dropped)
    (end_step-silent m _ outcome
    (unless-silent (in_range (length m.servers) request) Told.Nothing _ (refl, refl)
    (decide_request-silent rules actor m request of)))

-- ---- steps

-- the answer deletes nothing, and is no restart
abbrev IsIdleAt : NodeRequest → NodeReply → Type 0
IsIdleAt request reply = (deleted_by request reply ≡ None) × (has_restarted reply ≡ false)

-- a chunk server that stores or hands out bytes erases nothing
chunk-silent : (world : World) (number : ℕ) (request : ChunkRequest) (outcome : Outcome)
    (found : Option Server) → IsChunkOfFiles request
    → IsIdleAt (To.Chunk number request) (chunk_turn world number request outcome found).reply
unfolding chunk_turn chunk_turned deleted_by erased_at erased_copy has_restarted
chunk-silent world number (Serve.Put key life bytes) outcome None of = (refl, refl)
chunk-silent world number (Serve.Put key life bytes) outcome (Some server) of = (refl, refl)
chunk-silent world number (Serve.Fetch key life from room) outcome None of = (refl, refl)
chunk-silent world number (Serve.Fetch key life from room) outcome (Some server) of = (refl, refl)
chunk-silent world number request outcome found of = absurd of

turn-silent : (world : World) (actor : ℕ) (outcome : Outcome) (request : NodeRequest)
    → IsOfFiles request
    → IsIdleAt request (node_turn world actor outcome request).reply
unfolding node_turn meta_turned deleted_by has_restarted
turn-silent world actor outcome (To.Meta request) of =
    meta_step-silent world.rules actor request outcome world.meta of
turn-silent world actor outcome (To.Chunk number request) of =
    chunk-silent world number request outcome (numbered world.servers number) of

abbrev IsIdle : Event → Type 0
IsIdle event = (deleted_in event ≡ None) × (has_restarted event.reply ≡ false)

abbrev IfIdle : Option Event → Type 0
IfIdle None = Unit {0}
IfIdle (Some event) = IsIdle event

event_by-silent : (world : World) (step : Step) (actor : Actor) (request : Option NodeRequest)
    → IfOfFiles request
    → IfIdle (event_by world step actor request)
unfolding event_by event_asking deleted_in
event_by-silent world step actor None of = tt
event_by-silent world step actor (Some request) of =
    turn-silent world step.actor step.outcome request of

event_in-silent : (world : World) (step : Step) → Each PutsAndGetsOnly world.actors
    → IfIdle (event_in world step)
unfolding event_in
event_in-silent world step only = at (numbered world.actors step.actor) refl
  where
    at : (found : Option Actor) → numbered world.actors step.actor ≡ found
        → IfIdle (event_in world step)
    at None is = rw is tt
    at (Some actor) is =
        rw is (event_by-silent world step actor (request_of actor)
        (request_of-asks actor
        (each_numbered PutsAndGetsOnly world.actors step.actor actor only is)))

-- ---- the actors keep their commands

moved_on-commands : (actor : Actor) (reply : NodeReply) (work : Option Work)
    → (moved_on actor reply work).commands ≡ actor.commands
unfolding moved_on
moved_on-commands actor reply None = refl
moved_on-commands actor reply (Some (ends report)) = refl
moved_on-commands actor reply (Some (asks request next)) = refl

pub after_reply-commands : (actor : Actor) (reply : NodeReply)
    → (after_reply actor reply).commands ≡ actor.commands
unfolding after_reply
after_reply-commands actor reply = moved_on-commands actor reply _

asking-only : (world : World) (number : ℕ) (outcome : Outcome) (actor : Actor)
    (request : Option NodeRequest) → Each PutsAndGetsOnly world.actors
    → PutsAndGetsOnly actor
    → Each PutsAndGetsOnly (move_asking world number outcome actor request).actors
unfolding move_asking handed_over
asking-only world number outcome actor None all own = all
asking-only world number outcome actor (Some request) all own =
    let turned = node_turn world number outcome request in
    each_renumbered PutsAndGetsOnly turned.world.actors number (after_reply actor turned.reply)
    (subst (Each PutsAndGetsOnly) (sym (turn-keeps world number outcome request).actors) all)
    (subst (Each IsPutOrGet) (sym (after_reply-commands actor turned.reply)) own)

move-only : (world : World) (step : Step) → Each PutsAndGetsOnly world.actors
    → Each PutsAndGetsOnly (move world step).actors
unfolding move move_actor
move-only world step all = at (numbered world.actors step.actor) refl
  where
    at : (found : Option Actor) → numbered world.actors step.actor ≡ found
        → Each PutsAndGetsOnly (move world step).actors
    at None is = rw is all
    at (Some actor) is =
        rw is (asking-only world step.actor step.outcome actor (request_of actor) all
        (each_numbered PutsAndGetsOnly world.actors step.actor actor all is))

cons-silent : (first : Option Event) (rest : List Event) → IfIdle first → Each IsIdle rest
    → Each IsIdle (cons_option first rest)
cons-silent None rest f r = r
cons-silent (Some event) rest f r = (f, r)

events_from-silent : (world : World) (order : List Step) → Each PutsAndGetsOnly world.actors
    → Each IsIdle (events_from world order)
unfolding events_from
events_from-silent world [] all = tt
events_from-silent world (step ∷ steps) all =
    cons-silent (event_in world step) (events_from (move world step) steps)
    (event_in-silent world step all)
    (events_from-silent (move world step) steps (move-only world step all))

actors-only : (rules : Rules) (number : ℕ) (all : List (List Command)) → Each (Each IsPutOrGet) all
    → Each PutsAndGetsOnly (numbered_actors rules number all)
unfolding numbered_actors starting
actors-only rules number [] each = tt
actors-only rules number (commands ∷ more) each =
    (each.0, actors-only rules (number + 1) more each.1)

events-silent : (script : Script) (order : List Step) → PutsAndGets script
    → Each IsIdle (events script order)
unfolding events start
events-silent script order all =
    events_from-silent (start script) order (actors-only (rules_of script) 1 _ all)

pub deletes_nothing : (script : Script) (order : List Step) → PutsAndGets script
    → NoDeletion script order
deletes_nothing script order all i n event c at deleted later within =
    let silent : deleted_in event ≡ None =
    (each_at IsIdle (events script order) i event (events-silent script order all) at).0 in
    absurd (cc)

keeps : (event : Event) → IsIdle event → KeepsAtRestart event
keeps event idle restarted = let none = idle.1 in absurd (cc)

pub restarts_nothing : (script : Script) (order : List Step) → PutsAndGets script
    → Each KeepsAtRestart (events script order)
restarts_nothing script order all =
    each_weaker IsIdle KeepsAtRestart keeps (events script order) (events-silent script order all)
