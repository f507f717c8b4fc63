-- The world of the first path at each step: where its actor is, and what holds there. For the law
-- of the first path.
use Rattle.std.proofs.Common.{◌≡◌, ◌⊎◌, ℕ, ◌+◌, ◌*◌, ◌<◌, ◌≤◌, List, [], ◌∷◌, ◌++◌, length, Some}
use Rattle.std.proofs.Common.{None, Ok, refl, sym, ap, subst, ◌∙◌, arith, inl, inr}
use Rattle.std.proofs.lemmas.List.{append-nil, length_push}
use Rattle.std.specs.Prelude.{slice_get}
use Rattle.std.specs.List.{enumerate_from}
use Rattle.std.specs.Option.{option_and_then}
use Rattle.qfs_base.specs.FileReplies.{reply_at}
use Rattle.qfs_base.specs.NameTree.{PathNames}
use Rattle.qfs_base.specs.Rules.{rules_of}
use Rattle.qfs_base.specs.Table.{Each}
use Rattle.qfs_base.specs.declared.command.Command.{Command}
use Rattle.qfs_base.specs.declared.command.Command.TheVariants as Does
use Rattle.qfs_base.specs.declared.command.FileCommand.{FileCommand}
use Rattle.qfs_base.specs.declared.command.FileCommand.TheVariants as File
use Rattle.qfs_base.specs.declared.command.Reply.TheVariants as Says
use Rattle.qfs_base.specs.declared.history.Entry.{Entry}
use Rattle.qfs_base.specs.declared.history.FileReply.TheVariants as Told
use Rattle.qfs_base.specs.declared.history.Outcome.TheVariants as Ended
use Rattle.qfs_base.specs.declared.image.MetaImage.{MetaImage}
use Rattle.qfs_base.specs.declared.reply.MetaReply.TheVariants as Said
use Rattle.qfs_base.specs.declared.reply.NodeReply.{NodeReply}
use Rattle.qfs_base.specs.declared.reply.NodeReply.TheVariants as From
use Rattle.qfs_base.specs.declared.reply.Opened.{Opened}
use Rattle.qfs_base.specs.declared.reply.TreeRefusal.{TreeRefusal}
use Rattle.qfs_base.specs.declared.request.NodeRequest.{NodeRequest}
use Rattle.qfs_base.specs.declared.script.Script.{Script}
use Rattle.qfs_model_actor.specs.Actor.{Actor, work_left, request_of}
use Rattle.qfs_model_actor.specs.Read.{Source}
use Rattle.qfs_model_actor.specs.Work.{Report, Work}
use Rattle.qfs_model_meta.specs.Slots.{slot_at}
use Rattle.qfs_model_server.specs.Server.{Server}
use Rattle.qfs_model_slot.specs.Slot.{slot_of}
use Rattle.qfs_model_world.specs.Agrees.{place_of_report}
use Rattle.qfs_model_world.specs.Events.{Event, event_asking, event_by, event_in}
use Rattle.qfs_model_world.specs.Puts.{command_of, puts_of}
use Rattle.qfs_model_world.specs.World.{World, numbered, move_asking, move_actor, move}
use Rattle.qfs_model_world.proofs.OneActor.{done_step}
use Rattle.qfs_laws_first.proofs.Gets.{later}
use Rattle.qfs_laws_first.proofs.Moves.{heard_more, ended_so, StepTaken}
use Rattle.qfs_laws_first.proofs.Reading.{IsOfOneRow}
use Rattle.qfs_laws_first.proofs.Reports.{HasPlace, IsGood, GoodAt, borne-more, goods-more}
use Rattle.qfs_laws_first.proofs.Reports.{each_enumerated, opened_in, ReadsWhereOpened}
use Rattle.qfs_laws_first.proofs.Reports.{openings-more, no-opening, place-here}
use Rattle.qfs_laws_first.proofs.Servers.{first_chunk, stored_at}
use Rattle.qfs_laws_first.proofs.States.{first_block, first_key, first_copy, granted_once, Between}
use Rattle.qfs_laws_first.proofs.States.{Within, Target, InPut}
use Rattle.qfs_laws_first.proofs.Works.{at_slot, at_store, at_fetch}
use Rattle.qfs_model_meta.specs.Step.{Served, meta_step}
use Rattle.qfs_base.specs.declared.request.MetaRequest.{MetaRequest}

-- ---- where the actor is

-- between two commands, or behind the last one
pub record Resting (script : Script) (servers : List Server) (m : MetaImage) (actor : Actor) : Type
    0 where
  pub silent : actor.heard ≡ []
  pub between : Between script servers m (length actor.ended)

-- in a put, before a slot is granted; slot 9 stands for the end
pub record Granting (script : Script) (servers : List Server) (m : MetaImage) (actor : Actor) : Type
    0 where
  pub t : Target
  pub slot : ℕ
  pub within : slot ≤ 9
  pub left : work_left actor ≡ Some (at_slot script.layout t.bytes t.file slot)
  pub puts : InPut script servers m (length actor.ended) t slot slot
  pub few : length actor.ended ≤ 4096
  pub command : FileCommand
  pub is : command_of script 1 (length actor.ended + 1) ≡ Some (Does.File command)

-- in a put, before a granted slot is stored
pub record Storing (script : Script) (servers : List Server) (m : MetaImage) (actor : Actor) : Type
    0 where
  pub t : Target
  pub slot : ℕ
  pub within : slot < 9
  pub server : ℕ
  pub first : 1 ≤ server
  pub last : server ≤ script.servers
  pub granted : slot_at m.slots (first_block t.file) slot ≡ granted_once server
  pub left : work_left actor ≡ Some (at_store script.layout t.bytes t.file slot server)
  pub puts : InPut script servers m (length actor.ended) t (slot + 1) slot
  pub few : length actor.ended ≤ 4096
  pub command : FileCommand
  pub is : command_of script 1 (length actor.ended + 1) ≡ Some (Does.File command)

-- a slot can be fetched from a server, which has its bytes
pub record CanFetch (script : Script) (servers : List Server) (sources : List Source) (file : ℕ)
    (bytes : List ℕ) (slot : ℕ) : Type 0 where
  pub server : ℕ
  pub first : 1 ≤ server
  pub last : server ≤ script.servers
  pub listed : slice_get sources slot ≡ Some (Ok (first_copy server))
  pub stored : stored_at servers server (first_key file slot)
      ≡ Some (first_chunk (slot_of script.layout bytes 0 slot))

-- in a get, before a slot is fetched; slot 6 stands for the end
pub record Fetching (script : Script) (steps : List Event) (servers : List Server) (m : MetaImage)
    (actor : Actor) (told : List Report) : Type 0 where
  pub o : Opened
  pub again : Report → Work
  pub sources : List Source
  pub bytes : List ℕ
  pub slot : ℕ
  pub within : slot ≤ 6
  pub left : work_left actor ≡ Some (at_fetch script.layout again o sources bytes slot)
  pub reads : Within script servers m (length actor.ended)
  pub few : length actor.ended ≤ 4096
  pub len : o.len ≡ length bytes
  pub short : IsOfOneRow script.layout (length bytes)
  pub copies : (slot : ℕ) → slot < 6 → CanFetch script servers sources o.file bytes slot
  pub path : PathNames
  pub is : command_of script 1 (length actor.ended + 1) ≡ Some (Does.File (File.Get path None))
  pub before : o.place ≤ length m.history
  pub right : reply_at (puts_of script) m.history o.place (File.Get path None) ≡ Told.Read bytes
  pub placed : HasPlace steps (length actor.ended + 1) o.place
  pub told_is : told ≡ actor.ended ++ Says.Read o.place bytes ∷ []

-- the replies that were given, or that a get which has opened its file will have given, are these
abbrev pub Stage : Script → List Event → List Server → MetaImage → Actor → List Report → Type 0
Stage script steps servers m actor told =
    ((told ≡ actor.ended)
    × (Resting script servers m actor
    ⊎ (Granting script servers m actor ⊎ Storing script servers m actor)))
    ⊎ Fetching script steps servers m actor told

-- what the metaserver answers by the rules of the script, it answers by those of the world
pub served-here : (script : Script) (w : World) → w.rules ≡ rules_of script
    → (request : MetaRequest) (served : Served)
    → meta_step (rules_of script) 1 request Ended.Done w.meta ≡ served
    → meta_step w.rules 1 request Ended.Done w.meta ≡ served
served-here script w rules request served is =
    ap (λ rules. meta_step rules 1 request Ended.Done w.meta) rules ∙ is

-- the world after these steps
pub record Run (script : Script) (commands : List Command) (steps : List Event) (w : World) : Type 0
  where
    pub actor : Actor
    pub rules : w.rules ≡ rules_of script
    pub alone : w.actors ≡ actor ∷ []
    pub number : actor.number ≡ 1
    pub own_rules : actor.rules ≡ rules_of script
    pub own_commands : actor.commands ≡ commands
    pub replies : Each (GoodAt script steps w.meta.history) (enumerate_from 1 actor.ended)
    pub told : List Report
    pub openings : Each (ReadsWhereOpened told) steps
    pub stage : Stage script steps w.servers w.meta actor told

-- ---- one step more

-- the step is listed and leads on, or there is none
abbrev pub Next : Script → List Command → List Event → World → Type 0
Next script commands steps w =
    ((event_in w done_step ≡ None) × (move w done_step ≡ w))
    ⊎ ((event : Event) × (event_in w done_step ≡ Some event)
    × Run script commands (steps ++ event ∷ []) (move w done_step))

-- an actor that asks nothing takes no step
pub no-step : (script : Script) (commands : List Command) (steps : List Event) (w : World)
    (actor : Actor) → w.actors ≡ actor ∷ [] → request_of actor ≡ None
    → Next script commands steps w
unfolding event_in event_by numbered move move_actor move_asking
no-step script commands steps w actor alone none =
    inl (
      ap (λ actors. option_and_then (λ actor. event_by w done_step actor (request_of actor))
          (slice_get actors 0)) alone ∙ ap (event_by w done_step actor) none,
      ap (λ actors. move_actor w 1 Ended.Done (slice_get actors 0)) alone
          ∙ ap (move_asking w 1 Ended.Done actor) none,
    )

module _ (script : Script) (commands : List Command) (steps : List Event) (w : World)
    (r : Run script commands steps w) (request : NodeRequest)
    (servers : List Server) (m : MetaImage) (reply : NodeReply) (more : List Entry)
    (written : m.history ≡ w.meta.history ++ more) (told : List Report) where
  abbrev steps_then : List Event
  steps_then = steps ++ event_asking w done_step r.actor request ∷ []

  -- the command goes on
  pub goes-on-with : StepTaken w r.actor request servers m reply (heard_more r.actor reply)
      → Each (ReadsWhereOpened told) steps_then
      → Stage script steps_then servers m (heard_more r.actor reply) told
      → Next script commands steps w
  goes-on-with moved openings stage =
      inr (
        event_asking w done_step r.actor request,
        moved.listed,
        subst (Run script commands steps_then) (sym moved.moved) (record {
          actor = heard_more r.actor reply;
          rules = r.rules;
          alone = refl;
          number = r.number;
          own_rules = r.own_rules;
          own_commands = r.own_commands;
          replies = subst (λ history. Each (GoodAt script steps_then history)
              (enumerate_from 1 r.actor.ended)) (sym written)
              (goods-more script steps (event_asking w done_step r.actor request ∷ [])
              w.meta.history more (enumerate_from 1 r.actor.ended) r.replies);
          told = told;
          openings = openings;
          stage = stage;
        }),
      )

  -- the same where the step opens no file
  pub goes-on-to : StepTaken w r.actor request servers m reply (heard_more r.actor reply)
      → opened_in reply ≡ None → Each (ReadsWhereOpened told) steps
      → Stage script steps_then servers m (heard_more r.actor reply) told
      → Next script commands steps w
  goes-on-to moved none openings stage =
      goes-on-with moved (no-opening told steps _ reply moved.replied none openings) stage

  -- the command has ended
  pub ends-with : (report : Report)
      → StepTaken w r.actor request servers m reply (ended_so r.actor report)
      → opened_in reply ≡ None
      → told ≡ r.actor.ended ++ report ∷ [] → Each (ReadsWhereOpened told) steps
      → IsGood script steps_then (w.meta.history ++ more) (length r.actor.ended + 1) report
      → Between script servers m (length r.actor.ended + 1) → Next script commands steps w
  ends-with report moved none told_is openings good between =
      inr (
        event_asking w done_step r.actor request,
        moved.listed,
        subst (Run script commands steps_then) (sym moved.moved) (record {
          actor = ended_so r.actor report;
          rules = r.rules;
          alone = refl;
          number = r.number;
          own_rules = r.own_rules;
          own_commands = r.own_commands;
          replies = subst (λ history. Each (GoodAt script steps_then history)
              (enumerate_from 1 (r.actor.ended ++ report ∷ []))) (sym written)
              (each_enumerated (GoodAt script steps_then (w.meta.history ++ more)) 1 r.actor.ended
              report
              (goods-more script steps (event_asking w done_step r.actor request ∷ [])
              w.meta.history more (enumerate_from 1 r.actor.ended) r.replies) good);
          told = told;
          openings = no-opening told steps _ reply moved.replied none openings;
          stage = inl (
            told_is,
            inl (record {
              silent = refl;
              between = subst (Between script servers m) (sym (length_push r.actor.ended report))
                  between;
            }),
          );
        }),
      )

module _ (script : Script) (commands : List Command) (steps : List Event) (w : World)
    (r : Run script commands steps w) where
  -- one reply more is told
  pub told-then : r.told ≡ r.actor.ended → (report : Report)
      → Each (ReadsWhereOpened (r.actor.ended ++ report ∷ [])) steps
  told-then told_is report =
      openings-more r.actor.ended report steps
      (subst (λ told. Each (ReadsWhereOpened told) steps) told_is r.openings)

  -- the name tree refused the command
  pub refused-so : (request : NodeRequest) (why : TreeRefusal) (command : FileCommand)
      → r.told ≡ r.actor.ended
      → StepTaken w r.actor request w.servers w.meta
      (From.Meta (Said.Refused why (length w.meta.history)))
      (ended_so r.actor (Says.Refused (length w.meta.history) why))
      → command_of script 1 (length r.actor.ended + 1) ≡ Some (Does.File command)
      → reply_at (puts_of script) w.meta.history (length w.meta.history) command ≡ Told.Refused why
      → Between script w.servers w.meta (length r.actor.ended) → Next script commands steps w
  unfolding place_of_report
  refused-so request why command told_is moved is there between =
      let place : ℕ = length w.meta.history in
      let number : ℕ = length r.actor.ended + 1 in
      ends-with script commands steps w r request w.servers w.meta
      (From.Meta (Said.Refused why place)) [] (sym (append-nil w.meta.history))
      (r.actor.ended ++ Says.Refused place why ∷ []) (Says.Refused place why) moved refl refl
      (told-then told_is (Says.Refused place why))
      (record {
        command = command;
        is = is;
        says = borne-more script w.meta.history [] number command (Says.Refused place why)
            (omega arith, there);
        placed = place-here steps w r.actor request;
      })
      (later script w.servers w.meta (length r.actor.ended) (2 * length r.actor.ended + 1) between
      (2 * (length r.actor.ended + 1) + 1) (omega arith))
