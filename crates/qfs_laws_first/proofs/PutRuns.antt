-- The steps of a put, from its first one to its last. For the law of the first path.
use Rattle.std.proofs.Common.{◌≡◌, ℕ, ◌+◌, ◌*◌, ◌<◌, ◌≤◌, false, List, [], ◌∷◌, ◌++◌, length}
use Rattle.std.proofs.Common.{Option, Some, None, refl, sym, ap, subst, ◌∙◌, arith, inl, inr}
use Rattle.std.proofs.Common.{add-one}
use Rattle.std.proofs.lemmas.Bool.{cases_lt}
use Rattle.std.proofs.lemmas.List.{append-nil, length-append}
use Rattle.std.specs.Prelude.{slice_get}
use Rattle.std.specs.Option.{option_and_then, option_map}
use Rattle.qfs_base.specs.ListLaws.{slice_get-last}
use Rattle.qfs_base.specs.NameTree.{PathNames, add_refusal}
use Rattle.qfs_base.specs.Rules.{rules_of}
use Rattle.qfs_base.specs.Shape.{Shape}
use Rattle.qfs_base.specs.declared.command.Command.{Command}
use Rattle.qfs_base.specs.declared.command.Command.TheVariants as Does
use Rattle.qfs_base.specs.declared.command.FileCommand.TheVariants as File
use Rattle.qfs_base.specs.declared.command.Reply.TheVariants as Says
use Rattle.qfs_base.specs.declared.history.Entry.{Entry}
use Rattle.qfs_base.specs.declared.history.Entry.TheVariants as Wrote
use Rattle.qfs_base.specs.declared.recipe.Form.TheVariants as Of
use Rattle.qfs_base.specs.declared.reply.ChunkAnswer.TheVariants as Did
use Rattle.qfs_base.specs.declared.reply.MetaReply.{MetaReply}
use Rattle.qfs_base.specs.declared.reply.MetaReply.TheVariants as Said
use Rattle.qfs_base.specs.declared.reply.NodeReply.TheVariants as From
use Rattle.qfs_base.specs.declared.reply.TreeRefusal.{TreeRefusal}
use Rattle.qfs_base.specs.declared.request.ChunkRequest.TheVariants as Serve
use Rattle.qfs_base.specs.declared.request.MetaRequest.TheVariants as Ask
use Rattle.qfs_base.specs.declared.request.NodeRequest.{NodeRequest}
use Rattle.qfs_base.specs.declared.request.NodeRequest.TheVariants as To
use Rattle.qfs_base.specs.declared.rules.Rules.{Rules}
use Rattle.qfs_base.specs.declared.script.Script.{Script}
use Rattle.qfs_model_actor.specs.Actor.{present_command, work_left}
use Rattle.qfs_model_actor.specs.Command.{file_work, work_of}
use Rattle.qfs_model_actor.specs.Put.{put_work}
use Rattle.qfs_model_actor.specs.Work.{Report, Work, request_in}
use Rattle.qfs_model_meta.specs.Apply.{write_entry, add_file, grant_slot, with_slots, apply}
use Rattle.qfs_model_meta.specs.Apply.{apply_all}
use Rattle.qfs_model_meta.specs.PutRequests.{chosen_for_put}
use Rattle.qfs_model_meta.specs.Slots.{never_granted, slot_at}
use Rattle.qfs_model_meta.specs.Step.{next_turn}
use Rattle.qfs_model_meta.specs.TreeRows.{standing}
use Rattle.qfs_model_slot.specs.Slot.{slot_of}
use Rattle.qfs_model_world.specs.Agrees.{place_of_report}
use Rattle.qfs_model_world.specs.Events.{Event}
use Rattle.qfs_model_world.specs.Puts.{PutCommand, command_of, put_in, put_of, put_path, puts_of}
use Rattle.qfs_model_world.specs.World.{World, numbered, renumbered}
use Rattle.qfs_laws_first.specs.FirstPath.{IsFirstPath}
use Rattle.qfs_laws_first.proofs.Chosen.{IsChosen}
use Rattle.qfs_laws_first.proofs.Gets.{put-refused-there}
use Rattle.qfs_laws_first.proofs.Moves.{work_left-heard, work_left-next, meta_goes_on, meta_ends}
use Rattle.qfs_laws_first.proofs.Moves.{chunk_goes_on}
use Rattle.qfs_laws_first.proofs.PutCloses.{closed_state, close-served, put-closed}
use Rattle.qfs_laws_first.proofs.PutCreates.{created_state, create-refused, create-made, create-few}
use Rattle.qfs_laws_first.proofs.PutCreates.{put-created}
use Rattle.qfs_laws_first.proofs.PutGrants.{grant_on, granted_state, grant-served, grant-chosen}
use Rattle.qfs_laws_first.proofs.PutGrants.{granted-now, put-granted}
use Rattle.qfs_laws_first.proofs.PutStores.{none-stored, put-stored}
use Rattle.qfs_laws_first.proofs.Reading.{IsOfOneRow}
use Rattle.qfs_laws_first.proofs.Reports.{place-here}
use Rattle.qfs_laws_first.proofs.Runs.{Granting, Next, Run, Storing, ends-with, goes-on-to}
use Rattle.qfs_laws_first.proofs.Runs.{served-here}
use Rattle.qfs_laws_first.proofs.Runs.{told-then, refused-so}
use Rattle.qfs_laws_first.proofs.Servers.{IsUp, with_copy, put-stores}
use Rattle.qfs_laws_first.proofs.States.{first_block, first_key, granted_once, Between, InPut}
use Rattle.qfs_laws_first.proofs.Works.{at_slot, at_store, put-asks, put-refused, put-goes_on}
use Rattle.qfs_laws_first.proofs.Works.{slot-asks, slot-goes_on, store-asks, store-goes_on}
use Rattle.qfs_laws_first.proofs.Works.{close-asks, close-ends}

-- ---- the commands of the script

-- the command of a number is that of the one actor
pub command-at : (script : Script) (commands : List Command) (ended : ℕ) (command : Command)
    → script.phases ≡ (commands ∷ []) ∷ []
    → slice_get commands ended ≡ Some command → command_of script 1 (ended + 1) ≡ Some command
unfolding command_of numbered
command-at script commands ended command alone at = rw (alone, add-one ended) at

module _ (script : Script) (number : ℕ) (path : PathNames) (bytes : List ℕ)
    (is : command_of script 1 number ≡ Some (Does.File (File.Put path (Of.Hex bytes)))) where
  put-at : put_of script 1 number ≡ Some (record { path = path; bytes = bytes })
  unfolding put_of put_in
  put-at = ap (option_and_then put_in) is

  pub path-at : put_path script 1 number ≡ Some path
  unfolding put_path
  path-at = ap (option_map (λ (put : PutCommand). put.path)) put-at

  pub bytes-at : puts_of script 1 number ≡ bytes
  unfolding puts_of
  bytes-at = rw put-at refl

-- a file of 1 to 32 bytes has one row
pub short-file : (script : Script) (commands : List Command) (len : ℕ) → IsFirstPath script commands
    → 1 ≤ len → len ≤ 32 → IsOfOneRow script.layout len
short-file script commands len first some most = record {
  some = omega (arith, some);
  most = omega (arith, most, first.stripe.0);
  rows = first.rows.0;
}

-- a put at a slot asks something
pub slot-asks-some : (layout : Shape) (bytes : List ℕ) (file slot : ℕ) → slot ≤ 9
    → (request : NodeRequest) × (request_in (at_slot layout bytes file slot) ≡ Some request)
slot-asks-some layout bytes file slot within =
    elim (cases_lt slot 9) [
      | inl below ↦ (To.Meta (Ask.Grant file 0 slot false), slot-asks layout bytes file slot below)
      | inr above ↦
          let end : 9 ≡ slot = omega arith in (
            To.Meta (Ask.Close file),
            subst (λ slot. request_in (at_slot layout bytes file slot)
                ≡ Some (To.Meta (Ask.Close file))) end (close-asks layout bytes file),
          )
    ]

module _ (script : Script) (commands : List Command) (steps : List Event) (w : World)
    (first_path : IsFirstPath script commands) (r : Run script commands steps w) where
  -- the number of the present command's steps' history
  abbrev c : ℕ
  c = length r.actor.ended

  -- ---- Create

  module _ (path : PathNames) (bytes : List ℕ) (told_is : r.told ≡ r.actor.ended)
      (silent : r.actor.heard ≡ []) (b : Between script w.servers w.meta c)
      (present : present_command r.actor ≡ Some (Does.File (File.Put path (Of.Hex bytes))))
      (is : command_of script 1 (c + 1) ≡ Some (Does.File (File.Put path (Of.Hex bytes))))
      (few : c ≤ 4096) (some : 1 ≤ length bytes) (most : length bytes ≤ 32) where
    abbrev request : NodeRequest
    request = To.Meta (Ask.Create path (c + 1) (length bytes))

    abbrev work : Work
    work = put_work script.layout (c + 1) path bytes

    left : work_left r.actor ≡ Some work
    unfolding work_of file_work rules_of
    left = work_left-next r.actor (Does.File (File.Put path (Of.Hex bytes))) silent present
        ∙ ap (λ (rules : Rules). Some (put_work rules.layout (c + 1) path bytes)) r.own_rules

    refused : (why : TreeRefusal) → add_refusal (standing w.meta.tree) path ≡ Some why
        → Next script commands steps w
    refused why not_free =
        refused-so script commands steps w r request why (File.Put path (Of.Hex bytes)) told_is
        (meta_ends w r.actor work r.alone left (Ask.Create path (c + 1) (length bytes)) w.meta
        (Said.Refused why (length w.meta.history)) (Says.Refused (length w.meta.history) why)
        (put-asks script.layout (c + 1) path bytes)
        (create-refused w.rules w.meta path (c + 1) (length bytes) b.none_dropped most why not_free)
        (put-refused script.layout (c + 1) path bytes why (length w.meta.history)))
        is (put-refused-there script w.servers w.meta c (2 * c + 1) b path
        (Of.Hex bytes) why not_free) b

    written : (created_state w.meta path (c + 1) (length bytes)).history ≡ w.meta.history
        ++ Wrote.Created w.meta.next_file path ∷ []
    unfolding next_turn apply_all apply add_file write_entry
    written = refl

    accepted : add_refusal (standing w.meta.tree) path ≡ None → Next script commands steps w
    accepted free =
        let place : ℕ = length w.meta.history in
        let file : ℕ = w.meta.next_file in
        let short = short-file script commands (length bytes) first_path some most in
        let reply : MetaReply = Said.Created file place in
        let more = put-goes_on script.layout (c + 1) path bytes file place short in
        goes-on-to script commands steps w r request w.servers
        (created_state w.meta path (c + 1) (length bytes)) (From.Meta reply)
        (Wrote.Created file path ∷ []) written r.told
        (meta_goes_on w r.actor work r.alone left (Ask.Create path (c + 1) (length bytes))
        (created_state w.meta path (c + 1) (length bytes)) reply
        (To.Meta (Ask.Grant file 0 0 false)) (put-asks script.layout (c + 1) path bytes)
        (create-made w.rules w.meta path (c + 1) (length bytes) b.none_dropped most (2 * c + 2) free
        (create-few script w.servers w.meta c path bytes b) (omega (arith, few)))
        (ap request_in more ∙ slot-asks script.layout bytes file 0 (omega arith)))
        refl r.openings
        (inl (
          told_is,
          inr (inl (record {
            t = record { file = file; path = path; bytes = bytes };
            slot = 0;
            within = omega arith;
            left = work_left-heard r.actor work (From.Meta reply) left ∙ ap Some more;
            puts = put-created script w.servers w.meta c path bytes b free
                (path-at script (c + 1) path bytes is) (bytes-at script (c + 1) path bytes is) some
                most;
            few = few;
            command = File.Put path (Of.Hex bytes);
            is = is;
          })),
        ))

    pub put-starts : Next script commands steps w
    put-starts = at (add_refusal (standing w.meta.tree) path) refl
      where
        at : (found : Option TreeRefusal) → add_refusal (standing w.meta.tree) path ≡ found
            → Next script commands steps w
        at None free = accepted free
        at (Some why) not_free = refused why not_free

  -- ---- Grant

  module _ (told_is : r.told ≡ r.actor.ended) (g : Granting script w.servers w.meta r.actor)
      (below : g.slot < 9) where
    abbrev grant_request : NodeRequest
    grant_request = To.Meta (Ask.Grant g.t.file 0 g.slot false)

    abbrev grant_work : Work
    grant_work = at_slot script.layout g.t.bytes g.t.file g.slot

    grant-written : (server : ℕ) → (granted_state w.meta g.t.file g.slot server).history
        ≡ w.meta.history
    unfolding next_turn apply_all apply grant_slot with_slots
    grant-written server = refl

    granted-then : (server : ℕ) → 1 ≤ server → server ≤ script.servers
        → slot_at (granted_state w.meta g.t.file g.slot server).slots (first_block g.t.file) g.slot
        ≡ granted_once server
    unfolding next_turn apply_all apply grant_slot with_slots
    granted-then server first last =
        granted-now script w.servers w.meta c g.t g.slot g.puts below server first last

    grants-on : IsChosen script.servers
        (chosen_for_put (first_block g.t.file) g.slot w.meta.servers w.meta.slots never_granted)
        → Next script commands steps w
    grants-on chosen =
        let layout : Shape = script.layout in
        let server : ℕ = chosen.server in
        let short = short-file script commands (length g.t.bytes) first_path g.puts.target.some
        g.puts.target.most in
        let reply : MetaReply =
        Said.Granted (grant_on layout (length g.t.bytes) g.t.file g.slot server) in
        let more = slot-goes_on layout g.t.bytes g.t.file g.slot server below in
        goes-on-to script commands steps w r grant_request w.servers
        (granted_state w.meta g.t.file g.slot server) (From.Meta reply) []
        (grant-written server ∙ sym (append-nil w.meta.history)) r.told
        (meta_goes_on w r.actor grant_work r.alone g.left (Ask.Grant g.t.file 0 g.slot false)
        (granted_state w.meta g.t.file g.slot server) reply
        (To.Chunk server (Serve.Put (first_key g.t.file g.slot) 1
        (slot_of layout g.t.bytes 0 g.slot)))
        (slot-asks layout g.t.bytes g.t.file g.slot below)
        (served-here script w r.rules (Ask.Grant g.t.file 0 g.slot false) _
        (grant-served script w.servers w.meta c g.t g.slot g.puts below server short g.few
        chosen.first chosen.last chosen.chosen))
        (ap request_in more ∙ store-asks layout g.t.bytes g.t.file g.slot server))
        refl r.openings
        (inl (
          told_is,
          inr (inr (record {
            t = g.t;
            slot = g.slot;
            within = below;
            server = server;
            first = chosen.first;
            last = chosen.last;
            granted = granted-then server chosen.first chosen.last;
            left = work_left-heard r.actor grant_work (From.Meta reply) g.left ∙ ap Some more;
            puts = put-granted script w.servers w.meta c g.t g.slot g.puts below server chosen.first
                chosen.last;
            few = g.few;
            command = g.command;
            is = g.is;
          })),
        ))

    pub put-grants : Next script commands steps w
    put-grants = grants-on
        (grant-chosen script w.servers w.meta c g.t g.slot g.puts below first_path.enough)

  -- ---- Put

  module _ (told_is : r.told ≡ r.actor.ended) (s : Storing script w.servers w.meta r.actor) where
    abbrev key_bytes : List ℕ
    key_bytes = slot_of script.layout s.t.bytes 0 s.slot

    abbrev store_request : NodeRequest
    store_request = To.Chunk s.server (Serve.Put (first_key s.t.file s.slot) 1 key_bytes)

    abbrev store_work : Work
    store_work = at_store script.layout s.t.bytes s.t.file s.slot s.server

    stores-on : IsUp w.servers s.server → Next script commands steps w
    stores-on up =
        let layout : Shape = script.layout in
        let key = first_key s.t.file s.slot in
        let more = store-goes_on layout s.t.bytes s.t.file s.slot s.server in
        let then = slot-asks-some layout s.t.bytes s.t.file (s.slot + 1)
        (omega (arith, s.within)) in
        goes-on-to script commands steps w r store_request
        (renumbered w.servers s.server (with_copy up.server key key_bytes)) w.meta
        (From.Chunk (record { answer = Did.Stored; room = [] })) []
        (sym (append-nil w.meta.history)) r.told
        (chunk_goes_on w r.actor store_work r.alone s.left s.server (Serve.Put key 1 key_bytes)
        up.server (with_copy up.server key key_bytes)
        (record { answer = Did.Stored; room = [] }) then.0
        (store-asks layout s.t.bytes s.t.file s.slot s.server) up.there
        (put-stores w.servers s.server up key key_bytes
        (none-stored script w.servers w.meta c s.t s.slot s.puts s.server s.first s.last s.granted
        up))
        (ap request_in more ∙ then.1))
        refl r.openings
        (inl (
          told_is,
          inr (inl (record {
            t = s.t;
            slot = s.slot + 1;
            within = omega (arith, s.within);
            left = work_left-heard r.actor store_work
                (From.Chunk (record { answer = Did.Stored; room = [] })) s.left ∙ ap Some more;
            puts = put-stored script w.servers w.meta c s.t s.slot s.puts s.server s.first s.last
                s.granted up;
            few = s.few;
            command = s.command;
            is = s.is;
          })),
        ))

    pub put-stores-on : Next script commands steps w
    put-stores-on = stores-on (s.puts.steady.up s.server s.first s.last)

  -- ---- Close

  module _ (told_is : r.told ≡ r.actor.ended) (g : Granting script w.servers w.meta r.actor)
      (p : InPut script w.servers w.meta c g.t 9 9)
      (left : work_left r.actor ≡ Some (at_slot script.layout g.t.bytes g.t.file 9)) where
    abbrev close_request : NodeRequest
    close_request = To.Meta (Ask.Close g.t.file)

    close-written : (closed_state w.meta g.t.file (c + 1)).history ≡ w.meta.history
        ++ Wrote.Closed g.t.file 1 (c + 1) ∷ []
    unfolding next_turn apply_all apply write_entry with_slots
    close-written = refl

    pub put-closes : Next script commands steps w
    unfolding place_of_report
    put-closes =
        let layout : Shape = script.layout in
        let place : ℕ = length w.meta.history in
        let entry : Entry = Wrote.Closed g.t.file 1 (c + 1) in
        let short = short-file script commands (length g.t.bytes) first_path g.puts.target.some
        g.puts.target.most in
        let long = length-append w.meta.history (entry ∷ []) in
        let report : Report = Says.Stored place (length g.t.bytes) in
        ends-with script commands steps w r close_request w.servers
        (closed_state w.meta g.t.file (c + 1)) (From.Meta (Said.Done place)) (entry ∷ [])
        close-written (r.actor.ended ++ report ∷ []) report
        (meta_ends w r.actor (at_slot layout g.t.bytes g.t.file 9) r.alone left (Ask.Close g.t.file)
        (closed_state w.meta g.t.file (c + 1)) (Said.Done place)
        report (close-asks layout g.t.bytes g.t.file)
        (served-here script w r.rules (Ask.Close g.t.file) _
        (close-served script w.servers w.meta c g.t p short g.few))
        (close-ends layout g.t.bytes g.t.file place))
        refl refl (told-then script commands steps w r told_is report)
        (record {
          command = g.command;
          is = g.is;
          says = (
            omega (arith, long),
            record {
              file = g.t.file;
              written = slice_get-last w.meta.history entry;
              length_is =
                  ap length (sym g.puts.target.bytes_are);
            },
          );
          placed = place-here steps w r.actor close_request;
        })
        (put-closed script w.servers w.meta c g.t p)

  -- a put before a slot, or at its end
  pub put-goes : r.told ≡ r.actor.ended → Granting script w.servers w.meta r.actor
      → Next script commands steps w
  put-goes told_is g =
      elim (cases_lt g.slot 9) [
        | inl below ↦ put-grants told_is g below
        | inr above ↦
            let end : g.slot ≡ 9 = omega (arith, above, g.within) in
            put-closes told_is g (subst (λ n. InPut script w.servers w.meta c g.t n n) end g.puts)
            (subst (λ n. work_left r.actor ≡ Some (at_slot script.layout g.t.bytes g.t.file n)) end
            g.left)
      ]
