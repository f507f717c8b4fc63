-- The steps of a get, from its first one to its last. For the law of the first path.
use Rattle.std.proofs.Common.{◌≡◌, ℕ, ◌+◌, ◌*◌, ◌<◌, ◌≤◌, Bool, true, false, List, [], ◌∷◌, ◌++◌}
use Rattle.std.proofs.Common.{length, replicate, Option, Some, None, refl, sym, ap, subst, ◌∙◌}
use Rattle.std.proofs.Common.{arith, inl, inr}
use Rattle.std.proofs.lemmas.Bool.{cases_lt}
use Rattle.std.proofs.lemmas.List.{append-nil}
use Rattle.std.specs.Prelude.{slice_get}
use Rattle.qfs_base.specs.EachLaws.{each_append}
use Rattle.qfs_base.specs.FileReplies.{reply_at}
use Rattle.qfs_base.specs.NameTree.{PathNames, look_refusal}
use Rattle.qfs_base.specs.Rules.{tries_of, rules_of}
use Rattle.qfs_base.specs.Shape.{Shape}
use Rattle.qfs_base.specs.declared.command.Command.{Command}
use Rattle.qfs_base.specs.declared.command.Command.TheVariants as Does
use Rattle.qfs_base.specs.declared.command.FileCommand.TheVariants as File
use Rattle.qfs_base.specs.declared.command.Reply.TheVariants as Says
use Rattle.qfs_base.specs.declared.history.FileReply.TheVariants as Told
use Rattle.qfs_base.specs.declared.history.Outcome.TheVariants as Ended
use Rattle.qfs_base.specs.declared.image.MetaImage.{MetaImage}
use Rattle.qfs_base.specs.declared.reply.ChunkAnswer.TheVariants as Did
use Rattle.qfs_base.specs.declared.reply.ChunkReply.{ChunkReply}
use Rattle.qfs_base.specs.declared.reply.MetaReply.{MetaReply}
use Rattle.qfs_base.specs.declared.reply.MetaReply.TheVariants as Said
use Rattle.qfs_base.specs.declared.reply.NodeReply.TheVariants as From
use Rattle.qfs_base.specs.declared.reply.Opened.{Opened}
use Rattle.qfs_base.specs.declared.reply.TreeRefusal.{TreeRefusal}
use Rattle.qfs_base.specs.declared.request.ChunkRequest.TheVariants as Serve
use Rattle.qfs_base.specs.declared.request.MetaRequest.TheVariants as Ask
use Rattle.qfs_base.specs.declared.request.NodeRequest.{NodeRequest}
use Rattle.qfs_base.specs.declared.request.NodeRequest.TheVariants as To
use Rattle.qfs_base.specs.declared.rules.Rules.{Rules}
use Rattle.qfs_base.specs.declared.script.Script.{Script}
use Rattle.qfs_model_actor.specs.Actor.{present_command, work_left}
use Rattle.qfs_model_actor.specs.Command.{file_work, work_of}
use Rattle.qfs_model_actor.specs.Get.{listed_in, get_work}
use Rattle.qfs_model_actor.specs.Read.{Source, sources_of}
use Rattle.qfs_model_actor.specs.Work.{Report, Work, ends, goes_on, request_in}
use Rattle.qfs_model_meta.specs.Apply.{finish_lease, apply, apply_all}
use Rattle.qfs_model_meta.specs.GetRequests.{opened}
use Rattle.qfs_model_meta.specs.Leases.{holds_lease}
use Rattle.qfs_model_meta.specs.Step.{next_turn, meta_step}
use Rattle.qfs_model_meta.specs.TreeRows.{standing}
use Rattle.qfs_model_server.specs.Server.{Server}
use Rattle.qfs_model_slot.specs.Slot.{slot_of}
use Rattle.qfs_model_world.specs.Agrees.{place_of_report}
use Rattle.qfs_model_world.specs.Events.{Event, event_asking}
use Rattle.qfs_model_world.specs.Puts.{command_of, puts_of}
use Rattle.qfs_model_world.specs.World.{World, renumbered}
use Rattle.qfs_model_world.proofs.OneActor.{done_step}
use Rattle.qfs_laws_first.specs.FirstPath.{IsFirstPath}
use Rattle.qfs_laws_first.proofs.Gets.{get-refused-there, get-read-there, closed-file, opened_state}
use Rattle.qfs_laws_first.proofs.Gets.{open-refused, open-served, get-opened, listed-slot}
use Rattle.qfs_laws_first.proofs.Gets.{blocks-one, listed-nine, stays-stored, get-fetched}
use Rattle.qfs_laws_first.proofs.Gets.{released_state, release-served, release-gone-served, later}
use Rattle.qfs_laws_first.proofs.Gets.{get-released}
use Rattle.qfs_laws_first.proofs.Moves.{work_left-heard, work_left-next, meta_goes_on, meta_ends}
use Rattle.qfs_laws_first.proofs.Moves.{chunk_goes_on}
use Rattle.qfs_laws_first.proofs.PutRuns.{short-file}
use Rattle.qfs_laws_first.proofs.Reading.{IsOfOneRow, slot_long}
use Rattle.qfs_laws_first.proofs.Reports.{HasPlace, borne-more, place-more, opened_in}
use Rattle.qfs_laws_first.proofs.Reports.{ReadsWhereOpened, opening-here, place-here}
use Rattle.qfs_laws_first.proofs.Runs.{CanFetch, Fetching, Next, Run, goes-on-to, goes-on-with}
use Rattle.qfs_laws_first.proofs.Runs.{served-here}
use Rattle.qfs_laws_first.proofs.Runs.{ends-with, told-then, refused-so}
use Rattle.qfs_laws_first.proofs.Servers.{IsUp, fetch-hands}
use Rattle.qfs_laws_first.proofs.States.{first_key, first_copy, IsFile, Between}
use Rattle.qfs_laws_first.proofs.Trees.{ClosedAt, closed-at}
use Rattle.qfs_laws_first.proofs.Works.{anew, at_fetch, get-asks, get-refused, get-goes_on}
use Rattle.qfs_laws_first.proofs.Works.{ListsSlots, source-at, fetch-asks, fetch-goes_on}
use Rattle.qfs_laws_first.proofs.Works.{release-asks, release-done, release-gone}

module _ (script : Script) (commands : List Command) (steps : List Event) (w : World)
    (first_path : IsFirstPath script commands) (r : Run script commands steps w) where
  abbrev c : ℕ
  c = length r.actor.ended

  -- ---- OpenFile

  module _ (path : PathNames) (told_is : r.told ≡ r.actor.ended) (silent : r.actor.heard ≡ [])
      (b : Between script w.servers w.meta c)
      (present : present_command r.actor ≡ Some (Does.File (File.Get path None)))
      (is : command_of script 1 (c + 1) ≡ Some (Does.File (File.Get path None)))
      (few : c ≤ 4096) where
    abbrev request : NodeRequest
    request = To.Meta (Ask.OpenFile path)

    abbrev work : Work
    work = get_work script.layout (tries_of script) path None

    left : work_left r.actor ≡ Some work
    unfolding work_of file_work rules_of
    left = work_left-next r.actor (Does.File (File.Get path None)) silent present
        ∙ ap (λ (rules : Rules). Some (get_work rules.layout rules.tries path None)) r.own_rules

    refused : (why : TreeRefusal) → look_refusal (standing w.meta.tree) path ≡ Some why
        → Next script commands steps w
    refused why not_free =
        refused-so script commands steps w r request why (File.Get path None) told_is
        (meta_ends w r.actor work r.alone left (Ask.OpenFile path) w.meta
        (Said.Refused why (length w.meta.history)) (Says.Refused (length w.meta.history) why)
        (get-asks script.layout (tries_of script) path)
        (open-refused script w.servers w.meta c b w.rules path why not_free)
        (get-refused script.layout (tries_of script) path why (length w.meta.history)))
        is (get-refused-there script w.servers w.meta c (2 * c + 1) b path why not_free) b

    written : (file : ℕ) → (opened_state script.term w.meta file).history ≡ w.meta.history
    unfolding next_turn apply_all apply
    written file = refl

    module _ (at : ClosedAt w.meta.tree path)
        (free : look_refusal (standing w.meta.tree) path ≡ None) where
      abbrev o : Opened
      o = opened script.layout at.row w.meta

      abbrev bytes : List ℕ
      bytes = puts_of script at.row.actor at.row.command

      file-here : IsFile script.layout script.servers w.servers w.meta.slots at.row.file at.row.len
          bytes
      file-here = closed-file script w.servers w.meta c (2 * c + 1) b path at

      short-bytes : IsOfOneRow script.layout (length bytes)
      short-bytes = short-file script commands (length bytes) first_path file-here.some
          file-here.most

      short-len : IsOfOneRow script.layout at.row.len
      short-len = subst (IsOfOneRow script.layout) (sym file-here.length_is) short-bytes

      lists : (slot : ℕ) (h : slot < 9)
          → slice_get (listed_in o 0) slot
          ≡ Some (Some (first_copy (file-here.copies slot h).server))
      lists slot h =
          let copy = file-here.copies slot h in
          ap (λ nine. slice_get nine slot)
          (listed-nine script w.servers w.meta c b script.layout at.row short-len)
          ∙ listed-slot script w.servers w.meta c b at.row.file slot copy.server h copy.first
          copy.last copy.current

      lists-slots : ListsSlots (listed_in o 0)
      lists-slots slot below =
          let h : slot < 9 = omega arith in ((file-here.copies slot h).server, lists slot h)

      fetchable : (slot : ℕ) → slot < 6
          → CanFetch script w.servers (sources_of (listed_in o 0)) at.row.file bytes slot
      fetchable slot below =
          let h : slot < 9 = omega arith in
          let copy = file-here.copies slot h in
          record {
            server = copy.server;
            first = copy.first;
            last = copy.last;
            listed = source-at (listed_in o 0) slot copy.server below (lists slot h);
            stored = copy.stored;
          }

      opens-on : o.len ≡ at.row.len → o.place ≡ length w.meta.history → o.file ≡ at.row.file
          → Next script commands steps w
      opens-on len place file =
          let reply : MetaReply = Said.Opened o in
          let sources : List Source = sources_of (listed_in o 0) in
          let few_bytes : o.len ≤ 32 = omega (arith, len, file-here.length_is, file-here.most) in
          let again : Report → Work = anew script.layout (tries_of script) path in
          let more = get-goes_on script.layout (tries_of script) path o bytes
          (subst (IsOfOneRow script.layout) (sym len) short-len) few_bytes
          (blocks-one script w.servers w.meta c b script.layout at.row short-len) lists-slots in
          let start = fetchable 0 (omega arith) in
          let told : List Report = r.actor.ended ++ Says.Read o.place bytes ∷ [] in
          let moved = meta_goes_on w r.actor work r.alone left (Ask.OpenFile path)
          (opened_state script.term w.meta at.row.file) reply
          (To.Chunk start.server
          (Serve.Fetch (first_key o.file 0) 1 0 (replicate script.layout.s 0)))
          (get-asks script.layout (tries_of script) path)
          (served-here script w r.rules (Ask.OpenFile path) _
          (open-served script w.servers w.meta c b path at free few))
          (ap request_in more ∙ fetch-asks script.layout again o sources bytes 0 start.server
          (omega arith) start.listed) in
          goes-on-with script commands steps w r request w.servers
          (opened_state script.term w.meta at.row.file) (From.Meta reply) []
          (written at.row.file ∙ sym (append-nil w.meta.history)) told moved
          (each_append (ReadsWhereOpened told) steps (event_asking w done_step r.actor request ∷ [])
          (told-then script commands steps w r told_is (Says.Read o.place bytes))
          (opening-here w r.actor request o bytes moved.replied place, tt))
          (inr (record {
            o = o;
            again = again;
            sources = sources;
            bytes = bytes;
            slot = 0;
            within = omega arith;
            left = work_left-heard r.actor work (From.Meta reply) left ∙ ap Some more;
            reads = get-opened script w.servers w.meta c b at.row.file;
            few = few;
            len = len ∙ file-here.length_is;
            short = short-bytes;
            copies = λ slot below. subst (λ file. CanFetch script w.servers sources file bytes slot)
                (sym file) (fetchable slot below);
            path = path;
            is = is;
            before = subst (λ history. o.place ≤ length history) (sym (written at.row.file))
                (omega (arith, place));
            right = subst (λ history. reply_at (puts_of script) history o.place (File.Get path None)
                ≡ Told.Read bytes) (sym (written at.row.file))
                (subst (λ p. reply_at (puts_of script) w.meta.history p (File.Get path None)
                ≡ Told.Read bytes) (sym place)
                (get-read-there script w.servers w.meta c (2 * c + 1) b path at free));
            placed = subst (HasPlace (steps ++ event_asking w done_step r.actor request ∷ [])
                (c + 1)) (sym place) (place-here steps w r.actor request);
            told_is = refl;
          }))

      opens : Next script commands steps w
      unfolding opened
      opens = opens-on refl refl refl

    pub get-starts : Next script commands steps w
    get-starts = at (look_refusal (standing w.meta.tree) path) refl
      where
        at : (found : Option TreeRefusal) → look_refusal (standing w.meta.tree) path ≡ found
            → Next script commands steps w
        at None free = opens (closed-at w.meta.tree path free) free
        at (Some why) not_free = refused why not_free

  -- ---- Fetch

  module _ (f : Fetching script steps w.servers w.meta r.actor r.told) where
    abbrev fetch_work : Work
    fetch_work = at_fetch script.layout f.again f.o f.sources f.bytes f.slot

    -- what a get asks before a slot, or at its end
    fetch-asks-some : (slot : ℕ) → slot ≤ 6
        → (request : NodeRequest)
        × (request_in (at_fetch script.layout f.again f.o f.sources f.bytes slot) ≡ Some request)
    fetch-asks-some slot within =
        elim (cases_lt slot 6) [
          | inl below ↦
              let copy = f.copies slot below in (
                To.Chunk copy.server
                    (Serve.Fetch (first_key f.o.file slot) 1 0 (replicate script.layout.s 0)),
                fetch-asks script.layout f.again f.o f.sources f.bytes slot copy.server below
                    copy.listed,
              )
          | inr above ↦
              let end : 6 ≡ slot = omega arith in (
                To.Meta (Ask.Release f.o.lease),
                subst (λ slot. request_in
                    (at_fetch script.layout f.again f.o f.sources f.bytes slot)
                    ≡ Some (To.Meta (Ask.Release f.o.lease))) end
                    (release-asks script.layout f.again f.o f.sources f.bytes f.short f.len),
              )
        ]

    module _ (below : f.slot < 6)
        (copy : CanFetch script w.servers f.sources f.o.file f.bytes f.slot)
        (up : IsUp w.servers copy.server) where
      abbrev slot_bytes : List ℕ
      slot_bytes = slot_of script.layout f.bytes 0 f.slot

      abbrev fetch_request : NodeRequest
      fetch_request = To.Chunk copy.server
          (Serve.Fetch (first_key f.o.file f.slot) 1 0 (replicate script.layout.s 0))

      fetches : Next script commands steps w
      fetches =
          let layout : Shape = script.layout in
          let reply : ChunkReply = record { answer = Did.Fetched; room = slot_bytes } in
          let handed : ℕ = up.server.handed_out + length {A = ℕ} (replicate layout.s 0) in
          let servers : List Server =
          renumbered w.servers copy.server (record up.server { handed_out = handed }) in
          let asks = fetch-asks layout f.again f.o f.sources f.bytes f.slot copy.server below
          copy.listed in
          let more = fetch-goes_on layout f.again f.o f.sources f.bytes f.slot copy.server below
          copy.listed slot_bytes refl (slot_long layout f.bytes f.slot f.short) in
          let then = fetch-asks-some (f.slot + 1) (omega (arith, below)) in
          goes-on-to script commands steps w r fetch_request servers w.meta (From.Chunk reply) []
          (sym (append-nil w.meta.history)) r.told
          (chunk_goes_on w r.actor fetch_work r.alone f.left copy.server
          (Serve.Fetch (first_key f.o.file f.slot) 1 0 (replicate layout.s 0))
          up.server (record up.server { handed_out = handed }) reply then.0 asks up.there
          (fetch-hands w.servers copy.server up (first_key f.o.file f.slot) slot_bytes layout.s
          copy.stored (slot_long layout f.bytes f.slot f.short))
          (ap request_in more ∙ then.1))
          refl r.openings
          (inr (record {
            o = f.o;
            again = f.again;
            sources = f.sources;
            bytes = f.bytes;
            slot = f.slot + 1;
            within = omega (arith, below);
            left = work_left-heard r.actor fetch_work (From.Chunk reply) f.left ∙ ap Some more;
            reads = get-fetched script w.servers w.meta c copy.server handed f.reads up;
            few = f.few;
            len = f.len;
            short = f.short;
            copies = λ slot within.
                let old = f.copies slot within in
                record {
                  server = old.server;
                  first = old.first;
                  last = old.last;
                  listed = old.listed;
                  stored = stays-stored script w.servers w.meta c copy.server handed f.reads up
                      old.server (first_key f.o.file slot) ∙ old.stored;
                };
            path = f.path;
            is = f.is;
            before = f.before;
            right = f.right;
            placed = place-more steps (event_asking w done_step r.actor fetch_request ∷ [])
                (c + 1) f.o.place f.placed;
            told_is = f.told_is;
          }))

    -- ---- Release

    module _ (left : work_left r.actor
        ≡ Some (at_fetch script.layout f.again f.o f.sources f.bytes 6)) where
      abbrev end_work : Work
      end_work = at_fetch script.layout f.again f.o f.sources f.bytes 6

      abbrev release_request : NodeRequest
      release_request = To.Meta (Ask.Release f.o.lease)

      asks-release : request_in end_work ≡ Some release_request
      asks-release = release-asks script.layout f.again f.o f.sources f.bytes f.short f.len

      -- the lease ends, or is gone
      ends-read : (m : MetaImage) (reply : MetaReply) → m.history ≡ w.meta.history
          → opened_in (From.Meta reply) ≡ None
          → meta_step w.rules 1 (Ask.Release f.o.lease) Ended.Done w.meta
          ≡ record { meta = m; reply = reply }
          → goes_on end_work (From.Meta reply) ≡ ends (Says.Read f.o.place f.bytes)
          → Between script w.servers m (c + 1) → Next script commands steps w
      unfolding place_of_report
      ends-read m reply written none served end between =
          let report : Report = Says.Read f.o.place f.bytes in
          ends-with script commands steps w r release_request w.servers m (From.Meta reply) []
          (written ∙ sym (append-nil w.meta.history)) r.told report
          (meta_ends w r.actor end_work r.alone left (Ask.Release f.o.lease) m reply report
          asks-release served end)
          none f.told_is r.openings
          (record {
            command = File.Get f.path None;
            is = f.is;
            says = borne-more script w.meta.history [] (c + 1) (File.Get f.path None) report
                (f.before, f.right);
            placed = place-more steps (event_asking w done_step r.actor release_request ∷ [])
                (c + 1) f.o.place f.placed;
          })
          between

      released-written : (released_state w.meta f.o.lease).history ≡ w.meta.history
      unfolding next_turn apply_all apply finish_lease
      released-written = refl

      releases : Next script commands steps w
      releases = at (holds_lease 1 f.o.lease w.meta.leases) refl
        where
          at : (b : Bool) → holds_lease 1 f.o.lease w.meta.leases ≡ b → Next script commands steps w
          at true holds =
              ends-read (released_state w.meta f.o.lease) (Said.Done (length w.meta.history))
              released-written refl
              (release-served script w.servers w.meta c f.reads w.rules f.o.lease holds f.few)
              (release-done script.layout f.again f.o f.sources f.bytes f.short f.len
              (length w.meta.history)) (get-released script w.servers w.meta c f.reads f.o.lease)
          at false gone =
              ends-read w.meta Said.Gone refl refl
              (release-gone-served script w.servers w.meta c f.reads w.rules f.o.lease gone)
              (release-gone script.layout f.again f.o f.sources f.bytes f.short f.len)
              (later script w.servers w.meta c (2 * c + 2) f.reads (2 * (c + 1) + 1) (omega arith))

    -- a get before a slot, or at its end
    pub get-goes : Next script commands steps w
    get-goes =
        elim (cases_lt f.slot 6) [
          | inl below ↦ let copy = f.copies f.slot below in
              fetches below copy (f.reads.up copy.server copy.first copy.last)
          | inr above ↦
              let end : f.slot ≡ 6 = omega (arith, above, f.within) in
              releases (subst (λ n. work_left r.actor
              ≡ Some (at_fetch script.layout f.again f.o f.sources f.bytes n)) end f.left)
        ]
