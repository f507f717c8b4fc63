-- A get opens its file, fetches its slots and releases its lease. For the law of the first path.
use Rattle.std.proofs.Common.{List, None, Some, [], ap, arith, false, length, refl}
use Rattle.std.proofs.Common.{true, ℕ, ◌*◌, ◌+◌, ◌<◌, ◌∙◌, ◌∷◌, ◌≡◌, ◌≤◌}
use Rattle.std.proofs.lemmas.List.FromFn.{length-map-range_with_len}
use Rattle.std.proofs.lemmas.Option.{slice_get-map}
use Rattle.std.specs.Prelude.{slice_get}
use Rattle.std.specs.List.{range_with_len}
use Rattle.qfs_base.specs.FileReplies.{refused_or, wanted_bytes, reply_at}
use Rattle.qfs_base.specs.NameTree.{PathNames, stands_at, add_refusal, look_refusal}
use Rattle.qfs_base.specs.Rules.{rules_of}
use Rattle.qfs_base.specs.Shape.{Shape}
use Rattle.qfs_base.specs.declared.chunk.ChunkKey.{ChunkKey}
use Rattle.qfs_base.specs.declared.command.FileCommand.TheVariants as File
use Rattle.qfs_base.specs.declared.history.FileReply.TheVariants as Says
use Rattle.qfs_base.specs.declared.history.Outcome.TheVariants as Ended
use Rattle.qfs_base.specs.declared.image.MetaImage.{MetaImage}
use Rattle.qfs_base.specs.declared.image.TreeRow.{TreeRow}
use Rattle.qfs_base.specs.declared.recipe.Form.{Form}
use Rattle.qfs_base.specs.declared.reply.MetaReply.TheVariants as Told
use Rattle.qfs_base.specs.declared.reply.TreeRefusal.{TreeRefusal}
use Rattle.qfs_base.specs.declared.request.MetaRequest.TheVariants as Ask
use Rattle.qfs_base.specs.declared.rules.Rules.{Rules}
use Rattle.qfs_base.specs.declared.script.Script.{Script}
use Rattle.qfs_model_actor.specs.Get.{listed_in}
use Rattle.qfs_model_meta.specs.Apply.{finish_lease, apply, apply_all}
use Rattle.qfs_base.specs.declared.change.Change.TheVariants.{GiveLease, EndLease}
use Rattle.qfs_model_meta.specs.Decide.{decide, decide_request}
use Rattle.qfs_model_meta.specs.Decision.{Makes, unless}
use Rattle.qfs_model_meta.specs.GetRequests.{opened, decide_open, decide_release}
use Rattle.qfs_model_meta.specs.Leases.{holds_lease, lease_end}
use Rattle.qfs_model_meta.specs.Lists.{listed_nine, listed_blocks, block_count}
use Rattle.qfs_model_meta.specs.Range.{in_range}
use Rattle.qfs_model_meta.specs.Servers.{server_at, is_live, is_listed, listed_copy}
use Rattle.qfs_model_meta.specs.Slots.{slot_at}
use Rattle.qfs_model_meta.specs.Step.{first_server, next_turn, meta_step}
use Rattle.qfs_model_meta.specs.TreeRows.{standing, row_path, row_at}
use Rattle.qfs_model_server.specs.Server.{Server}
use Rattle.qfs_model_world.specs.Puts.{puts_of}
use Rattle.qfs_model_world.specs.World.{renumbered}
use Rattle.qfs_laws_first.proofs.Histories.{is-history, written-later}
use Rattle.qfs_laws_first.proofs.Kept.{file-kept, view-first}
use Rattle.qfs_laws_first.proofs.MetaSteps.{refused-file, accepted-file, AreFew, few-more}
use Rattle.qfs_laws_first.proofs.MetaSteps.{step-makes, step-tells}
use Rattle.qfs_laws_first.proofs.Reading.{IsOfOneRow, blocks_of-one}
use Rattle.qfs_laws_first.proofs.Servers.{IsUp, stored_at, stored-same, are_up-changed}
use Rattle.qfs_laws_first.proofs.States.{first_block, first_key, first_copy, IsFile, IsRow, Steady}
use Rattle.qfs_laws_first.proofs.States.{Between, Within}
use Rattle.qfs_laws_first.proofs.Works.{place-of}
use Rattle.qfs_laws_first.proofs.Trees.{ClosedAt, row-found}
use Rattle.qfs_base.specs.EachLaws.{each_weaker}
use Rattle.qfs_laws_tables.specs.EachRow.{found_has}
use Rattle.qfs_laws_tree.specs.TreeReplies.{reply-at-end, tree_reply}
use Rattle.qfs_base.specs.declared.command.FileCommand.{FileCommand}
use Rattle.qfs_base.specs.declared.history.FileReply.{FileReply}

-- ---- replies at the end of the history

module _ (script : Script) (servers : List Server) (m : MetaImage) (commands most : ℕ)
    (s : Steady script servers m commands most) where
  replies-there : (command : FileCommand)
      → reply_at (puts_of script) m.history (length m.history) command
      ≡ tree_reply (puts_of script) m.tree command
  replies-there command =
      reply-at-end (puts_of script) m command (is-history script m commands s.written)

  -- what a refused put and a refused get answer there
  pub put-refused-there : (path : PathNames) (recipe : Form) (why : TreeRefusal)
      → add_refusal (standing m.tree) path ≡ Some why
      → reply_at (puts_of script) m.history (length m.history) (File.Put path recipe)
      ≡ Says.Refused why
  unfolding refused_or
  put-refused-there path recipe why refused =
      replies-there (File.Put path recipe) ∙ ap (refused_or Says.Accepted) refused

  -- the bytes of the put that made the row at a path
  abbrev read_there : PathNames → FileReply
  read_there path = Says.Read (wanted_bytes
      (puts_of script (row_at m.tree path).actor (row_at m.tree path).command) None)

  pub get-refused-there : (path : PathNames) (why : TreeRefusal)
      → look_refusal (standing m.tree) path ≡ Some why
      → reply_at (puts_of script) m.history (length m.history) (File.Get path None)
      ≡ Says.Refused why
  unfolding refused_or
  get-refused-there path why refused =
      replies-there (File.Get path None) ∙ ap (refused_or (read_there path)) refused

  row-here : (path : PathNames) (c : ClosedAt m.tree path)
      → IsRow script servers m.slots m.next_file c.row
  row-here path c = (found_has (IsRow script servers m.slots m.next_file) (stands_at row_path path)
      m.tree c.row c.found s.rows).0

  -- what a get of a closed file answers there: the bytes of the put that closed it
  pub get-read-there : (path : PathNames) (c : ClosedAt m.tree path)
      → look_refusal (standing m.tree) path ≡ None
      → reply_at (puts_of script) m.history (length m.history) (File.Get path None)
      ≡ Says.Read (puts_of script c.row.actor c.row.command)
  unfolding refused_or wanted_bytes
  get-read-there path c free =
      replies-there (File.Get path None) ∙ ap (refused_or (read_there path)) free
      ∙ ap (λ (row : TreeRow). Says.Read (puts_of script row.actor row.command))
      (row-found m.tree path c)

  -- the closed file is whole
  pub closed-file : (path : PathNames) (c : ClosedAt m.tree path)
      → IsFile script.layout script.servers servers m.slots c.row.file c.row.len
      (puts_of script c.row.actor c.row.command)
  closed-file path c = (row-here path c).whole c.closed

  -- one command more has ended
  pub later : (more : ℕ) → most ≤ more → Steady script servers m (commands + 1) more
  later more less = record {
    as_first = s.as_first;
    none_dropped = s.none_dropped;
    up = s.up;
    few = few-more most more m.next_file m.next_lease m.next_condemned (length m.history) less
        s.few;
    written = written-later script m.history m.tree m.next_file commands s.written;
    rows = s.rows;
    slots_below = s.slots_below;
    none_to_come = s.none_to_come;
  }

-- ---- OpenFile

-- the state once a file is open, under a lease for a term
abbrev pub opened_state : ℕ → MetaImage → ℕ → MetaImage
opened_state term m file = next_turn (apply_all (GiveLease 1 file (lease_end term m.clock) ∷ []) m)

module _ (script : Script) (servers : List Server) (m : MetaImage) (commands : ℕ)
    (b : Between script servers m commands) where
  pub open-refused : (rules : Rules) (path : PathNames) (why : TreeRefusal)
      → look_refusal (standing m.tree) path ≡ Some why
      → meta_step rules 1 (Ask.OpenFile path) Ended.Done m
      ≡ record { meta = m; reply = Told.Refused why (length m.history) }
  unfolding decide in_range unless decide_request decide_open
  open-refused rules path why refused =
      step-tells rules m (Ask.OpenFile path) b.none_dropped (Told.Refused why (length m.history))
      (refused-file (length m.history) _ why _ refused)

  open-few : (file : ℕ)
      → AreFew (2 * commands + 2)
      (apply_all (GiveLease 1 file (lease_end script.term m.clock) ∷ []) m)
  unfolding apply_all apply
  open-few file = record {
    files = omega (arith, b.few.files);
    leases = omega (arith, b.few.leases);
    condemned =
        omega (arith, b.few.condemned);
    entries = omega (arith, b.few.entries);
  }

  pub open-served : (path : PathNames) (c : ClosedAt m.tree path)
      → look_refusal (standing m.tree) path ≡ None → commands ≤ 4096
      → meta_step (rules_of script) 1 (Ask.OpenFile path) Ended.Done m
      ≡ record {
        meta = opened_state script.term m c.row.file;
        reply =
            Told.Opened (opened script.layout c.row m);
      }
  unfolding rules_of decide in_range unless decide_request decide_open
  open-served path c free few =
      step-makes (rules_of script) m (Ask.OpenFile path) b.none_dropped
      (GiveLease 1 c.row.file (lease_end script.term m.clock) ∷ [])
      (Told.Opened (opened script.layout c.row m)) (2 * commands + 2)
      (accepted-file (length m.history) (look_refusal (standing m.tree) path) _ free
      ∙ ap (λ (row : TreeRow). Makes (GiveLease 1 row.file (lease_end script.term m.clock) ∷ [])
      (Told.Opened (opened script.layout row m))) (row-found m.tree path c))
      (open-few c.row.file) (omega (arith, few))

  -- the get has its lease
  pub get-opened : (file : ℕ) → Within script servers (opened_state script.term m file) commands
  unfolding next_turn apply_all apply
  get-opened file = record {
    as_first = b.as_first;
    none_dropped = b.none_dropped;
    up = b.up;
    few = open-few file;
    written = b.written;
    rows = b.rows;
    slots_below = b.slots_below;
    none_to_come = b.none_to_come;
  }

  -- ---- what is listed

  listed-first : (server : ℕ) → 1 ≤ server → server ≤ script.servers
      → listed_copy m.servers (Some (first_copy server)) ≡ Some (first_copy server)
  unfolding listed_copy is_listed is_live first_server
  listed-first server first last =
      let view : server_at m.servers server ≡ first_server =
      ap (λ views. server_at views server) b.as_first
      ∙ view-first script.servers server first last in
      rw view refl

  pub listed-slot : (file slot server : ℕ) → slot < 9 → 1 ≤ server → server ≤ script.servers
      → (slot_at m.slots (first_block file) slot).current ≡ Some (first_copy server)
      → slice_get (listed_nine m.servers m.slots (first_block file)) slot
      ≡ Some (Some (first_copy server))
  unfolding listed_nine
  listed-slot file slot server below first last current =
      slice_get-map (λ slot. listed_copy m.servers
      (slot_at m.slots (first_block file) slot).current) (range_with_len 0 9) slot
      ∙ rw (place-of slot below) (ap (λ found. Some (listed_copy m.servers found)) current
      ∙ ap Some (listed-first server first last))

  pub blocks-one : (layout : Shape) (row : TreeRow) → IsOfOneRow layout row.len
      → length (opened layout row m).blocks ≡ 1
  unfolding opened listed_blocks
  blocks-one layout row short = length-map-range_with_len _ 0 (block_count layout row.len)
      ∙ blocks_of-one layout row.len short

  pub listed-nine : (layout : Shape) (row : TreeRow) → IsOfOneRow layout row.len
      → listed_in (opened layout row m) 0 ≡ listed_nine m.servers m.slots (first_block row.file)
  unfolding opened listed_blocks
  listed-nine layout row short = rw (blocks_of-one layout row.len short) refl

-- ---- Fetch

module _ (script : Script) (servers : List Server) (m : MetaImage) (commands server more : ℕ)
    (r : Within script servers m commands) (u : IsUp servers server) where
  abbrev handed : Server
  handed = record u.server { handed_out = more }

  pub stays-stored : (other : ℕ) (key : ChunkKey)
      → stored_at (renumbered servers server handed) other key ≡ stored_at servers other key
  stays-stored other key = stored-same servers server other u.server handed key u.there refl

  pub get-fetched : Within script (renumbered servers server handed) m commands
  get-fetched = record {
    as_first = r.as_first;
    none_dropped = r.none_dropped;
    up = are_up-changed servers server u handed u.up u.life u.form script.servers r.up;
    few = r.few;
    written = r.written;
    rows = each_weaker (IsRow script servers m.slots m.next_file)
        (IsRow script (renumbered servers server handed) m.slots m.next_file) (λ row is. record {
          above = is.above;
          below = is.below;
          whole = λ closed. file-kept script.layout script.servers servers
              (renumbered servers server handed) m.slots m.slots row.file row.len _
              (λ slot within. refl) (λ other slot. stays-stored other (first_key row.file slot))
              (is.whole closed);
        })
        m.tree r.rows;
    slots_below = r.slots_below;
    none_to_come = λ other key above. stays-stored other key ∙ r.none_to_come other key above;
  }

-- ---- Release

-- the state once a lease ended
abbrev pub released_state : MetaImage → ℕ → MetaImage
released_state m lease = next_turn (apply_all (EndLease lease ∷ []) m)

module _ (script : Script) (servers : List Server) (m : MetaImage) (commands : ℕ)
    (r : Within script servers m commands) where
  release-few : (lease : ℕ) → AreFew (2 * commands + 2) (apply_all (EndLease lease ∷ []) m)
  unfolding apply_all apply finish_lease
  release-few lease = r.few

  pub release-served : (rules : Rules) (lease : ℕ) → holds_lease 1 lease m.leases ≡ true
      → commands ≤ 4096
      → meta_step rules 1 (Ask.Release lease) Ended.Done m
      ≡ record { meta = released_state m lease; reply = Told.Done (length m.history) }
  unfolding decide in_range unless decide_request decide_release
  release-served rules lease holds few =
      step-makes rules m (Ask.Release lease) r.none_dropped (EndLease lease ∷ [])
      (Told.Done (length m.history)) (2 * commands + 2)
      (ap (λ b. unless b Told.Gone (Makes (EndLease lease ∷ []) (Told.Done (length m.history))))
      holds) (release-few lease) (omega (arith, few))

  pub release-gone-served : (rules : Rules) (lease : ℕ) → holds_lease 1 lease m.leases ≡ false
      → meta_step rules 1 (Ask.Release lease) Ended.Done m ≡ record { meta = m; reply = Told.Gone }
  unfolding decide in_range unless decide_request decide_release
  release-gone-served rules lease gone =
      step-tells rules m (Ask.Release lease) r.none_dropped Told.Gone
      (ap (λ b. unless b Told.Gone (Makes (EndLease lease ∷ []) (Told.Done (length m.history))))
      gone)

  -- the world is between two commands
  pub get-released : (lease : ℕ) → Between script servers (released_state m lease) (commands + 1)
  unfolding next_turn apply_all apply finish_lease
  get-released lease =
      later script servers m commands (2 * commands + 2) r (2 * (commands + 1) + 1) (omega arith)
