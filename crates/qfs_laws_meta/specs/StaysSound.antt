-- A sound metaserver that is asked what may be asked stays sound. The law `stays_sound`.
use Rattle.qfs_base.specs.Sizes.{LAST_U32}
use Rattle.qfs_base.specs.Table.{Each}
use Rattle.qfs_base.specs.declared.chunk.BlockId.{BlockId}
use Rattle.qfs_base.specs.declared.chunk.Copy.{Copy}
use Rattle.qfs_base.specs.declared.image.CondemnedRow.{CondemnedRow}
use Rattle.qfs_base.specs.declared.image.MetaImage.{MetaImage}
use Rattle.qfs_base.specs.declared.image.SlotRecord.{SlotRecord}
use Rattle.qfs_base.specs.declared.image.SlotRow.{SlotRow}
use Rattle.qfs_base.specs.declared.request.MetaRequest.{MetaRequest}
use Rattle.qfs_base.specs.declared.rules.Rules.{Rules}
use Rattle.qfs_model_meta.specs.Asked.{MayAsk, StaysSound}
use Rattle.qfs_model_meta.specs.Counters.{counters_fit}
use Rattle.qfs_model_meta.specs.Decide.{decide, decide_request}
use Rattle.qfs_model_meta.specs.Dropped.{dropped_at}
use Rattle.qfs_model_meta.specs.Grammar.{IsActor}
use Rattle.qfs_model_meta.specs.Past.{Past, remember, was_granted}
use Rattle.qfs_model_meta.specs.Range.{in_range}
use Rattle.qfs_model_meta.specs.Slots.{granted_copy, slot_at}
use Rattle.qfs_model_meta.specs.Sound.{GrantedOnce, IsSound, condemned_of, is_condemned_of}
use Rattle.qfs_model_meta.specs.Sound.{known_copies}
use Rattle.qfs_model_meta.specs.Step.{meta_step}
use Rattle.std.proofs.Common.{List, [], arith, filter, length, map, nat_eq, refl, subst, true, ℕ}
use Rattle.std.proofs.Common.{◌++◌, ◌+◌, ◌<◌, ◌∙◌, ◌∷◌, ◌≡◌, ◌≤◌}
use Rattle.std.proofs.lemmas.Bool.{and_from, eq-eqb, leb-true}
use Rattle.std.specs.Option.{option_to_list}
use Rattle.std.specs.Prelude.{IsTrue}
use Rattle.qfs_base.specs.declared.reply.MetaReply.TheVariants as Told
use Rattle.qfs_base.specs.declared.request.MetaRequest.TheVariants as Ask
use Rattle.qfs_laws_meta.specs.GrantRequests.{move-fine, open-fine, recover-fine}
use Rattle.qfs_laws_meta.specs.Kept.{Keeps}
use Rattle.qfs_laws_meta.specs.Known.{Knows, held}
use Rattle.qfs_laws_meta.specs.KnownChanges.{is_condemned_of-is}
use Rattle.qfs_laws_meta.specs.ManyChanges.{abort-fine, drop-fine, order-fine, remove-fine}
use Rattle.qfs_laws_meta.specs.MoreGrants.{balance-fine, evacuate-fine, grant-fine, heal-fine}
use Rattle.qfs_laws_meta.specs.OneServer.{each-one, one-each}
use Rattle.qfs_laws_meta.specs.Requests.{Fine, step-stays, unless-fine}
use Rattle.qfs_laws_meta.specs.SimpleRequests.{abandon-fine, bye-fine, close-fine, confirm-fine}
use Rattle.qfs_laws_meta.specs.SimpleRequests.{create-fine, hello-fine, hibernate-fine, leave-fine}
use Rattle.qfs_laws_meta.specs.SimpleRequests.{left_on-fine, list-fine, mkdir-fine, release-fine}
use Rattle.qfs_laws_meta.specs.SimpleRequests.{rename-fine, rmdir-fine, swept-fine, tick-fine}
use Rattle.qfs_laws_slots.specs.Changes.{HasVersionsLeft}
use Rattle.qfs_laws_slots.specs.Condemning.{condemned_count, version_of}
use Rattle.qfs_laws_slots.specs.Granted.{Granted}
use Rattle.qfs_laws_slots.specs.Losses.{current_in, pending_in}
use Rattle.qfs_laws_slots.specs.SlotTable.{of-table, table-of}
use Rattle.qfs_laws_slots.specs.Slots.{same_block-self}
use Rattle.qfs_laws_tables.specs.Distinct.{copies, distinct-once, once-distinct, one_if}
use Rattle.qfs_base.specs.EachLaws.{each_append, each_filter, each_weaker}
use Rattle.qfs_laws_tables.specs.EachRow.{each-left, each-right, each_both, each_map}
use Rattle.qfs_laws_tables.specs.EachRow.{each_of_filter, each_of_map, each_passes}
use Rattle.qfs_laws_tables.specs.Sums.{total, total-append, total-filter, total-map}
use Rattle.qfs_laws_tree.specs.Tree.{of-tree, tree-of}

-- ---- the known copies, counted

known-count : (v : ℕ) (block : BlockId) (slot : ℕ) (m : MetaImage)
    → copies v (map (λ (c : Copy). c.version) (known_copies block slot m.slots m.condemned)) ≡ held
    v (slot_at m.slots block slot) + condemned_count v block slot m.condemned
unfolding known_copies condemned_of
known-count v block slot m =
    let state : SlotRecord = slot_at m.slots block slot in
    let rows : List Copy = map (λ (row : CondemnedRow). row.condemned.copy)
    (filter (is_condemned_of block slot) m.condemned) in
    let a = total-map (λ k. one_if (nat_eq k v)) (λ (c : Copy). c.version)
    (option_to_list state.current ++ option_to_list (granted_copy state.grant) ++ rows) in
    let b = total-append (version_of v)
    (option_to_list state.current ++ option_to_list (granted_copy state.grant)) rows in
    let c = total-append (version_of v) (option_to_list state.current)
    (option_to_list (granted_copy state.grant)) in
    let d : total (version_of v) rows ≡ condemned_count v block slot m.condemned = total-map
    (version_of v) (λ (row : CondemnedRow). row.condemned.copy)
    (filter (is_condemned_of block slot) m.condemned) ∙ total-filter
    (λ (row : CondemnedRow). version_of v row.condemned.copy) (is_condemned_of block slot)
    m.condemned in
    a ∙ b ∙ (λ i. c i + d i)

own-condemned : (row : CondemnedRow)
    → is_condemned_of row.condemned.block row.condemned.slot row ≡ true
unfolding is_condemned_of
own-condemned row =
    and_from _ _ (same_block-self row.condemned.block)
    (eq-eqb row.condemned.slot row.condemned.slot refl)

split : (past : Past) (m : MetaImage) (block : BlockId) (slot : ℕ)
    → Each (λ copy. IsTrue (was_granted past.granted block slot copy))
    (known_copies block slot m.slots m.condemned)
    → Each (Granted past block slot) (current_in m.slots block slot) × Each
    (Granted past block slot) (pending_in m.slots block slot) × Each (Granted past block slot)
    (condemned_of block slot m.condemned)
unfolding known_copies
split past m block slot each =
    let left = each-left (Granted past block slot)
    (current_in m.slots block slot ++ pending_in m.slots block slot)
    (condemned_of block slot m.condemned) each in (
      each-left (Granted past block slot) (current_in m.slots block slot)
          (pending_in m.slots block slot) left,
      each-right (Granted past block slot) (current_in m.slots block slot)
          (pending_in m.slots block slot) left,
      each-right (Granted past block slot)
          (current_in m.slots block slot ++ pending_in m.slots block slot)
          (condemned_of block slot m.condemned) each,
    )

joined : (past : Past) (m : MetaImage) (block : BlockId) (slot : ℕ)
    → Each (Granted past block slot) (current_in m.slots block slot)
    → Each (Granted past block slot) (pending_in m.slots block slot)
    → Each (Granted past block slot) (condemned_of block slot m.condemned)
    → Each (λ copy. IsTrue (was_granted past.granted block slot copy))
    (known_copies block slot m.slots m.condemned)
unfolding known_copies
joined past m block slot c g d =
    each_append _ (current_in m.slots block slot ++ pending_in m.slots block slot)
    (condemned_of block slot m.condemned)
    (each_append _ (current_in m.slots block slot) (pending_in m.slots block slot) c g) d

-- what is so of the condemned copies of each slot is so of each row
rows-have : (P : BlockId → ℕ → Copy → Type 0) (rows : List CondemnedRow)
    → ((block : BlockId) (slot : ℕ) → Each (P block slot) (condemned_of block slot rows))
    → Each (λ (row : CondemnedRow). P row.condemned.block row.condemned.slot row.condemned.copy)
    rows
unfolding condemned_of
rows-have P rows each =
    go rows (λ block slot. each_of_filter (λ (row : CondemnedRow). P block slot row.condemned.copy)
    (is_condemned_of block slot) rows
    (each_of_map (P block slot) (λ (row : CondemnedRow). row.condemned.copy)
    (filter (is_condemned_of block slot) rows) (each block slot)))
  where
    go : (rows : List CondemnedRow)
        → ((block : BlockId) (slot : ℕ) → Each
        (λ (row : CondemnedRow). is_condemned_of block slot row ≡ true → P block slot
        row.condemned.copy) rows)
        → Each (λ (row : CondemnedRow). P row.condemned.block row.condemned.slot row.condemned.copy)
        rows
    go [] each = tt
    go (row ∷ rows) each = (
      (each row.condemned.block row.condemned.slot).0 (own-condemned row),
      go rows
          (λ block slot. (each block slot).1),
    )

have-rows : (P : BlockId → ℕ → Copy → Type 0) (rows : List CondemnedRow) (block : BlockId)
    (slot : ℕ)
    → Each (λ (row : CondemnedRow). P row.condemned.block row.condemned.slot row.condemned.copy)
    rows
    → Each (P block slot) (condemned_of block slot rows)
unfolding condemned_of
have-rows P rows block slot each =
    each_map (λ (row : CondemnedRow). (is_condemned_of block slot row ≡ true) × P
    row.condemned.block row.condemned.slot row.condemned.copy) (P block slot)
    (λ (row : CondemnedRow). row.condemned.copy)
    (λ row b. let k = is_condemned_of-is block slot row b.0 in subst
    (λ k. P k slot row.condemned.copy) k.0
    (subst (λ s. P row.condemned.block s row.condemned.copy) k.1 b.1))
    (filter (is_condemned_of block slot) rows)
    (each_both (λ (row : CondemnedRow). is_condemned_of block slot row ≡ true) _
    (filter (is_condemned_of block slot) rows) (each_passes (is_condemned_of block slot) rows)
    (each_filter _ (is_condemned_of block slot) rows each))

knows-of : (past : Past) (m : MetaImage) → GrantedOnce past m → Knows past m
knows-of past m h = record {
  once = h.once;
  of_files = h.of_files;
  behind = h.behind;
  counted = h.counted;
  different = λ v block slot. let d = distinct-once
      (map (λ (c : Copy). c.version) (known_copies block slot m.slots m.condemned))
      (h.different block slot) v in let e = known-count v block slot m in omega arith;
  current = λ block slot. (split past m block slot (h.known block slot)).0;
  pending = λ block slot. (split past m block slot (h.known block slot)).1;
  condemned = rows-have (Granted past) m.condemned
      (λ block slot. (split past m block slot (h.known block slot)).2);
  ordered = h.ordered;
  listed = h.listed;
}

of-knows : (past : Past) (m : MetaImage) → Knows past m → GrantedOnce past m
of-knows past m h = record {
  once = h.once;
  of_files = h.of_files;
  behind = h.behind;
  counted = h.counted;
  different = λ block slot. once-distinct
      (map (λ (c : Copy). c.version) (known_copies block slot m.slots m.condemned))
      (λ v. let d = h.different v block slot in let e = known-count v block slot m in omega arith);
  known = λ block slot. joined past m block slot (h.current block slot) (h.pending block slot)
      (have-rows (Granted past) m.condemned block slot h.condemned);
  ordered = h.ordered;
  listed = h.listed;
}

pub keeps-of : (past : Past) (m : MetaImage) → IsSound past m → Keeps past m
keeps-of past m h = record {
  fits = record {
    some_server = h.image.fits.some_server;
    few_servers = h.image.fits.few_servers;
    first_file = h.image.fits.first_file;
    first_lease = h.image.fits.first_lease;
    tree = tree-of m.next_file m.tree h.image.fits.tree;
    table = table-of (length m.servers) m.next_lease m.tree m.slots h.image.fits.slots;
    rows = record {
      first = h.image.fits.first_condemned;
      leases = h.image.fits.leases;
      rows =
          h.image.fits.condemned;
    };
    dropped = h.image.fits.dropped;
    history = h.image.fits.history;
  };
  knows = knows-of past m h.granted_once;
  lives = h.lives;
  leases = h.leases;
  ordered = h.ordered;
  one = one-each m h.one_server;
  tree = h.tree;
}

pub sound-of : (past : Past) (m : MetaImage) → IsTrue (counters_fit m) → Keeps past m
    → IsSound past m
sound-of past m counters h = record {
  image = record {
    fits = record {
      some_server = h.fits.some_server;
      few_servers = h.fits.few_servers;
      first_file = h.fits.first_file;
      first_lease = h.fits.first_lease;
      first_condemned = h.fits.rows.first;
      tree = of-tree m.next_file m.tree h.fits.tree;
      slots = of-table (length m.servers) m.next_lease m.tree m.slots h.fits.table;
      leases = h.fits.rows.leases;
      condemned = h.fits.rows.rows;
      dropped = h.fits.dropped;
      history = h.fits.history;
    };
    counters = counters;
  };
  granted_once = of-knows past m h.knows;
  lives = h.lives;
  leases = h.leases;
  ordered = h.ordered;
  one_server = each-one m h.one;
  tree = h.tree;
}

-- ---- every request

pub request-fine : (rules : Rules) (actor : ℕ) (past : Past) (m : MetaImage) (request : MetaRequest)
    → Keeps past m → IsTrue (counters_fit m) → HasVersionsLeft m → IsActor actor
    → MayAsk past request → in_range (length m.servers) request ≡ true
    → Fine actor past m (decide_request rules actor m request)
unfolding decide_request in_range remember
request-fine rules actor past m (Ask.Mkdir path) h c left a may range =
    mkdir-fine actor past m path may
request-fine rules actor past m (Ask.Rmdir path) h c left a may range = rmdir-fine actor past m path
request-fine rules actor past m (Ask.Remove path) h c left a may range =
    remove-fine actor past m path
request-fine rules actor past m (Ask.Rename from to) h c left a may range =
    rename-fine actor past m from to may
request-fine rules actor past m (Ask.Create path command len) h c left a may range =
    create-fine actor past m path command len c a may.0 may.1 (leb-true _ _ range)
request-fine rules actor past m (Ask.Grant file index slot again) h c left a may range =
    grant-fine rules.layout actor past m (record { file = file; index = index }) slot again h c a
    left range
request-fine rules actor past m (Ask.Close file) h c left a may range =
    close-fine rules.layout actor past m file h.fits c
request-fine rules actor past m (Ask.Abort file) h c left a may range =
    abort-fine actor past m file h.fits c
request-fine rules actor past m (Ask.OpenFile path) h c left a may range =
    open-fine rules.layout rules.term actor past m path a
request-fine rules actor past m (Ask.Release lease) h c left a may range =
    release-fine actor past m lease
request-fine rules actor past m (Ask.RecoverAt path index slot) h c left a may range =
    recover-fine rules.layout rules.term actor past m path index slot h.fits a left range
request-fine rules actor past m (Ask.HealNext after) h c left a may range =
    heal-fine rules.layout rules.term actor past m after h.fits a left
request-fine rules actor past m (Ask.MoveAt path index slot to) h c left a may range =
    move-fine rules.layout rules.term actor past m path index slot to h.fits a left range
request-fine rules actor past m (Ask.EvacNext server after) h c left a may range =
    evacuate-fine rules.layout rules.term actor past m server after h.fits a left
request-fine rules actor past m Ask.BalanceNext h c left a may range =
    balance-fine rules.layout rules.term actor past m h.fits a left
request-fine rules actor past m (Ask.Confirm block slot version lease) h c left a may range =
    confirm-fine actor past m block slot version lease
request-fine rules actor past m (Ask.Abandon block slot version lease) h c left a may range =
    abandon-fine actor past m block slot version lease
request-fine rules actor past m (Ask.OrderNext after) h c left a may range =
    order-fine actor past m after h
request-fine rules actor past m (Ask.Swept number) h c left a may range =
    swept-fine actor past m number
request-fine rules actor past m (Ask.Hello server life keys) h c left a may range =
    hello-fine actor past m server life keys range may
request-fine rules actor past m (Ask.Bye server) h c left a may range =
    bye-fine actor past m server range
request-fine rules actor past m (Ask.Leave server) h c left a may range =
    leave-fine actor past m server range
request-fine rules actor past m (Ask.Hibernate server ticks) h c left a may range =
    hibernate-fine actor past m server ticks range
request-fine rules actor past m Ask.Tick h c left a may range = tick-fine actor past m
request-fine rules actor past m (Ask.Drop dropped) h c left a may range =
    drop-fine dropped actor past m may h.fits c
request-fine rules actor past m (Ask.List path) h c left a may range = list-fine actor past m path
request-fine rules actor past m (Ask.LeftOn server) h c left a may range =
    left_on-fine actor past m server
request-fine rules actor past m Ask.Checkpoint h c left a may range = refl
request-fine rules actor past m Ask.Restart h c left a may range = refl

pub versions-left : (past : Past) (m : MetaImage) → length past.granted + 1 < LAST_U32
    → Keeps past m → HasVersionsLeft m
versions-left past m left h =
    each_weaker (λ (row : SlotRow). row.state.next ≤ length past.granted + 1)
    (λ (row : SlotRow). row.state.next < LAST_U32) (λ row o. omega arith) m.slots h.knows.counted

-- what is decided on a request that may be asked, in its range or not
pub decide-fine : (rules : Rules) (actor : ℕ) (past : Past) (m : MetaImage) (request : MetaRequest)
    → IsSound past m → length past.granted + 1 < LAST_U32 → IsActor actor → MayAsk past request
    → Fine actor past m (decide rules actor m request)
unfolding decide remember
decide-fine rules actor past m request sound left a may =
    let h = keeps-of past m sound in
    unless-fine actor past m (in_range (length m.servers) request) Told.Nothing
    (decide_request rules actor m request) refl
    (λ range. request-fine rules actor past m request h sound.image.counters
    (versions-left past m left h) a may range)

pub stays-sound : StaysSound
unfolding meta_step
stays-sound rules actor request outcome past m sound left a may =
    let s = step-stays actor past m (decide rules actor m request) outcome
    (dropped_at actor m.dropped) (decide-fine rules actor past m request sound left a may)
    (keeps-of past m sound) sound.image.counters in
    sound-of _ _ s.counters s.keeps
