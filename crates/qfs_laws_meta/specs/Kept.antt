-- A state that keeps to its past, between two changes as behind them: every change that may be made
-- keeps it. For the law `stays_sound`.
use Rattle.qfs_base.specs.Sizes.{LAST_U16, MOST_SERVERS}
use Rattle.qfs_base.specs.Table.{Each, IsRising}
use Rattle.qfs_base.specs.declared.change.Change.{Change}
use Rattle.qfs_base.specs.declared.change.Change.TheVariants.{AbortFile, AddDirectory, AddFile}
use Rattle.qfs_base.specs.declared.change.Change.TheVariants.{ClockTicks, CloseFile, CondemnStray}
use Rattle.qfs_base.specs.declared.change.Change.TheVariants.{ConfirmSlot, DropActor, EmptySlot}
use Rattle.qfs_base.specs.declared.change.Change.TheVariants.{EndLease, FailGrant, GiveLease}
use Rattle.qfs_base.specs.declared.change.Change.TheVariants.{GiveUp, GrantSlot, MarkOrdered}
use Rattle.qfs_base.specs.declared.change.Change.TheVariants.{MovePath, RemoveFile, ServerDown}
use Rattle.qfs_base.specs.declared.change.Change.TheVariants.{ServerLeaves, ServerSleeps, ServerUp}
use Rattle.qfs_base.specs.declared.change.Change.TheVariants.{TakeCondemned, TakeDirectory}
use Rattle.qfs_base.specs.declared.chunk.BlockId.{BlockId}
use Rattle.qfs_base.specs.declared.chunk.ChunkKey.{ChunkKey}
use Rattle.qfs_base.specs.declared.chunk.Copy.{Copy}
use Rattle.qfs_base.specs.declared.image.CondemnedRow.{CondemnedRow}
use Rattle.qfs_base.specs.declared.image.DroppedActor.{DroppedActor}
use Rattle.qfs_base.specs.declared.image.Grant.{Grant}
use Rattle.qfs_base.specs.declared.image.MetaImage.{MetaImage}
use Rattle.qfs_base.specs.declared.image.ServerView.{ServerView}
use Rattle.qfs_base.specs.declared.image.SlotRecord.{SlotRecord}
use Rattle.qfs_base.specs.declared.image.SlotRow.{SlotRow}
use Rattle.qfs_base.specs.declared.image.TreeRow.{TreeRow}
use Rattle.qfs_model_meta.specs.Apply.{add_file, apply, bring_up, change_record, condemn_stray}
use Rattle.qfs_model_meta.specs.Apply.{condemn_unknown, confirm_slot, empty_slot, fail_grant}
use Rattle.qfs_model_meta.specs.Apply.{finish_lease, give_up, grant_slot, with_slots, write_entry}
use Rattle.qfs_model_meta.specs.Condemned.{condemn_any, forget_if_risen, mark_ordered, sweep}
use Rattle.qfs_model_meta.specs.Dropped.{add_dropped, dropped_cmp}
use Rattle.qfs_model_meta.specs.Grammar.{IsActor, IsCondemnedList, IsDroppedList, IsEntry}
use Rattle.qfs_model_meta.specs.Grammar.{IsLeaseList, IsServer}
use Rattle.qfs_model_meta.specs.Past.{GivenLease, ListedCopy, Past, SlotCopy, with_copy}
use Rattle.qfs_model_meta.specs.Servers.{change_server, server_asleep, server_at, server_down}
use Rattle.qfs_model_meta.specs.Servers.{server_leaving, server_up}
use Rattle.qfs_model_meta.specs.Slots.{granted_copy, never_granted, slot_at, slot_cmp}
use Rattle.qfs_model_meta.specs.Sound.{IsLetGo, LeasesHold, LivesRise, TreeIsHistory, is_lease_of}
use Rattle.qfs_model_meta.specs.TreeRows.{close_file, closed_file, directory_row, file_row}
use Rattle.qfs_model_meta.specs.TreeRows.{file_stands, has_file, is_unclosed_of, is_unclosed_row}
use Rattle.qfs_model_meta.specs.TreeRows.{standing, unclosed_file}
use Rattle.std.proofs.Common.{Bool, List, None, Option, Some, ap, arith, false, find, length}
use Rattle.std.proofs.Common.{nat_lt, refl, subst, sym, true, ℕ, ◌&&◌, ◌+◌, ◌<◌, ◌==◌, ◌∙◌, ◌≡◌}
use Rattle.std.proofs.Common.{◌≢◌, ◌≤◌}
use Rattle.std.proofs.lemmas.Bool.{and_parts, eqb-true}
use Rattle.std.specs.Cmp.{IsTotalOrder, nat_cmp_total, on_total}
use Rattle.std.specs.List.{list_any}
use Rattle.std.specs.Option.{option_to_list}
use Rattle.std.specs.Prelude.{IsTrue, is_some}
use Rattle.qfs_base.specs.declared.lists.NameKind.TheVariants as Is
use Rattle.qfs_laws_meta.specs.Known.{Knows}
use Rattle.qfs_laws_meta.specs.KnownChanges.{StandsBack, TreeBack, kept-knows}
use Rattle.qfs_laws_meta.specs.LeaseLaws.{NeedsBare, kept-leases, lease-of}
use Rattle.qfs_laws_meta.specs.LetGo.{kept-let_go}
use Rattle.qfs_laws_meta.specs.Lives.{kept-lives}
use Rattle.qfs_laws_meta.specs.OneServer.{KnownLife, OneEach, copies_of, kept-one}
use Rattle.qfs_laws_slots.specs.Changes.{MayAbort, MayClose, MayCondemn, MayGrant, MayMake, told}
use Rattle.qfs_laws_slots.specs.Condemning.{condemn-cases, condemn_any-frame}
use Rattle.qfs_laws_slots.specs.Granted.{Granted, granted-has}
use Rattle.qfs_laws_slots.specs.Lists.{HasRows, HasOne, leases-ended, leases-given, rows-condemned}
use Rattle.qfs_laws_slots.specs.Lists.{rows-condemned_any, rows-ended, rows-filtered, rows-given}
use Rattle.qfs_laws_slots.specs.Lists.{rows-marked}
use Rattle.qfs_laws_slots.specs.Losing.{IsLosing, losing-frame, stray-frame}
use Rattle.qfs_laws_slots.specs.RowKeys.{own-file}
use Rattle.qfs_laws_slots.specs.Servers.{change-length}
use Rattle.qfs_laws_slots.specs.SlotTable.{HasTable, bare-of, slot-fits, slot-small}
use Rattle.qfs_laws_slots.specs.SlotTable.{table-forgotten, table-granted, table-later}
use Rattle.qfs_laws_slots.specs.SlotTable.{table-losing, table-onward, table-sealed}
use Rattle.qfs_laws_slots.specs.Slots.{rows-found}
use Rattle.qfs_base.specs.EachLaws.{each_append, each_weaker}
use Rattle.qfs_laws_tables.specs.EachRow.{each_place, each_push, found_has}
use Rattle.qfs_laws_tables.specs.InOrder.{place_rises}
use Rattle.qfs_laws_tables.specs.SomeRow.{any_each, none-there}
use Rattle.qfs_laws_tree.specs.Files.{closed-after, closed-root, emptied-root, not-closed, path-of}
use Rattle.qfs_laws_tree.specs.Files.{source-path, unclosed-rows, without_file-back}
use Rattle.qfs_laws_tree.specs.History.{IsUnclosedFile, history-aborted, history-closed}
use Rattle.qfs_laws_tree.specs.History.{history-directory, history-file, history-moved}
use Rattle.qfs_laws_tree.specs.History.{history-removed, history-taken}
use Rattle.qfs_laws_tree.specs.Move.{move-back, move-onward, move-tree}
use Rattle.qfs_laws_tree.specs.Stands.{added-back, added-onward, closing-back, closing-onward}
use Rattle.qfs_laws_tree.specs.Stands.{directory-off, emptied-onward, file-off, removed-gone}
use Rattle.qfs_laws_tree.specs.Stands.{removed-onward, taken-back, without_file-gone}
use Rattle.qfs_laws_tree.specs.Stands.{without_file-onward}
use Rattle.qfs_laws_tree.specs.Tree.{HasTree, RowIs}
use Rattle.qfs_laws_tree.specs.TreeChanges.{stands-below, tree-added, tree-closed, tree-emptied}
use Rattle.qfs_laws_tree.specs.TreeChanges.{tree-removed, tree-without_file}
use Rattle.qfs_laws_tree.specs.TreeFacts.{add-free, look-closed, none-at, rmdir-empty}

-- the parts that are about the image alone, but for the counters
pub record Fits (m : MetaImage) : Type 0 where
  pub some_server : 1 ≤ length m.servers
  pub few_servers : length m.servers ≤ MOST_SERVERS
  pub first_file : 1 ≤ m.next_file
  pub first_lease : 1 ≤ m.next_lease
  pub tree : HasTree m.next_file m.tree
  pub table : HasTable (length m.servers) m.next_lease m.tree m.slots
  pub rows : HasRows m
  pub dropped : IsDroppedList m.dropped
  pub history : Each IsEntry m.history

pub record Keeps (past : Past) (m : MetaImage) : Type 0 where
  pub fits : Fits m
  pub knows : Knows past m
  pub lives : LivesRise past m
  pub leases : LeasesHold past m
  pub ordered : Each (IsLetGo past m) past.ordered
  pub one : OneEach m.servers m.slots
  pub tree : TreeIsHistory m

-- ---- files that are closed or given up

pub unclosed-of : (m : MetaImage) (file actor command : ℕ) → MayClose m file actor command → Fits m
    → IsUnclosedFile file m.tree × Each
    (λ (row : TreeRow). row.file ≡ file → (row.actor ≡ actor) × (row.command ≡ command)) m.tree
    × IsActor actor × (command ≤ LAST_U16)
unfolding unclosed_file is_unclosed_of
unclosed-of m file actor command may f =
    let r = found_has (RowIs m.next_file) _ m.tree may.row may.found f.tree.rows in
    let p = and_parts (is_unclosed_row may.row && (may.row.actor == actor)) (has_file file may.row)
    r.1 in
    let q = and_parts (is_unclosed_row may.row) (may.row.actor == actor) p.0 in
    let by : may.row.actor ≡ actor = eqb-true _ _ q.1 in
    let u = unclosed-rows m.next_file file _ m.tree may.row f.tree may.found
    (own-file file may.row p.1) q.0 in (
      u.0,
      each_weaker (λ (r : TreeRow). r.file ≡ file → r ≡ may.row)
          (λ (row : TreeRow). row.file ≡ file → (row.actor ≡ actor) × (row.command ≡ command))
          (λ row e own. (
            ap (λ (x : TreeRow). x.actor) (e own) ∙ by,
            ap (λ (x : TreeRow). x.command)
                (e own) ∙ may.made,
          )) m.tree u.1,
      subst IsActor by (r.0.maker (numbered (own-file file may.row p.1) u.0.some)).0,
      subst (λ n. n ≤ LAST_U16) may.made
          (r.0.maker (numbered (own-file file may.row p.1) u.0.some)).1,
    )
  where
    numbered : may.row.file ≡ file → 0 < file → may.row.file ≢ 0
    numbered own some z = omega arith

pub aborted-of : (m : MetaImage) (file : ℕ) → MayAbort m file → Fits m → IsUnclosedFile file m.tree
aborted-of m file may f =
    one (find (λ (row : TreeRow). is_unclosed_row row && (has_file file row)) m.tree) refl
  where
    one : (o : Option TreeRow)
        → find (λ (row : TreeRow). is_unclosed_row row && (has_file file row)) m.tree ≡ o
        → IsUnclosedFile file m.tree
    one None e =
        absurd (none-there (λ (row : TreeRow). is_unclosed_row row && (has_file file row)) m.tree e
        may.unclosed)
    one (Some row) e =
        let r = found_has (RowIs m.next_file) _ m.tree row e f.tree.rows in
        let p = and_parts (is_unclosed_row row) (has_file file row) r.1 in
        (unclosed-rows m.next_file file _ m.tree row f.tree e (own-file file row p.1) p.0).0

-- ---- condemned copies of slots that lose them

rows-slots : (m n : MetaImage) → n.servers ≡ m.servers → n.leases ≡ m.leases
    → n.next_lease ≡ m.next_lease → n.condemned ≡ m.condemned → n.next_condemned ≡ m.next_condemned
    → HasRows m → HasRows n
rows-slots m n a b c d e h = record {
  first = omega (arith, h.first);
  leases = subst (λ k. IsLeaseList k n.leases) (sym c)
      (subst (λ ls. IsLeaseList m.next_lease ls) (sym b) h.leases);
  rows = subst (λ vs. IsCondemnedList (length vs) n.next_condemned n.leases n.condemned) (sym a)
      (subst (λ k. IsCondemnedList (length m.servers) k n.leases n.condemned) (sym e)
      (subst (λ ls. IsCondemnedList (length m.servers) m.next_condemned ls n.condemned) (sym b)
      (subst (λ rs. IsCondemnedList (length m.servers) m.next_condemned m.leases rs) (sym d)
      h.rows)));
}

current-small : (m : MetaImage) (block : BlockId) (slot : ℕ) → Fits m → (o : Option Copy)
    → (slot_at m.slots block slot).current ≡ o → HasOne o → slot < 9
unfolding never_granted
current-small m block slot f None is some = absurd some
current-small m block slot f (Some copy) is some =
    slot-small (length m.servers) m.next_lease m.tree m.slots block slot (λ st. st.current) refl
    copy f.table is

pending-small : (m : MetaImage) (block : BlockId) (slot : ℕ) → Fits m → (o : Option Copy)
    → granted_copy (slot_at m.slots block slot).grant ≡ o → HasOne o → slot < 9
unfolding never_granted granted_copy
pending-small m block slot f None is some = absurd some
pending-small m block slot f (Some copy) is some =
    slot-small (length m.servers) m.next_lease m.tree m.slots block slot
    (λ st. granted_copy st.grant) refl copy f.table is

current-servers : (m : MetaImage) (block : BlockId) (slot : ℕ) → Fits m
    → Each (λ (copy : Copy). IsServer (length m.servers) copy.server)
    (option_to_list (slot_at m.slots block slot).current)
current-servers m block slot f =
    each_weaker (λ (copy : Copy). IsServer (length m.servers) copy.server × IsTrue
    (is_some (closed_file block.file m.tree))) _ (λ c p. p.0)
    (option_to_list (slot_at m.slots block slot).current)
    (slot-fits (length m.servers) m.next_lease m.tree m.slots block slot f.table).current

pending-servers : (m : MetaImage) (block : BlockId) (slot : ℕ) → Fits m
    → Each (λ (copy : Copy). IsServer (length m.servers) copy.server)
    (option_to_list (granted_copy (slot_at m.slots block slot).grant))
pending-servers m block slot f =
    (slot-fits (length m.servers) m.next_lease m.tree m.slots block slot f.table).pending

granted-some : (found : Option Grant) (grant : Grant) → found ≡ Some grant
    → granted_copy found ≡ Some grant.copy
unfolding granted_copy
granted-some found grant is = ap granted_copy is

rows-given_up : (block : BlockId) (slot : ℕ) (m : MetaImage) (found : Option Grant)
    → (slot_at m.slots block slot).grant ≡ found → Fits m → HasRows (give_up block slot m found)
unfolding give_up change_record with_slots condemn_any
rows-given_up block slot m None is f = f.rows
rows-given_up block slot m (Some grant) is f =
    let at : granted_copy (slot_at m.slots block slot).grant ≡ Some grant.copy = granted-some _
    grant is in
    rows-slots (condemn_any block slot m (Some grant.copy)) _ refl refl refl refl refl
    (rows-condemned_any block slot m (Some grant.copy)
    (λ some. pending-small m block slot f (Some grant.copy) at some)
    (subst (λ o. Each (λ (copy : Copy). IsServer (length m.servers) copy.server) (option_to_list o))
    at (pending-servers m block slot f)) f.rows)

rows-failed : (block : BlockId) (slot : ℕ) (m : MetaImage) (found : Option Grant)
    → (slot_at m.slots block slot).grant ≡ found → Fits m → HasRows (fail_grant block slot m found)
unfolding fail_grant change_record with_slots
rows-failed block slot m None is f = f.rows
rows-failed block slot m (Some grant) is f =
    rows-slots (give_up block slot m (Some grant)) _ refl refl refl refl refl
    (rows-given_up block slot m (Some grant) is f)

rows-losing : (m : MetaImage) (change : Change) → IsLosing change → Fits m
    → HasRows (apply m change)
unfolding apply confirm_slot empty_slot change_record with_slots
rows-losing m (FailGrant block slot) is f = rows-failed block slot m _ refl f
rows-losing m (GiveUp block slot) is f = rows-given_up block slot m _ refl f
rows-losing m (ConfirmSlot block slot) is f =
    rows-slots (condemn_any block slot m (slot_at m.slots block slot).current)
    (confirm_slot block slot m (slot_at m.slots block slot)) refl refl refl refl refl
    (rows-condemned_any block slot m _ (current-small m block slot f _ refl)
    (current-servers m block slot f) f.rows)
rows-losing m (EmptySlot block slot) is f =
    let n : MetaImage = condemn_any block slot m (slot_at m.slots block slot).current in
    rows-slots (condemn_any block slot n (granted_copy (slot_at m.slots block slot).grant))
    (empty_slot block slot m (slot_at m.slots block slot)) refl refl refl refl refl
    (rows-condemned_any block slot n _ (pending-small m block slot f _ refl)
    (subst (λ (k : MetaImage). Each (λ (copy : Copy). IsServer (length k.servers) copy.server)
    (option_to_list (granted_copy (slot_at m.slots block slot).grant)))
    (sym (condemn_any-frame block slot m (slot_at m.slots block slot).current).is)
    (pending-servers m block slot f))
    (rows-condemned_any block slot m _ (current-small m block slot f _ refl)
    (current-servers m block slot f) f.rows))
rows-losing m _ is f = absurd is

-- only slots and condemned copies change
fits-slots : (m n : MetaImage)
    → n ≡ record m { slots = n.slots; condemned = n.condemned; next_condemned = n.next_condemned }
    → HasTable (length m.servers) m.next_lease m.tree n.slots → HasRows n → Fits m → Fits n
fits-slots m n frame table rows f =
    subst Fits (sym frame) (record {
      some_server = f.some_server;
      few_servers = f.few_servers;
      first_file = f.first_file;
      first_lease = f.first_lease;
      tree = f.tree;
      table = table;
      rows = subst HasRows frame rows;
      dropped = f.dropped;
      history = f.history;
    })

-- the tree and its slots change, with an entry of the history
fits-tree : (m n : MetaImage)
    → n ≡ record m { next_file = n.next_file; tree = n.tree; slots = n.slots; history = n.history }
    → m.next_file ≤ n.next_file
    → HasTree n.next_file n.tree → HasTable (length m.servers) m.next_lease n.tree n.slots → Each
    IsEntry n.history → Fits m → Fits n
fits-tree m n frame more tree table history f =
    subst Fits (sym frame) (record {
      some_server = f.some_server;
      few_servers = f.few_servers;
      first_file = trans _ _ _ f.first_file more;
      first_lease = f.first_lease;
      tree = tree;
      table = table;
      rows = record { first = f.rows.first; leases = f.rows.leases; rows = f.rows.rows };
      dropped = f.dropped;
      history = history;
    })
  where
    trans : (a b c : ℕ) → a ≤ b → b ≤ c → a ≤ c
    trans a b c p q = omega arith

fits-servers : (m : MetaImage) (servers : List ServerView) (rows : List CondemnedRow)
    → length servers ≡ length m.servers
    → IsCondemnedList (length m.servers) m.next_condemned m.leases rows → Fits m
    → Fits (record m { servers = servers; condemned = rows })
fits-servers m servers rows same list f = record {
  some_server = omega (arith, f.some_server);
  few_servers = omega (arith, f.few_servers);
  first_file = f.first_file;
  first_lease = f.first_lease;
  tree = f.tree;
  table = subst (λ n. HasTable n m.next_lease m.tree m.slots) (sym same) f.table;
  rows = record {
    first = f.rows.first;
    leases = f.rows.leases;
    rows = subst
        (λ n. IsCondemnedList n m.next_condemned m.leases rows) (sym same) list;
  };
  dropped = f.dropped;
  history = f.history;
}

risen-rows : (server : ℕ) (m : MetaImage) (b : Bool) → Fits m
    → IsCondemnedList (length m.servers) m.next_condemned m.leases
    (forget_if_risen server m.condemned b)
unfolding forget_if_risen
risen-rows server m true f =
    rows-filtered (length m.servers) m.next_condemned m.leases _ m.condemned f.rows.rows
risen-rows server m false f = f.rows.rows

swept-rows : (number : ℕ) (m : MetaImage) → Fits m
    → IsCondemnedList (length m.servers) m.next_condemned m.leases (sweep number m.condemned)
unfolding sweep
swept-rows number m f =
    rows-filtered (length m.servers) m.next_condemned m.leases _ m.condemned f.rows.rows

stray-rows : (past : Past) (server life : ℕ) (key : ChunkKey) (m : MetaImage)
    → MayCondemn past m server life key → HasRows m → HasRows (condemn_stray server life key m)
unfolding condemn_stray condemn_unknown
stray-rows past server life key m may h = one _
  where
    copy : Copy
    copy = record { server = server; life = life; version = key.version }

    one : (b : Bool) → HasRows (condemn_unknown key.block key.slot copy m b)
    one true = h
    one false =
        condemn-cases HasRows key.block key.slot copy m (λ _. h)
        (λ _. rows-condemned key.block key.slot copy m may.slot_number may.server_number h)

dropped_total : IsTotalOrder dropped_cmp
unfolding dropped_cmp
dropped_total = on_total (λ d. d.actor) nat_cmp_total

no-zero : (n : ℕ) → 1 ≤ n → n ≡ 0 → ⊥
no-zero n low z = omega arith

same-slots : (m n : MetaImage)
    → n ≡ record m { condemned = n.condemned; next_condemned = n.next_condemned }
    → record m { condemned = n.condemned; next_condemned = n.next_condemned } ≡ record m
    { slots = n.slots; condemned = n.condemned; next_condemned = n.next_condemned }
same-slots m n frame =
    ap (λ rows. record m {
      slots = rows;
      condemned = n.condemned;
      next_condemned = n.next_condemned;
    }) (sym (ap (λ (k : MetaImage). k.slots) frame))

granted-fits : (block : BlockId) (slot server actor lease : ℕ) (m : MetaImage)
    → MayGrant m block slot server actor lease → Fits m
    → Fits (grant_slot block slot server actor lease m)
unfolding grant_slot with_slots
granted-fits block slot server actor lease m may f =
    fits-slots m (grant_slot block slot server actor lease m) refl
    (table-granted block slot server actor lease m may f.table)
    (rows-slots m (grant_slot block slot server actor lease m) refl refl refl refl refl f.rows) f

pub kept-fits : (past : Past) (m : MetaImage) (change : Change) → MayMake past m change → Fits m
    → Fits (apply m change)
unfolding apply write_entry add_file with_slots finish_lease bring_up add_dropped directory_row
    file_row
kept-fits past m (AddDirectory path) may f =
    let none = none-at m.tree path (add-free (standing m.tree) path may.free).1 in
    fits-tree m _ refl (omega arith)
    (tree-added m.next_file m.next_file (directory_row path) m.tree may.free
    (record {
      path = may.is_path;
      no_root = none.0;
      plain = λ _. (refl, refl, refl, refl);
      number =
          λ some. absurd (omega arith);
      len = omega arith;
      maker = λ file. absurd (file refl);
    })
    (omega arith) (λ some. absurd (omega arith)) f.tree)
    (table-onward (length m.servers) m.next_lease m.tree _ m.slots
    (added-onward (directory_row path) m.tree may.free) f.table)
    (each_push IsEntry m.history _ f.history may.is_path) f
kept-fits past m (TakeDirectory path) may f =
    let root = emptied-root m.tree path may in
    fits-tree m _ refl (omega arith) (tree-emptied m.next_file path m.tree may f.tree)
    (table-onward (length m.servers) m.next_lease m.tree _ m.slots
    (emptied-onward m.next_file path m.tree may root f.tree) f.table)
    (each_push IsEntry m.history _ f.history
    (path-of m.next_file m.tree path Is.Directory f.tree root
    (rmdir-empty (standing m.tree) path may).0)) f
kept-fits past m (AddFile path actor command len) may f =
    let none = none-at m.tree path (add-free (standing m.tree) path may.adds.free).1 in
    let first = f.first_file in
    fits-tree m _ refl (omega arith)
    (tree-added m.next_file (m.next_file + 1) (file_row path m.next_file actor command len) m.tree
    may.adds.free
    (record {
      path = may.adds.is_path;
      no_root = none.0;
      plain = λ z. absurd (no-zero _ first z);
      number = λ _. omega arith;
      len = may.len_fits;
      maker = λ _. (may.is_actor, may.command_fits);
    })
    (omega arith) (λ _. omega arith) f.tree)
    (table-onward (length m.servers) m.next_lease m.tree _ m.slots
    (added-onward (file_row path m.next_file actor command len) m.tree may.adds.free) f.table)
    (each_push IsEntry m.history _ f.history (may.number, may.adds.is_path)) f
kept-fits past m (CloseFile file actor command) may f =
    let u = unclosed-of m file actor command may f in
    fits-tree m _ refl (omega arith) (tree-closed m.next_file file m.tree u.0.some f.tree)
    (table-sealed (length m.servers) m.next_lease file m.tree _ m.slots (closing-onward file m.tree)
    (closed-after file m.tree u.0) f.table)
    (each_push IsEntry m.history _ f.history (may.number, u.2, u.3)) f
kept-fits past m (AbortFile file) may f =
    let u = aborted-of m file may f in
    fits-tree m _ refl (omega arith) (tree-without_file m.next_file file m.tree u.some f.tree)
    (table-forgotten (length m.servers) m.next_lease file m.tree _ m.slots
    (without_file-onward file m.tree) f.table)
    (each_push IsEntry m.history _ f.history may.number) f
kept-fits past m (RemoveFile path file) may f =
    let root = closed-root m.tree path may.closed in
    fits-tree m _ refl (omega arith) (tree-removed m.next_file path m.tree may.closed f.tree)
    (table-forgotten (length m.servers) m.next_lease file m.tree _ m.slots
    (removed-onward m.next_file path file m.tree may.closed root may.at f.tree) f.table)
    (each_push IsEntry m.history _ f.history
    (path-of m.next_file m.tree path Is.Closed f.tree root
    (look-closed (standing m.tree) path may.closed))) f
kept-fits past m (MovePath from to) may f =
    fits-tree m _ refl (omega arith)
    (move-tree from to m.tree m.next_file may.is_path may.free f.tree)
    (table-onward (length m.servers) m.next_lease m.tree _ m.slots
    (move-onward from to m.tree m.next_file may.is_path may.free f.tree) f.table)
    (each_push IsEntry m.history _ f.history
    (source-path m.next_file from to m.tree may.free f.tree, may.is_path)) f
kept-fits past m (GrantSlot block slot server actor lease) may f =
    granted-fits block slot server actor lease m may f
kept-fits past m (FailGrant block slot) may f =
    fits-slots m (apply m (FailGrant block slot)) (losing-frame m (FailGrant block slot) tt).is
    (table-losing past m (FailGrant block slot) tt may f.table)
    (rows-losing m (FailGrant block slot) tt f) f
kept-fits past m (GiveUp block slot) may f =
    fits-slots m (apply m (GiveUp block slot)) (losing-frame m (GiveUp block slot) tt).is
    (table-losing past m (GiveUp block slot) tt may f.table)
    (rows-losing m (GiveUp block slot) tt f) f
kept-fits past m (ConfirmSlot block slot) may f =
    fits-slots m (apply m (ConfirmSlot block slot)) (losing-frame m (ConfirmSlot block slot) tt).is
    (table-losing past m (ConfirmSlot block slot) tt may f.table)
    (rows-losing m (ConfirmSlot block slot) tt f) f
kept-fits past m (EmptySlot block slot) may f =
    fits-slots m (apply m (EmptySlot block slot)) (losing-frame m (EmptySlot block slot) tt).is
    (table-losing past m (EmptySlot block slot) tt may f.table)
    (rows-losing m (EmptySlot block slot) tt f) f
kept-fits past m (GiveLease actor file until) may f = record {
  some_server = f.some_server;
  few_servers = f.few_servers;
  first_file = f.first_file;
  first_lease = omega arith;
  tree = f.tree;
  table = table-later (length m.servers) m.next_lease (m.next_lease + 1) m.tree m.slots
      (omega arith) f.table;
  rows = record {
    first = f.rows.first;
    leases = leases-given actor file until m.next_lease m.leases may f.rows.leases;
    rows = rows-given (length m.servers) m.next_condemned actor file until m.next_lease m.leases
        m.condemned f.rows.leases f.rows.rows;
  };
  dropped = f.dropped;
  history = f.history;
}
kept-fits past m (EndLease lease) may f = record {
  some_server = f.some_server;
  few_servers = f.few_servers;
  first_file = f.first_file;
  first_lease = f.first_lease;
  tree = f.tree;
  table = f.table;
  rows = record {
    first = f.rows.first;
    leases = leases-ended lease m.next_lease m.leases
        f.rows.leases;
    rows = rows-ended (length m.servers) m.next_condemned lease m.leases
        m.condemned f.rows.rows;
  };
  dropped = f.dropped;
  history = f.history;
}
kept-fits past m (MarkOrdered number) may f =
    fits-servers m m.servers (mark_ordered number m.condemned) refl
    (rows-marked (length m.servers) m.next_condemned number m.leases m.condemned f.rows.rows) f
kept-fits past m (TakeCondemned number) may f =
    fits-servers m m.servers (sweep number m.condemned) refl (swept-rows number m f) f
kept-fits past m (CondemnStray server life key) may f =
    let frame = stray-frame server life key m in
    fits-slots m (condemn_stray server life key m)
    (frame ∙ same-slots m (condemn_stray server life key m) frame)
    (subst (λ (n : MetaImage). HasTable (length m.servers) m.next_lease m.tree n.slots) (sym frame)
    f.table) (stray-rows past server life key m may f.rows) f
kept-fits past m (ServerUp server life) may f =
    fits-servers m (change_server (server_up life) m.servers server)
    (forget_if_risen server m.condemned (nat_lt (server_at m.servers server).life life))
    (change-length (server_up life) m.servers server) (risen-rows server m _ f) f
kept-fits past m (ServerDown server) may f =
    fits-servers m (change_server server_down m.servers server) m.condemned
    (change-length server_down m.servers server) f.rows.rows f
kept-fits past m (ServerLeaves server) may f =
    fits-servers m (change_server server_leaving m.servers server) m.condemned
    (change-length server_leaving m.servers server) f.rows.rows f
kept-fits past m (ServerSleeps server until) may f =
    fits-servers m (change_server (server_asleep until) m.servers server) m.condemned
    (change-length (server_asleep until) m.servers server) f.rows.rows f
kept-fits past m (DropActor actor) may f = record {
  some_server = f.some_server;
  few_servers = f.few_servers;
  first_file = f.first_file;
  first_lease = f.first_lease;
  tree = f.tree;
  table = f.table;
  rows = record { first = f.rows.first; leases = f.rows.leases; rows = f.rows.rows };
  dropped = record {
    in_order = place_rises dropped_total _ m.dropped f.dropped.in_order;
    actors = each_place (λ (d : DroppedActor). IsActor d.actor) dropped_cmp _ m.dropped may
        f.dropped.actors;
  };
  history = f.history;
}
kept-fits past m ClockTicks may f = record {
  some_server = f.some_server;
  few_servers = f.few_servers;
  first_file = f.first_file;
  first_lease = f.first_lease;
  tree = f.tree;
  table = f.table;
  rows = record { first = f.rows.first; leases = f.rows.leases; rows = f.rows.rows };
  dropped = f.dropped;
  history = f.history;
}

-- ---- what the parts need of one another

rows-known : (past : Past) (m : MetaImage) → Knows past m → LivesRise past m
    → IsRising slot_cmp m.slots
    → Each (λ (row : SlotRow). Each (KnownLife m.servers) (copies_of row.state)) m.slots
rows-known past m k lives rising =
    each_weaker _ _ (λ (row : SlotRow) (at : slot_at m.slots row.block row.slot ≡ row.state).
    each_append (KnownLife m.servers) (option_to_list row.state.current)
    (option_to_list (granted_copy row.state.grant))
    (each_weaker (Granted past row.block row.slot) (KnownLife m.servers)
    (λ c was. granted-has (λ (g : SlotCopy). g.copy.life ≤ (server_at m.servers g.copy.server).life)
    past row.block row.slot c lives was) (option_to_list row.state.current)
    (subst (λ (st : SlotRecord). Each (Granted past row.block row.slot) (option_to_list st.current))
    at (k.current row.block row.slot)))
    (each_weaker (Granted past row.block row.slot) (KnownLife m.servers)
    (λ c was. granted-has (λ (g : SlotCopy). g.copy.life ≤ (server_at m.servers g.copy.server).life)
    past row.block row.slot c lives was) (option_to_list (granted_copy row.state.grant))
    (subst (λ (st : SlotRecord). Each (Granted past row.block row.slot)
    (option_to_list (granted_copy st.grant))) at (k.pending row.block row.slot))))
    m.slots (rows-found m.slots rising)

listed-older : (past : Past) (m : MetaImage) → LeasesHold past m
    → Each (λ (l : ListedCopy). l.lease < m.next_lease) past.listed
listed-older past m h =
    each_weaker (λ (l : ListedCopy). IsTrue (list_any (is_lease_of l) past.leases)) _
    (λ l any. any_each (l.lease < m.next_lease) (λ (lease : GivenLease). lease.lease < m.next_lease)
    (is_lease_of l) (λ lease under is. subst (λ k. k < m.next_lease) (lease-of l lease is) under)
    past.leases h.numbers any) past.listed h.listed

frame-back : (m : MetaImage) (change : Change) → IsLosing change → StandsBack m (apply m change)
frame-back m change is file low stands =
    subst (λ (n : MetaImage). IsTrue (file_stands file n.tree)) (losing-frame m change is).is stands

frame-tree : (m : MetaImage) (change : Change) → IsLosing change → TreeIsHistory m
    → TreeIsHistory (apply m change)
frame-tree m change is h =
    subst TreeIsHistory (sym (losing-frame m change is).is)
    (record { files = h.files; legal = h.legal; numbers = h.numbers })

granted-tree : (block : BlockId) (slot server actor lease : ℕ) (m : MetaImage) → TreeIsHistory m
    → TreeIsHistory (grant_slot block slot server actor lease m)
unfolding grant_slot with_slots
granted-tree block slot server actor lease m h =
    record { files = h.files; legal = h.legal; numbers = h.numbers }

-- what stands after a file was closed has a number
after-some : (m : MetaImage) (file : ℕ) → IsUnclosedFile file m.tree → (other : ℕ) → Fits m
    → IsTrue (file_stands other (close_file file m.tree)) → 0 < other
after-some m file is other f stands =
    (stands-below m.next_file other (close_file file m.tree)
    (tree-closed m.next_file file m.tree is.some f.tree) stands).1

pub tree-back : (past : Past) (m : MetaImage) (change : Change) → MayMake past m change → Fits m
    → TreeBack m change
unfolding apply write_entry add_file with_slots finish_lease bring_up directory_row file_row
tree-back past m (AddDirectory path) may f =
    λ file low. added-back (directory_row path) m.tree may.free file (directory-off path file)
tree-back past m (AddFile path actor command len) may f =
    λ file low. added-back (file_row path m.next_file actor command len) m.tree may.adds.free file
    (file-off path m.next_file actor command len file low)
tree-back past m (TakeDirectory path) may f = λ file low. taken-back path m.tree file
tree-back past m (CloseFile file actor command) may f =
    λ other low stands. closing-back file m.tree other
    (after-some m file (unclosed-of m file actor command may f).0 other f stands) stands
tree-back past m (AbortFile file) may f =
    ((λ other low. without_file-back file m.tree other), without_file-gone file m.tree)
tree-back past m (RemoveFile path file) may f = (
  (λ other low. taken-back path m.tree other),
  removed-gone m.next_file path file m.tree
      may.closed (closed-root m.tree path may.closed) may.at f.tree,
)
tree-back past m (MovePath from to) may f =
    λ file low. move-back from to m.tree m.next_file may.is_path may.free f.tree file
tree-back past m (GrantSlot block slot server actor lease) may f =
    (stands-below m.next_file block.file m.tree f.tree may.stands).0
tree-back past m (FailGrant block slot) may f = frame-back m (FailGrant block slot) tt
tree-back past m (GiveUp block slot) may f = frame-back m (GiveUp block slot) tt
tree-back past m (ConfirmSlot block slot) may f = frame-back m (ConfirmSlot block slot) tt
tree-back past m (EmptySlot block slot) may f = frame-back m (EmptySlot block slot) tt
tree-back past m (CondemnStray server life key) may f =
    λ file low stands. subst (λ (n : MetaImage). IsTrue (file_stands file n.tree))
    (stray-frame server life key m) stands
tree-back past m _ may f = λ file low stands. stands

needs-bare : (past : Past) (m : MetaImage) (change : Change) → MayMake past m change → Fits m
    → NeedsBare m change
needs-bare past m (CloseFile file actor command) may f =
    bare-of m file f.table (not-closed file m.tree (unclosed-of m file actor command may f).0)
needs-bare past m (AbortFile file) may f =
    bare-of m file f.table (not-closed file m.tree (aborted-of m file may f))
needs-bare past m (AddDirectory path) may f = tt
needs-bare past m _ may f = tt

kept-tree : (past : Past) (m : MetaImage) (change : Change) → MayMake past m change → Fits m
    → TreeIsHistory m → TreeIsHistory (apply m change)
unfolding apply with_slots finish_lease bring_up
kept-tree past m (AddDirectory path) may f h = history-directory m path may.free h
kept-tree past m (AddFile path actor command len) may f h =
    history-file m path actor command len f.first_file may.adds.free h
kept-tree past m (TakeDirectory path) may f h = history-taken m path may h
kept-tree past m (CloseFile file actor command) may f h =
    let u = unclosed-of m file actor command may f in history-closed m file actor command u.0 u.1 h
kept-tree past m (AbortFile file) may f h = history-aborted m file (aborted-of m file may f) h
kept-tree past m (RemoveFile path file) may f h = history-removed m path file may.closed h
kept-tree past m (MovePath from to) may f h = history-moved m from to may h
kept-tree past m (GrantSlot block slot server actor lease) may f h =
    granted-tree block slot server actor lease m h
kept-tree past m (FailGrant block slot) may f h = frame-tree m (FailGrant block slot) tt h
kept-tree past m (GiveUp block slot) may f h = frame-tree m (GiveUp block slot) tt h
kept-tree past m (ConfirmSlot block slot) may f h = frame-tree m (ConfirmSlot block slot) tt h
kept-tree past m (EmptySlot block slot) may f h = frame-tree m (EmptySlot block slot) tt h
kept-tree past m (CondemnStray server life key) may f h =
    subst TreeIsHistory (sym (stray-frame server life key m))
    (record { files = h.files; legal = h.legal; numbers = h.numbers })
kept-tree past m (GiveLease actor file until) may f h =
    record { files = h.files; legal = h.legal; numbers = h.numbers }
kept-tree past m _ may f h = record { files = h.files; legal = h.legal; numbers = h.numbers }

-- ---- every change keeps the state to its past

told-ordered : (past : Past) (m : MetaImage) (change : Change)
    → Each (IsLetGo (told change m past) (apply m change)) past.ordered
    → Each (IsLetGo (told change m past) (apply m change)) (told change m past).ordered
unfolding with_copy
told-ordered past m (GrantSlot block slot server actor lease) h = h
told-ordered past m (GiveLease actor file until) h = h
told-ordered past m (AddDirectory path) h = h
told-ordered past m _ h = h

pub kept : (past : Past) (m : MetaImage) (change : Change) → MayMake past m change → Keeps past m
    → Keeps (told change m past) (apply m change)
kept past m change may h = record {
  fits = kept-fits past m change may h.fits;
  knows = kept-knows past m change may (tree-back past m change may h.fits) h.knows;
  lives = kept-lives past m change may h.lives;
  leases = kept-leases past m change may (needs-bare past m change may h.fits) h.lives
      h.knows.listed h.leases;
  ordered = told-ordered past m change
      (kept-let_go past m change may h.knows.behind h.knows.ordered (listed-older past m h.leases)
      h.ordered);
  one = kept-one past m change may h.fits.table.in_order
      (rows-known past m h.knows h.lives h.fits.table.in_order) h.one;
  tree = kept-tree past m change may h.fits h.tree;
}
