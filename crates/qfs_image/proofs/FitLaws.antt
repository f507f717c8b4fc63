-- An image keeps the rules of a metaserver's state: its lists rise, its numbers are below the counters, and what it names is
-- there.
use Rattle.std.proofs.Common.{◌≡◌, ◌≢◌, ◌∙◌, refl, sym, ap, arith, ℕ, ◌+◌, ◌<◌, ◌≤◌, Bool, true, false, ◌==◌, List, [], ◌∷◌, length, Option, Some, None}
use Rattle.std.specs.Prelude.{nat_eq, nat_lt, is_some, IfSome, IsTrue, OnSome, map, filter}
use Rattle.std.specs.List.{AllByRecursion, IsDistinct, list_all, list_any}
use Rattle.std.specs.Ordering.{is_lt, nat_cmp}
use Rattle.std.specs.declared.cmp.Ordering.TheVariants.{Less}
use Rattle.std.proofs.lemmas.Bool.{and_parts, eq-eqb, eqb-true, le-ltb, leb-true, lt-ltb, ltb-true, ne_eqb, not-true, or_parts}
use Rattle.qfs_base.specs.EachLaws.{each_filter, each_weaker}
use Rattle.qfs_base.specs.NameTree.{kind_at, parents_of, row_cmp}
use Rattle.qfs_base.specs.Path.{IsPath}
use Rattle.qfs_base.specs.Sizes.{MOST_FILE_BYTES}
use Rattle.qfs_base.specs.Table.{Each, IsRising}
use Rattle.qfs_base.specs.declared.chunk.Copy.{Copy}
use Rattle.qfs_base.specs.declared.history.Entry.{Entry}
use Rattle.qfs_base.specs.declared.history.Entry.TheVariants as Wrote
use Rattle.qfs_base.specs.declared.image.CondemnedRow.{CondemnedRow}
use Rattle.qfs_base.specs.declared.image.DroppedActor.{DroppedActor}
use Rattle.qfs_base.specs.declared.image.Grant.{Grant}
use Rattle.qfs_base.specs.declared.image.Lease.{Lease}
use Rattle.qfs_base.specs.declared.image.MetaImage.{MetaImage}
use Rattle.qfs_base.specs.declared.image.SlotRow.{SlotRow}
use Rattle.qfs_base.specs.declared.image.TreeRow.{TreeRow}
use Rattle.qfs_laws_tables.specs.EachRow.{all-each, each_map}
use Rattle.qfs_laws_tables.specs.InOrder.{filter_rises}
use Rattle.qfs_model_disks.specs.Image.{IsSpelledEntry, dropped_actor, grant, image, lease, slot_row, tree_row}
use Rattle.qfs_model_disks.specs.Tests.{are_distinct, are_first, has_maker, has_parents, has_servers, if_any, is_condemned_list, is_condemned_row, is_copy_on, is_dropped_list, is_grant_under, is_image, is_lease_list, is_lease_row, is_plain, is_row, is_server_of, is_slot_row, is_slot_table, is_tree, starts_from_one}
use Rattle.qfs_model_meta.specs.Condemned.{condemned_cmp}
use Rattle.qfs_model_meta.specs.Dropped.{dropped_cmp}
use Rattle.qfs_model_meta.specs.Grammar.{HasBlockers, HasMaker, HasParents, IsActor, IsCondemnedList, IsCurrentOfClosed, IsDroppedList, IsEntry, IsGrant, IsImage, IsLeaseList, IsPlain, IsServer, IsSlotTable, IsTree, NamesServers, files_in}
use Rattle.qfs_model_meta.specs.Leases.{lease_cmp, leases_on}
use Rattle.qfs_model_meta.specs.Slots.{granted_copy, slot_cmp}
use Rattle.qfs_model_meta.specs.TreeRows.{closed_file, file_stands, row_path, standing}
use Rattle.qfs_image.proofs.OrderLaws.{lt_test, rising_each}
use Rattle.qfs_image.proofs.TreeLaws.{directory_is}

each_of_fits : {X : Type 0} (P Q : X → Type 0) → ((x : X) → P x → Q x) → (xs : List X) → AllByRecursion P xs → Each Q xs
each_of_fits P Q weaker [] fits = tt
each_of_fits P Q weaker (x ∷ xs) fits = (weaker x fits.0, each_of_fits P Q weaker xs fits.1)

-- rows that pass a test, each of which has a spelling
each_fit_all : {X : Type 0} (P Q : X → Type 0) (test : X → Bool) → ((x : X) → P x → test x ≡ true → Q x) → (xs : List X)
    → AllByRecursion P xs → list_all test xs ≡ true → Each Q xs
each_fit_all P Q test goes [] fits all = tt
each_fit_all P Q test goes (x ∷ xs) fits all =
    let p = and_parts _ _ all in
    (goes x fits.0 p.0, each_fit_all P Q test goes xs fits.1 p.1)

-- ---- the name tree

parents_there : (tree : List TreeRow) (row : TreeRow) → has_parents (standing tree) row ≡ true → HasParents tree row
unfolding has_parents
parents_there tree row all =
    each_weaker _ _ (λ parent at. directory_is (kind_at (standing tree) parent) at) (parents_of row.path) (all-each _ (parents_of row.path) all)

plain : (row : TreeRow) → has_maker (row.file == 0) row ≡ true → IsPlain row
unfolding has_maker is_plain
plain row maker none =
    let is = sym (ap (λ b. has_maker b row) (eq-eqb row.file 0 none)) ∙ maker in
    let p = and_parts _ _ is in
    let q = and_parts _ _ p.0 in
    let r = and_parts _ _ q.0 in
    (not-true _ r.0, eqb-true _ _ r.1, eqb-true _ _ q.1, eqb-true _ _ p.1)

maker : (row : TreeRow) → row.actor < 65536 → row.command < 65536 → has_maker (row.file == 0) row ≡ true → HasMaker row
unfolding has_maker
maker row actor command made some =
    let is = sym (ap (λ b. has_maker b row) (ne_eqb row.file 0 some)) ∙ made in
    ((leb-true 1 row.actor is, omega (arith, actor)), omega (arith, command))

none_equal : (n : ℕ) (ns : List ℕ) → list_any (nat_eq n) ns ≡ false → AllByRecursion (λ m. nat_eq n m ≡ false) ns
none_equal n [] none = tt
none_equal n (m ∷ ms) none = let p = or_parts _ _ none in (p.0, none_equal n ms p.1)

distinct : (ns : List ℕ) → are_distinct ns ≡ true → IsDistinct nat_eq ns
unfolding are_distinct IsDistinct
distinct [] is = tt
distinct (n ∷ ns) is = let p = and_parts _ _ is in (none_equal n ns (not-true _ p.0), distinct ns p.1)

-- what a row of the tree keeps
record KeepsRow (next : ℕ) (tree : List TreeRow) (row : TreeRow) : Type 0 where
  path : IsPath row.path
  no_root : row.path ≢ []
  parents : HasParents tree row
  is_plain : IsPlain row
  file : row.file < next
  len : row.len ≤ MOST_FILE_BYTES
  made : HasMaker row

row_keeps : (next : ℕ) (tree : List TreeRow) (row : TreeRow) → tree_row.Fits row → is_row next (standing tree) row ≡ true → KeepsRow next tree row
unfolding is_row
row_keeps next tree row fits is =
    let p = and_parts _ _ is in
    let q = and_parts _ _ p.0 in
    let r = and_parts _ _ q.0 in
    let f = and_parts _ _ p.1 in
    let some : 0 < length row.path = ltb-true 0 (length row.path) r.0 in
    record {
      path = fits.0;
      no_root = λ none. omega (arith, some, ap length none);
      parents = parents_there tree row r.1;
      is_plain = plain row f.1;
      file = ltb-true row.file next f.0;
      len = leb-true row.len MOST_FILE_BYTES q.1;
      made = maker row (omega (arith, fits.1.1.1.0)) (omega (arith, fits.1.1.1.1.0)) f.1;
    }

tree_keeps : (next : ℕ) (tree : List TreeRow) → AllByRecursion tree_row.Fits tree → is_tree next tree ≡ true → IsTree next tree
unfolding is_tree files_in
tree_keeps next tree fits is =
    let p = and_parts _ _ is in
    let q = and_parts _ _ p.0 in
    let rows = each_fit_all tree_row.Fits (KeepsRow next tree) (is_row next (standing tree)) (λ row fit at. row_keeps next tree row fit at) tree fits q.1 in
    record {
      in_order = rising_each (row_cmp row_path) tree q.0;
      paths = each_weaker _ _ (λ row k. k.path) tree rows;
      no_root = each_weaker _ _ (λ row k. k.no_root) tree rows;
      in_directories = each_weaker _ _ (λ row k. k.parents) tree rows;
      plain_directories = each_weaker _ _ (λ row k. k.is_plain) tree rows;
      file_numbers = each_filter _ (nat_lt 0) (map (λ (row : TreeRow). row.file) tree) (each_map (KeepsRow next tree) (λ file. file < next) (λ (row : TreeRow). row.file) (λ row k. k.file) tree rows);
      each_file_once = distinct (files_in tree) p.1;
      lengths = each_weaker _ _ (λ row k. k.len) tree rows;
      makers = each_weaker _ _ (λ row k. k.made) tree rows;
    }

-- ---- slots

server_is : (servers number : ℕ) → is_server_of servers number ≡ true → IsServer servers number
unfolding is_server_of
server_is servers number is = let p = and_parts _ _ is in (leb-true 1 number p.0, leb-true number servers p.1)

copy_on : (servers : ℕ) (o : Option Copy) → if_any (is_copy_on servers) o ≡ true → IfSome o (λ (copy : Copy). IsServer servers copy.server)
unfolding if_any is_copy_on
copy_on servers None is = tt
copy_on servers (Some c) is = server_is servers c.server is

grant_under : (next : ℕ) (o : Option Grant) → IfSome o grant.Fits → if_any (is_grant_under next) o ≡ true → IfSome o (IsGrant next)
unfolding if_any is_grant_under
grant_under next None fits is = tt
grant_under next (Some g) fits is =
    let p = and_parts _ _ is in
    record { actor = (leb-true 1 g.actor p.0, omega (arith, fits.1.0.0)); lease = ltb-true g.lease next p.1 }

closed_if : (o : Option Copy) (closed : Bool) → if_any (λ (copy : Copy). closed) o ≡ true → OnSome o (IsTrue closed)
unfolding if_any
closed_if None closed is = tt
closed_if (Some c) closed is = is

-- what a slot keeps
record KeepsSlot (servers next : ℕ) (tree : List TreeRow) (row : SlotRow) : Type 0 where
  number : row.slot < 9
  stands : IsTrue (file_stands row.block.file tree)
  closed : IsCurrentOfClosed tree row
  names : NamesServers servers row
  granted : IfSome row.state.grant (IsGrant next)
  failed : IsRising nat_cmp row.state.failed

slot_keeps : (servers next : ℕ) (tree : List TreeRow) (row : SlotRow) → slot_row.Fits row → is_slot_row servers next tree row ≡ true → KeepsSlot servers next tree row
unfolding is_slot_row
slot_keeps servers next tree row fits is =
    let a = and_parts _ _ is in
    let b = and_parts _ _ a.0 in
    let d = and_parts _ _ b.0 in
    let e = and_parts _ _ d.0 in
    let h = and_parts _ _ e.0 in
    let k = and_parts _ _ h.0 in
    let l = and_parts _ _ k.0 in
    record {
      number = ltb-true row.slot 9 l.0;
      stands = l.1;
      closed = closed_if row.state.current (is_some (closed_file row.block.file tree)) a.1;
      names = record {
        current = copy_on servers row.state.current k.1;
        granted = copy_on servers (granted_copy row.state.grant) h.1;
        failed = each_weaker _ _ (λ server at. server_is servers server at) row.state.failed (all-each (is_server_of servers) row.state.failed e.1);
      };
      granted = grant_under next row.state.grant fits.1.1.1.1.0 b.1;
      failed = rising_each nat_cmp row.state.failed d.1;
    }

slots_keep : (servers next : ℕ) (tree : List TreeRow) (slots : List SlotRow) → AllByRecursion slot_row.Fits slots → is_slot_table servers next tree slots ≡ true
    → IsSlotTable servers next tree slots
unfolding is_slot_table
slots_keep servers next tree slots fits is =
    let p = and_parts _ _ is in
    let rows = each_fit_all slot_row.Fits (KeepsSlot servers next tree) (is_slot_row servers next tree) (λ row fit at. slot_keeps servers next tree row fit at) slots fits p.1 in
    record {
      in_order = rising_each slot_cmp slots p.0;
      slot_numbers = each_weaker _ _ (λ row k. k.number) slots rows;
      of_files = each_weaker _ _ (λ row k. k.stands) slots rows;
      current_of_closed = each_weaker _ _ (λ row k. k.closed) slots rows;
      on_servers = each_weaker _ _ (λ row k. k.names) slots rows;
      grants = each_weaker _ _ (λ row k. k.granted) slots rows;
      failed_in_order = each_weaker _ _ (λ row k. k.failed) slots rows;
    }

-- ---- leases and condemned copies

record KeepsLease (next : ℕ) (row : Lease) : Type 0 where
  number : row.lease < next
  actor : IsActor row.actor

lease_keeps : (next : ℕ) (row : Lease) → lease.Fits row → is_lease_row next row ≡ true → KeepsLease next row
unfolding is_lease_row
lease_keeps next row fits is =
    let p = and_parts _ _ is in
    record { number = ltb-true row.lease next p.0; actor = (leb-true 1 row.actor p.1, omega (arith, fits.1.0.0)) }

leases_keep : (next : ℕ) (leases : List Lease) → AllByRecursion lease.Fits leases → is_lease_list next leases ≡ true → IsLeaseList next leases
unfolding is_lease_list
leases_keep next leases fits is =
    let p = and_parts _ _ is in
    let rows = each_fit_all lease.Fits (KeepsLease next) (is_lease_row next) (λ row fit at. lease_keeps next row fit at) leases fits p.1 in
    record {
      in_order = rising_each lease_cmp leases p.0;
      numbers = each_weaker _ _ (λ row k. k.number) leases rows;
      actors = each_weaker _ _ (λ row k. k.actor) leases rows;
    }

nat_less : (x y : ℕ) → nat_cmp x y ≡ Less → x < y
nat_less x y less = ltb-true x y (sym (lt_test x y) ∙ ap is_lt less)

numbers_rise : (leases : List Lease) → IsRising lease_cmp leases → IsRising nat_cmp (map (λ (row : Lease). row.lease) leases)
numbers_rise [] rising = tt
numbers_rise (row ∷ rows) rising =
    (each_map (λ later. lease_cmp row later ≡ Less) (λ later. nat_cmp row.lease later ≡ Less) (λ (row : Lease). row.lease) (λ later less. less) rows rising.0, numbers_rise rows rising.1)

on_rise : (leases : List Lease) (file : ℕ) → IsRising lease_cmp leases → IsRising nat_cmp (leases_on file leases)
unfolding leases_on
on_rise leases file rising =
    numbers_rise (filter (λ (row : Lease). row.file == file) leases) (filter_rises lease_cmp (λ (row : Lease). row.file == file) leases rising)

none_below : (bound : ℕ) (ns : List ℕ) → Each (λ n. bound ≤ n) ns → filter (λ n. nat_lt n bound) ns ≡ []
none_below bound [] each = refl
none_below bound (n ∷ ns) each = rw (le-ltb n bound each.0) (none_below bound ns each.1)

-- the first of rising numbers are those below some number
first_bound : (least : ℕ) (blockers ns : List ℕ) → Each (λ n. least ≤ n) ns → IsRising nat_cmp ns → are_first blockers ns ≡ true
    → (bound : ℕ) × (least ≤ bound) × (blockers ≡ filter (λ n. nat_lt n bound) ns)
unfolding are_first
first_bound least [] [] each rising first = (least, omega arith, refl)
first_bound least [] (n ∷ ns) each rising first =
    let later = each_weaker _ (λ m. n ≤ m) (λ m less. omega (arith, nat_less n m less)) ns rising.0 in
    (n, each.0, sym (none_below n (n ∷ ns) (omega arith, later)))
first_bound least (b ∷ blockers) [] each rising first = absurd cc
first_bound least (b ∷ blockers) (n ∷ ns) each rising first =
    let p = and_parts _ _ first in
    let same : b ≡ n = eqb-true b n p.0 in
    let later = each_weaker _ (λ m. n + 1 ≤ m) (λ m less. omega (arith, nat_less n m less)) ns rising.0 in
    let rest = first_bound (n + 1) blockers ns later rising.1 p.1 in
    let low : n < rest.0 = omega (arith, rest.1) in
    (rest.0, omega (arith, each.0, low), rw (lt-ltb n rest.0 low) (ap (λ (m : ℕ). m ∷ blockers) same ∙ ap (λ (ms : List ℕ). n ∷ ms) rest.2))

all_least : (ns : List ℕ) → Each (λ n. 0 ≤ n) ns
all_least [] = tt
all_least (n ∷ ns) = (omega arith, all_least ns)

-- what a condemned copy keeps
record KeepsCondemned (servers next : ℕ) (leases : List Lease) (row : CondemnedRow) : Type 0 where
  number : row.condemned.number < next
  slot : row.condemned.slot < 9
  server : IsServer servers row.condemned.copy.server
  blockers : HasBlockers leases row

condemned_keeps : (servers next : ℕ) (leases : List Lease) (row : CondemnedRow) → IsRising lease_cmp leases → is_condemned_row servers next leases row ≡ true
    → KeepsCondemned servers next leases row
unfolding is_condemned_row is_copy_on
condemned_keeps servers next leases row rising is =
    let p = and_parts _ _ is in
    let q = and_parts _ _ p.0 in
    let r = and_parts _ _ q.0 in
    let on = leases_on row.condemned.block.file leases in
    let bound = first_bound 0 row.blockers on (all_least on) (on_rise leases row.condemned.block.file rising) p.1 in
    record {
      number = ltb-true row.condemned.number next r.0;
      slot = ltb-true row.condemned.slot 9 r.1;
      server = server_is servers row.condemned.copy.server q.1;
      blockers = (bound.0, bound.2);
    }

condemned_list : (servers next : ℕ) (leases : List Lease) (rows : List CondemnedRow) → IsRising lease_cmp leases → is_condemned_list servers next leases rows ≡ true
    → IsCondemnedList servers next leases rows
unfolding is_condemned_list
condemned_list servers next leases rows rising is =
    let p = and_parts _ _ is in
    let each = each_weaker _ (KeepsCondemned servers next leases) (λ row at. condemned_keeps servers next leases row rising at) rows (all-each (is_condemned_row servers next leases) rows p.1) in
    record {
      in_order = rising_each condemned_cmp rows p.0;
      numbers = each_weaker _ _ (λ row k. k.number) rows each;
      slot_numbers = each_weaker _ _ (λ row k. k.slot) rows each;
      on_servers = each_weaker _ _ (λ row k. k.server) rows each;
      blockers = each_weaker _ _ (λ row k. k.blockers) rows each;
    }

-- ---- the whole

dropped_keep : (dropped : List DroppedActor) → AllByRecursion dropped_actor.Fits dropped → is_dropped_list dropped ≡ true → IsDroppedList dropped
unfolding is_dropped_list
dropped_keep dropped fits is =
    let p = and_parts _ _ is in
    record {
      in_order = rising_each dropped_cmp dropped p.0;
      actors = each_of_fits dropped_actor.Fits (λ (d : DroppedActor). IsActor d.actor) (λ d fit. (leb-true 1 d.actor fit.0.1, omega (arith, fit.0.0))) dropped fits;
    }

entry_keeps : (e : Entry) → IsSpelledEntry e → IsEntry e
entry_keeps (Wrote.Mkdir p) fits = fits
entry_keeps (Wrote.Rmdir p) fits = fits
entry_keeps (Wrote.Created file p) fits = (omega (arith, fits.0), fits.1)
entry_keeps (Wrote.Closed file actor command) fits =
    (omega (arith, fits.0), (leb-true 1 actor fits.1.0.1, omega (arith, fits.1.0.0)), omega (arith, fits.1.1))
entry_keeps (Wrote.Aborted file) fits = omega (arith, fits)
entry_keeps (Wrote.Removed p) fits = fits
entry_keeps (Wrote.Renamed from to) fits = fits

-- an image keeps the rules that a metaserver's state keeps
pub images_fit : (m : MetaImage) → image.Fits m → IsImage m
unfolding is_image has_servers starts_from_one
images_fit m fits =
    let f = fits.0.1 in
    let servers = length m.servers in
    let a = and_parts _ _ fits.1 in
    let b = and_parts _ _ a.0 in
    let d = and_parts _ _ b.0 in
    let e = and_parts _ _ d.0 in
    let h = and_parts _ _ e.0 in
    let k = and_parts _ _ h.0 in
    let l = and_parts _ _ k.0 in
    let n = and_parts _ _ l.0 in
    let some = and_parts _ _ n.0 in
    let ones = and_parts _ _ n.1 in
    let files = and_parts _ _ ones.0 in
    let leases = leases_keep m.next_lease m.leases f.1.1.1.0.1 e.1 in
    record {
      fits = record {
        some_server = leb-true 1 servers some.0;
        few_servers = leb-true servers 64 some.1;
        first_file = leb-true 1 m.next_file files.0;
        first_lease = leb-true 1 m.next_lease files.1;
        first_condemned = leb-true 1 m.next_condemned ones.1;
        tree = tree_keeps m.next_file m.tree f.1.0.1 k.1;
        slots = slots_keep servers m.next_lease m.tree m.slots f.1.1.0.1 h.1;
        leases = leases;
        condemned = condemned_list servers m.next_condemned m.leases m.condemned leases.in_order d.1;
        dropped = dropped_keep m.dropped f.1.1.1.1.1.0.1 b.1;
        history = each_of_fits IsSpelledEntry IsEntry entry_keeps m.history f.1.1.1.1.1.1.1;
      };
      counters = l.1;
    }
