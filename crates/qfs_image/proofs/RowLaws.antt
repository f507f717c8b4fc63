-- The rules of an image, as the program tests them, are those of the grammar, for a value that was read.
use Rattle.std.proofs.Common.{◌≡◌, ◌∙◌, refl, sym, ap, arith, ℕ, ◌<◌, Bool, true, false, ◌&&◌, List, [], length, Option, Some, None}
use Rattle.std.specs.Prelude.{nat_le, nat_lt, is_some, IfSome}
use Rattle.std.specs.Cmp.{IsTotalOrder, both_ways, nat_cmp_total, on_total, then_total}
use Rattle.std.specs.List.{AllByRecursion, list_all}
use Rattle.std.specs.Ordering.{nat_cmp}
use Rattle.std.proofs.lemmas.Bool.{and_from, and_parts, lt-ltb}
use Rattle.qfs_base.specs.KeyMap.{has_key, value_at}
use Rattle.qfs_base.specs.KeyLaws.{block_cmp_total}
use Rattle.qfs_base.specs.NameTree.{row_cmp}
use Rattle.qfs_base.specs.declared.chunk.Copy.{Copy}
use Rattle.qfs_base.specs.declared.history.Entry.{Entry}
use Rattle.qfs_base.specs.declared.history.Entry.TheVariants as Wrote
use Rattle.qfs_base.specs.declared.image.CondemnedRow.{CondemnedRow}
use Rattle.qfs_base.specs.declared.image.DroppedActor.{DroppedActor}
use Rattle.qfs_base.specs.declared.image.Grant.{Grant}
use Rattle.qfs_base.specs.declared.image.Lease.{Lease}
use Rattle.qfs_base.specs.declared.image.MetaImage.{MetaImage}
use Rattle.qfs_base.specs.declared.image.SlotRow.{SlotRow}
use Rattle.qfs_base.specs.declared.image.TreeRow.{TreeRow}
use Rattle.qfs_model_disks.specs.Image.{IsSpelledEntry, condemned_row, dropped_actor, grant, lease}
use Rattle.qfs_model_disks.specs.Tests.{are_distinct, are_first, are_rising, has_servers, if_any, is_condemned_list, is_condemned_row, is_copy_on, is_dropped_list, is_entry, is_grant_under, is_image, is_lease_list, is_lease_row, is_row, is_server_of, is_slot_row, is_slot_table, is_tree, starts_from_one}
use Rattle.qfs_model_disks.specs.Values.{copy, from_one}
use Rattle.qfs_model_meta.specs.Condemned.{condemned_cmp}
use Rattle.qfs_model_meta.specs.Counters.{counters_fit}
use Rattle.qfs_model_meta.specs.Dropped.{dropped_cmp}
use Rattle.qfs_model_meta.specs.Grammar.{files_in}
use Rattle.qfs_model_meta.specs.Leases.{lease_cmp, leases_on}
use Rattle.qfs_model_meta.specs.Slots.{granted_copy, slot_cmp}
use Rattle.qfs_model_meta.specs.TreeRows.{closed_file, file_stands, row_path, standing}
use Rattle.qfs_spelling.specs.Sets.{set_row}
use Rattle.qfs_image.specs.Files.{Files, is_closed_in, with_files, with_leases}
use Rattle.qfs_image.specs.Kept.{set_state}
use Rattle.qfs_image.specs.Rules.{bears_condemned, bears_condemned_row, bears_leases, bears_slot, bears_slots, bears_tree, condemned_before, dropped_before, follow, is_current_of, is_grant_below, keeps_alone, keeps_rules, lease_before, on_servers, slot_before}
use Rattle.qfs_image.proofs.FileLaws.{files_found, once_each}
use Rattle.qfs_image.proofs.LeaseLaws.{blockers_begin}
use Rattle.qfs_image.proofs.OrderLaws.{in_order, lt_test}
use Rattle.qfs_image.proofs.TestLaws.{all_fit, all_given}
use Rattle.qfs_image.proofs.TreeLaws.{tree_is}

-- ---- slots

and_true : (b : Bool) → (b && true) ≡ b
and_true true = refl
and_true false = refl

and_false : (b : Bool) → (b && false) ≡ false
and_false true = refl
and_false false = refl

current_is : (servers : ℕ) (closed : Bool) (o : Option Copy) → IfSome o copy.Fits
    → (if_any (is_copy_on servers) o && if_any (λ (c : Copy). closed) o) ≡ if_any (is_current_of servers closed) o
unfolding if_any is_copy_on is_server_of is_current_of
current_is servers closed None fits = refl
current_is servers true (Some c) fits = rw fits.0.1 (and_true (nat_le c.server servers))
current_is servers false (Some c) fits = rw fits.0.1 (and_false (nat_le c.server servers))

grant_is : (servers next : ℕ) (o : Option Grant) → IfSome o grant.Fits
    → (if_any (is_copy_on servers) (granted_copy o) && if_any (is_grant_under next) o) ≡ if_any (is_grant_below servers next) o
unfolding if_any is_copy_on is_server_of is_grant_under is_grant_below granted_copy
grant_is servers next None fits = refl
grant_is servers next (Some g) fits = rw (fits.0.0.1, fits.1.0.1) refl

failed_are : (servers : ℕ) (failed : List ℕ) → AllByRecursion from_one.Fits failed → list_all (is_server_of servers) failed ≡ on_servers servers failed
failed_are servers failed fits =
    all_given from_one.Fits (is_server_of servers) (λ server. nat_le server servers) (λ server fit. unfold is_server_of in rw fit.1 refl) failed fits

-- a slot's tests in the order of the program
slot_regroup : (n t c g f r u k : Bool) → n ≡ true → r ≡ true → (((((((n && t) && c) && g) && f) && r) && u) && k) ≡ (((t && (c && k)) && (g && u)) && f)
slot_regroup n t c g f r u k small rising =
    both_ways (((((((n && t) && c) && g) && f) && r) && u) && k) (((t && (c && k)) && (g && u)) && f)
    (λ is.
    let a = and_parts ((((((n && t) && c) && g) && f) && r) && u) k is in
    let b = and_parts (((((n && t) && c) && g) && f) && r) u a.0 in
    let d = and_parts ((((n && t) && c) && g) && f) r b.0 in
    let e = and_parts (((n && t) && c) && g) f d.0 in
    let h = and_parts ((n && t) && c) g e.0 in
    let m = and_parts (n && t) c h.0 in
    and_from ((t && (c && k)) && (g && u)) f
    (and_from (t && (c && k)) (g && u) (and_from t (c && k) (and_parts n t m.0).1 (and_from c k m.1 a.1)) (and_from g u h.1 b.1)) e.1)
    (λ is.
    let a = and_parts ((t && (c && k)) && (g && u)) f is in
    let b = and_parts (t && (c && k)) (g && u) a.0 in
    let d = and_parts t (c && k) b.0 in
    let e = and_parts c k d.1 in
    let h = and_parts g u b.1 in
    and_from ((((((n && t) && c) && g) && f) && r) && u) k
    (and_from (((((n && t) && c) && g) && f) && r) u
    (and_from ((((n && t) && c) && g) && f) r
    (and_from (((n && t) && c) && g) f
    (and_from ((n && t) && c) g (and_from (n && t) c (and_from n t small d.0) e.0) h.0) a.1) rising) h.1) e.1)

same_four : (a x b y c z d w : Bool) → a ≡ x → b ≡ y → c ≡ z → d ≡ w → (((a && b) && c) && d) ≡ (((x && y) && z) && w)
same_four a x b y c z d w one two three four = rw (one, two, three, four) refl

slot_is : (servers next : ℕ) (tree : List TreeRow) (files : Files) → with_files [] tree ≡ Some files → (row : SlotRow) → set_row.Fits row
    → is_slot_row servers next tree row ≡ bears_slot servers next files row
unfolding is_slot_row bears_slot
slot_is servers next tree files found row fits =
    let f = files_found tree files found row.block.file in
    let closed = is_some (closed_file row.block.file tree) in
    let known = is_closed_in (value_at nat_cmp files row.block.file) in
    let current = current_is servers closed row.state.current fits.1.1.1.0
    ∙ ap (λ (t : Bool). if_any (is_current_of servers t) row.state.current) (sym f.1) in
    let granted = grant_is servers next row.state.grant fits.1.1.1.1.0 in
    let failed = failed_are servers row.state.failed fits.1.1.1.1.1.0.1 in
    slot_regroup (nat_lt row.slot 9) (file_stands row.block.file tree) (if_any (is_copy_on servers) row.state.current)
    (if_any (is_copy_on servers) (granted_copy row.state.grant)) (list_all (is_server_of servers) row.state.failed) (are_rising nat_cmp row.state.failed)
    (if_any (is_grant_under next) row.state.grant) (if_any (λ (copy : Copy). is_some (closed_file row.block.file tree)) row.state.current)
    fits.1.0.1 (and_parts _ _ fits.1.1.1.1.1.1).0
    ∙ same_four (file_stands row.block.file tree) (has_key nat_cmp files row.block.file)
    (if_any (is_copy_on servers) row.state.current && if_any (λ (copy : Copy). closed) row.state.current) (if_any (is_current_of servers known) row.state.current)
    (if_any (is_copy_on servers) (granted_copy row.state.grant) && if_any (is_grant_under next) row.state.grant) (if_any (is_grant_below servers next) row.state.grant)
    (list_all (is_server_of servers) row.state.failed) (on_servers servers row.state.failed)
    (sym f.0) current granted failed

slots_total : IsTotalOrder slot_cmp
slots_total = unfold slot_cmp in then_total (on_total (λ (r : SlotRow). r.block) block_cmp_total) (on_total (λ (r : SlotRow). r.slot) nat_cmp_total)

slots_are : (servers next : ℕ) (tree : List TreeRow) (slots : List SlotRow) → AllByRecursion set_row.Fits slots → (found : Option Files) → with_files [] tree ≡ found
    → (is_some found && is_slot_table servers next tree slots) ≡ bears_slots servers next found slots
unfolding is_slot_table bears_slots
slots_are servers next tree slots fits None found = refl
slots_are servers next tree slots fits (Some files) found =
    rw (
      in_order slot_cmp slots_total slot_before (λ a b. refl) slots,
      all_given set_row.Fits (is_slot_row servers next tree) (bears_slot servers next files) (λ row fit. slot_is servers next tree files found row fit) slots fits,
    ) refl

-- ---- leases, condemned copies, dropped actors and entries

leases_total : IsTotalOrder lease_cmp
leases_total = on_total (λ (l : Lease). l.lease) nat_cmp_total

lease_is : (next : ℕ) (l : Lease) → lease.Fits l → is_lease_row next l ≡ nat_lt l.lease next
unfolding is_lease_row
lease_is next l fit = rw fit.1.0.1 (and_true (nat_lt l.lease next))

leases_are : (next : ℕ) (leases : List Lease) → AllByRecursion lease.Fits leases → is_lease_list next leases ≡ bears_leases next leases
unfolding is_lease_list bears_leases
leases_are next leases fits =
    rw (
      in_order lease_cmp leases_total lease_before (λ a b. lt_test a.lease b.lease) leases,
      all_given lease.Fits (is_lease_row next) (λ (l : Lease). nat_lt l.lease next) (λ l fit. lease_is next l fit) leases fits,
    ) refl

condemned_total : IsTotalOrder condemned_cmp
condemned_total = on_total (λ (r : CondemnedRow). r.condemned.number) nat_cmp_total

middle_true : (a b d : Bool) → (((a && true) && b) && d) ≡ ((a && b) && d)
middle_true true b d = refl
middle_true false b d = refl

condemned_is : (servers next : ℕ) (leases : List Lease) (row : CondemnedRow) → condemned_row.Fits row
    → is_condemned_row servers next leases row ≡ bears_condemned_row servers next (with_leases [] leases) row
unfolding is_condemned_row bears_condemned_row is_copy_on is_server_of
condemned_is servers next leases row fit =
    let slot_fits : nat_lt row.condemned.slot 9 ≡ true = fit.0.1.1.0.1 in
    let server_fits : nat_le 1 row.condemned.copy.server ≡ true = fit.0.1.1.1.0.1 in
    rw (slot_fits, server_fits, blockers_begin leases row.condemned.block.file row.blockers)
    (middle_true (nat_lt row.condemned.number next) (nat_le row.condemned.copy.server servers) (are_first row.blockers (leases_on row.condemned.block.file leases)))

condemned_are : (servers next : ℕ) (leases : List Lease) (rows : List CondemnedRow) → AllByRecursion condemned_row.Fits rows
    → is_condemned_list servers next leases rows ≡ bears_condemned servers next leases rows
unfolding is_condemned_list bears_condemned
condemned_are servers next leases rows fits =
    rw (
      in_order condemned_cmp condemned_total condemned_before (λ a b. lt_test a.condemned.number b.condemned.number) rows,
      all_given condemned_row.Fits (is_condemned_row servers next leases) (bears_condemned_row servers next (with_leases [] leases)) (λ row fit. condemned_is servers next leases row fit) rows fits,
    ) refl

dropped_total : IsTotalOrder dropped_cmp
dropped_total = unfold dropped_cmp in on_total (λ (d : DroppedActor). d.actor) nat_cmp_total

dropped_are : (dropped : List DroppedActor) → AllByRecursion dropped_actor.Fits dropped → is_dropped_list dropped ≡ follow dropped_before dropped
unfolding is_dropped_list
dropped_are dropped fits =
    rw (
      in_order dropped_cmp dropped_total dropped_before (λ a b. unfold dropped_cmp in lt_test a.actor b.actor) dropped,
      all_fit dropped_actor.Fits (λ (d : DroppedActor). nat_le 1 d.actor) (λ d fit. fit.0.1) dropped fits,
    ) (and_true (follow dropped_before dropped))

entry_fits : (e : Entry) → IsSpelledEntry e → is_entry e ≡ true
unfolding is_entry
entry_fits (Wrote.Mkdir p) fits = refl
entry_fits (Wrote.Rmdir p) fits = refl
entry_fits (Wrote.Created file p) fits = refl
entry_fits (Wrote.Closed file actor command) fits = fits.1.0.1
entry_fits (Wrote.Aborted file) fits = refl
entry_fits (Wrote.Removed p) fits = refl
entry_fits (Wrote.Renamed from to) fits = refl

-- ---- the whole

counters_are : (m : MetaImage) → set_state.Fits m → counters_fit m ≡ true
unfolding counters_fit
counters_are m fits =
    let c = fits.0 in
    let file : m.next_file < 4294967296 = omega (arith, c.1.1.0) in
    let lease : m.next_lease < 18446744073709551616 = omega (arith, c.1.1.1.0) in
    let number : m.next_condemned < 18446744073709551616 = omega (arith, c.1.1.1.1) in
    let history : length m.history < 4294967296 = omega (arith, fits.1.1.1.1.1.1.1.0) in
    and_from _ _ (and_from _ _ (and_from _ _ (lt-ltb _ _ file) (lt-ltb _ _ lease)) (lt-ltb _ _ number)) (lt-ltb _ _ history)

-- the tests in the order of the program: those of the tree's files come with those of the slots, behind what needs no memory
regroup : (v w t once s l c d : Bool) → ((((((((v && w) && true) && (t && once)) && s) && l) && c) && d) && true) ≡ ((((((v && w) && t) && l) && d) && (once && s)) && c)
regroup v w t once s l c d =
    let two = ((v && w) && true) && (t && once) in
    both_ways ((((((two && s) && l) && c) && d) && true)) ((((((v && w) && t) && l) && d) && (once && s)) && c)
    (λ is.
    let a = and_parts (((two && s) && l) && c) d (and_parts ((((two && s) && l) && c) && d) true is).0 in
    let b = and_parts ((two && s) && l) c a.0 in
    let e = and_parts (two && s) l b.0 in
    let f = and_parts two s e.0 in
    let g = and_parts ((v && w) && true) (t && once) f.0 in
    let h = and_parts t once g.1 in
    and_from (((((v && w) && t) && l) && d) && (once && s)) c
    (and_from ((((v && w) && t) && l) && d) (once && s)
    (and_from (((v && w) && t) && l) d
    (and_from ((v && w) && t) l (and_from (v && w) t (and_parts (v && w) true g.0).0 h.0) e.1) a.1) (and_from once s h.1 f.1)) b.1)
    (λ is.
    let a = and_parts (((((v && w) && t) && l) && d) && (once && s)) c is in
    let b = and_parts ((((v && w) && t) && l) && d) (once && s) a.0 in
    let e = and_parts (((v && w) && t) && l) d b.0 in
    let f = and_parts ((v && w) && t) l e.0 in
    let g = and_parts (v && w) t f.0 in
    let h = and_parts once s b.1 in
    and_from ((((two && s) && l) && c) && d) true
    (and_from (((two && s) && l) && c) d
    (and_from ((two && s) && l) c
    (and_from (two && s) l
    (and_from two s (and_from ((v && w) && true) (t && once) (and_from (v && w) true g.0 refl) (and_from t once g.1 h.0)) h.1) f.1) a.1) e.1) refl)

same_parts : (v w s k n t u l x c y d z e : Bool) → k ≡ true → t ≡ u → l ≡ x → c ≡ y → d ≡ z → e ≡ true
    → ((((((((v && w) && k) && (t && n)) && s) && l) && c) && d) && e) ≡ ((((((((v && w) && true) && (u && n)) && s) && x) && y) && z) && true)
same_parts v w s k n t u l x c y d z e one two three four five six = rw (one, two, three, four, five, six) refl

pub rules_are : (m : MetaImage) → set_state.Fits m → is_image m ≡ keeps_rules m
unfolding is_image keeps_rules keeps_alone is_tree
rules_are m fits =
    let f = fits.1 in
    let servers = length m.servers in
    let once = are_distinct (files_in m.tree) in
    let slots = is_slot_table servers m.next_lease m.tree m.slots in
    let tree = bears_tree m.next_file m.tree in
    let leases = bears_leases m.next_lease m.leases in
    let condemned = bears_condemned servers m.next_condemned m.leases m.condemned in
    let dropped = follow dropped_before m.dropped in
    let distinct : (once && slots) ≡ bears_slots servers m.next_lease (with_files [] m.tree) m.slots =
    ap (λ b. b && slots) (sym (once_each m.tree)) ∙ slots_are servers m.next_lease m.tree m.slots f.1.1.0.1 (with_files [] m.tree) refl in
    same_parts (has_servers m) (starts_from_one m) slots (counters_fit m) once
    (are_rising (row_cmp row_path) m.tree && list_all (is_row m.next_file (standing m.tree)) m.tree) tree
    (is_lease_list m.next_lease m.leases) leases (is_condemned_list servers m.next_condemned m.leases m.condemned) condemned
    (is_dropped_list m.dropped) dropped (list_all is_entry m.history)
    (counters_are m fits) (tree_is m.next_file m.tree) (leases_are m.next_lease m.leases f.1.1.1.0.1)
    (condemned_are servers m.next_condemned m.leases m.condemned f.1.1.1.1.0.1) (dropped_are m.dropped f.1.1.1.1.1.0.1)
    (all_fit IsSpelledEntry is_entry (λ e fit. entry_fits e fit) m.history f.1.1.1.1.1.1.1)
    ∙ regroup (has_servers m) (starts_from_one m) tree once slots leases condemned dropped
    ∙ ap (λ b. (((((has_servers m && starts_from_one m) && tree) && leases) && dropped) && b) && condemned) distinct
