-- The failed servers of each slot of an image are a set, as the program writes them.
use Rattle.std.proofs.Common.{◌≡◌, refl, arith, ℕ, ◌≤◌, true, List, [], ◌∷◌, length}
use Rattle.std.specs.Prelude.{nat_le}
use Rattle.std.specs.List.{AllByRecursion, list_all}
use Rattle.std.proofs.lemmas.Bool.{and_from, and_parts, le-leb, leb-true}
use Rattle.qfs_base.specs.declared.image.MetaImage.{MetaImage}
use Rattle.qfs_base.specs.declared.image.SlotRow.{SlotRow}
use Rattle.qfs_base.specs.declared.image.TreeRow.{TreeRow}
use Rattle.qfs_model_disks.specs.Image.{image, slot_row}
use Rattle.qfs_model_disks.specs.Tests.{has_servers, is_image, is_server_of, is_slot_row}
use Rattle.qfs_model_disks.specs.Tests.{is_slot_table}
use Rattle.qfs_spelling.specs.Sets.{set_row}
use Rattle.qfs_image.specs.Kept.{keep_sets, keeps_set, set_state}

-- ---- an image keeps them

within_64 : (servers : ℕ) → servers ≤ 64 → (failed : List ℕ) → list_all (is_server_of servers) failed ≡ true → list_all (λ server. nat_le server 64) failed ≡ true
unfolding is_server_of
within_64 servers few [] all = refl
within_64 servers few (server ∷ failed) all =
    let parts = and_parts _ _ all in
    let within : server ≤ servers = leb-true server servers (and_parts _ _ parts.0).1 in
    and_from _ _ (le-leb server 64 (omega arith)) (within_64 servers few failed parts.1)

row_keeps_set : (servers next_lease : ℕ) (tree : List TreeRow) (row : SlotRow) → servers ≤ 64 → is_slot_row servers next_lease tree row ≡ true → keeps_set row ≡ true
unfolding is_slot_row
row_keeps_set servers next_lease tree row few is =
    let six = (and_parts _ _ (and_parts _ _ is).0).0 in
    let last = and_parts _ _ six in
    and_from _ _ last.1 (within_64 servers few row.state.failed (and_parts _ _ last.0).1)

rows_keep_sets : (servers next_lease : ℕ) (tree : List TreeRow) (rows : List SlotRow) → servers ≤ 64 → list_all (is_slot_row servers next_lease tree) rows ≡ true
    → list_all keeps_set rows ≡ true
rows_keep_sets servers next_lease tree [] few all = refl
rows_keep_sets servers next_lease tree (row ∷ rows) few all =
    let parts = and_parts _ _ all in
    and_from _ _ (row_keeps_set servers next_lease tree row few parts.0) (rows_keep_sets servers next_lease tree rows few parts.1)

pub image_keeps_sets : (m : MetaImage) → is_image m ≡ true → keep_sets m ≡ true
unfolding is_image has_servers is_slot_table
image_keeps_sets m is =
    let five = (and_parts _ _ (and_parts _ _ (and_parts _ _ (and_parts _ _ is).0).0).0).0 in
    let slots = and_parts _ _ five in
    let servers = (and_parts _ _ (and_parts _ _ (and_parts _ _ slots.0).0).0).0 in
    let few : length m.servers ≤ 64 = leb-true (length m.servers) 64 (and_parts _ _ servers).1 in
    rows_keep_sets (length m.servers) m.next_lease m.tree m.slots few (and_parts _ _ slots.1).1

-- ---- what is written

rows_fit : (rows : List SlotRow) → AllByRecursion slot_row.Fits rows → list_all keeps_set rows ≡ true → AllByRecursion set_row.Fits rows
rows_fit [] fits keep = tt
rows_fit (row ∷ rows) fits keep =
    let parts = and_parts _ _ keep in
    let f = fits.0 in (
      (f.0, (f.1.0, (f.1.1.0, (f.1.1.1.0, (f.1.1.1.1.0, (f.1.1.1.1.1, parts.0)))))),
      rows_fit rows fits.1 parts.1,
    )

pub set_state_fits : (m : MetaImage) → image.Fits m → set_state.Fits m
set_state_fits m fits =
    let f = fits.0 in
    let slots = f.1.1.1.0 in
    (f.0, (f.1.0, (f.1.1.0, ((slots.0, rows_fit m.slots slots.1 (image_keeps_sets m fits.1)), f.1.1.1.1))))
