-- What changes keep of the metaserver's state.
use Rattle.std.proofs.Common.{ℕ, ◌+◌, ◌<◌, ◌^◌, not, List, [], ◌∷◌, ◌++◌, length, Option, refl, arith, length-append}
use Rattle.std.proofs.lemmas.List.Elements.{All-filter}
use Rattle.std.specs.Option.{IfSome}
use Rattle.qfs_base.specs.declared.image.Grant.{Grant}
use Rattle.qfs_base.specs.declared.image.MetaImage.{MetaImage}
use Rattle.qfs_base.specs.declared.image.SlotRow.{SlotRow}
use Rattle.qfs_base.specs.declared.image.TreeRow.{TreeRow}
use Rattle.qfs_base.specs.NameTree.{PathNames, added, row_cmp}
use Rattle.qfs_base.specs.declared.chunk.Copy.{Copy}
use Rattle.qfs_base.specs.declared.request.SlotId.{SlotId}
use Rattle.qfs_base.specs.Table.{IsRising}
use Rattle.qfs_model_meta.specs.Apply.{apply, add_file, write_entry, with_slots, finish_lease}
use Rattle.qfs_base.specs.declared.change.Change.TheVariants.{AddFile, CloseFile, GiveLease, EndLease}
use Rattle.qfs_model_meta.specs.Condemned.{condemn_any}
use Rattle.qfs_model_meta.specs.Slots.{change_state, sealed_slot, is_of_file, seal_file, forget_file, with_slot, granted_slot, granted_copy, slot_cmp, slot_at, never_granted}
use Rattle.qfs_model_meta.specs.Step.{next_turn}
use Rattle.qfs_model_meta.specs.TreeRows.{row_path, has_file, add_row, file_row, take_file, close_file, close_row}
use Rattle.qfs_meta.specs.Condemning.{aborting}
use Rattle.qfs_meta.specs.Granting.{granting}
use Rattle.qfs_meta.specs.Kept.{IsKept, IsGrantedOnServer, AreGrantedOnServers, IsServerNumber}
use Rattle.qfs_base.specs.EachLaws.{each_all, each_weaker}
use Rattle.qfs_laws_tables.specs.EachRow.{each_change, each_of, each_place}
use Rattle.qfs_laws_tables.specs.InOrder.{change_rises, filter_rises, place_rises}
use Rattle.qfs_laws_slots.specs.Condemning.{condemn_any-cases}
use Rattle.qfs_laws_slots.specs.Slots.{slot_cmp_total, slot_has}
use Rattle.qfs_laws_tree.specs.TreeFacts.{tree_total}
use Rattle.qfs_meta.proofs.SlotLaws.{changed_rises}

one_more : {X : Type 0} (xs : List X) (x : X) → length xs + 1 < 2 ^ 32 → length (xs ++ x ∷ []) < 2 ^ 32
one_more xs x h = omega (arith, length-append xs (x ∷ []))

sealed_rows : (file : ℕ) (rows : List SlotRow) → AreGrantedOnServers rows → AreGrantedOnServers (seal_file file rows)
unfolding seal_file change_state sealed_slot
sealed_rows file rows granted =
    each_all IsGrantedOnServer (seal_file file rows)
    (each_change IsGrantedOnServer IsGrantedOnServer (is_of_file file) (change_state sealed_slot) (λ row of granted. tt) (λ row other granted. granted) rows
    (each_of IsGrantedOnServer rows granted))

sealed_rise : (file : ℕ) (rows : List SlotRow) → IsRising slot_cmp rows → IsRising slot_cmp (seal_file file rows)
unfolding seal_file
sealed_rise file = changed_rises sealed_slot (is_of_file file)

closed_rise : (file : ℕ) (rows : List TreeRow) → IsRising (row_cmp row_path) rows → IsRising (row_cmp row_path) (close_file file rows)
unfolding close_file close_row
closed_rise file = change_rises (row_cmp row_path) (has_file file) close_row (λ a b. refl) (λ a b. refl)

pub kept-create : (m : MetaImage) (path : PathNames) (actor command len : ℕ) → IsKept m →
    m.next_file + 1 < 2 ^ 32 → length m.history + 1 < 2 ^ 32 → IsKept (next_turn (apply m (AddFile path actor command len)))
unfolding next_turn apply add_file write_entry add_row added file_row
kept-create m path actor command len kept file place = record {
  files = file;
  leases = kept.leases;
  condemned = kept.condemned;
  places = one_more m.history _ place;
  servers = kept.servers;
  tree = place_rises tree_total _ m.tree kept.tree;
  slots = kept.slots;
  grants = kept.grants;
}

pub kept-close : (m : MetaImage) (file actor command : ℕ) → IsKept m →
    length m.history + 1 < 2 ^ 32 → IsKept (next_turn (apply m (CloseFile file actor command)))
unfolding next_turn apply write_entry with_slots close_file
kept-close m file actor command kept place = record {
  files = kept.files;
  leases = kept.leases;
  condemned = kept.condemned;
  places = one_more m.history _ place;
  servers = kept.servers;
  tree = closed_rise file m.tree kept.tree;
  slots = sealed_rise file m.slots kept.slots;
  grants = sealed_rows file m.slots kept.grants;
}

pub kept-lease : (m : MetaImage) (actor file until : ℕ) → IsKept m → m.next_lease + 1 < 2 ^ 64 → IsKept (next_turn (apply m (GiveLease actor file until)))
unfolding next_turn apply
kept-lease m actor file until kept lease = record {
  files = kept.files;
  leases = lease;
  condemned = kept.condemned;
  places = kept.places;
  servers = kept.servers;
  tree = kept.tree;
  slots = kept.slots;
  grants = kept.grants;
}

pub kept-release : (m : MetaImage) (lease : ℕ) → IsKept m → IsKept (next_turn (apply m (EndLease lease)))
unfolding next_turn apply finish_lease
kept-release m lease kept = record {
  files = kept.files;
  leases = kept.leases;
  condemned = kept.condemned;
  places = kept.places;
  servers = kept.servers;
  tree = kept.tree;
  slots = kept.slots;
  grants = kept.grants;
}

-- what condemning a copy leaves alone
kept_any : (id : SlotId) (copy : Option Copy) (m : MetaImage) → IsKept m → (condemn_any id.block id.slot m copy).next_condemned < 2 ^ 64 →
    IsKept (condemn_any id.block id.slot m copy)
kept_any id copy m kept =
    condemn_any-cases (λ (n : MetaImage). n.next_condemned < 2 ^ 64 → IsKept n) id.block id.slot m copy (λ _ _. kept) (λ _ _ _ _. kept)
    (λ _ _ _ fits. record {
      files = kept.files;
      leases = kept.leases;
      condemned = fits;
      places = kept.places;
      servers = kept.servers;
      tree = kept.tree;
      slots = kept.slots;
      grants = kept.grants;
    })

pub kept-grant : (m : MetaImage) (id : SlotId) (server actor : ℕ) → IsKept m → IsServerNumber server → (granting id server actor m).next_condemned < 2 ^ 64 →
    IsKept (next_turn (granting id server actor m))
unfolding next_turn with_slot granted_slot
kept-grant m id server actor kept number fits =
    let rest = kept_any id (granted_copy (slot_at m.slots id.block id.slot).grant) m kept fits in
    record {
      files = rest.files;
      leases = rest.leases;
      condemned = rest.condemned;
      places = rest.places;
      servers = rest.servers;
      tree = rest.tree;
      slots = place_rises slot_cmp_total _ m.slots kept.slots;
      grants = each_all IsGrantedOnServer _ (each_place IsGrantedOnServer slot_cmp _ m.slots number (each_of IsGrantedOnServer m.slots kept.grants));
    }

pub kept-abort : (m : MetaImage) (file : ℕ) → IsKept m → length m.history + 1 < 2 ^ 32 → (aborting file m).next_condemned < 2 ^ 64 → IsKept (next_turn (aborting file m))
unfolding next_turn forget_file take_file
kept-abort m file kept place fits = record {
  files = kept.files;
  leases = kept.leases;
  condemned = fits;
  places = one_more m.history _ place;
  servers = kept.servers;
  tree = filter_rises (row_cmp row_path) (λ row. not (has_file file row)) m.tree kept.tree;
  slots = filter_rises slot_cmp (λ row. not (is_of_file file row)) m.slots kept.slots;
  grants = All-filter (λ row. not (is_of_file file row)) IsGrantedOnServer m.slots kept.grants;
}

-- the pending grant of a slot is on a server
pub granted_at : (slots : List SlotRow) (id : SlotId) → AreGrantedOnServers slots → IfSome (slot_at slots id.block id.slot).grant (λ (grant : Grant). IsServerNumber grant.copy.server)
unfolding never_granted
granted_at slots id granted =
    slot_has (λ state. IfSome state.grant (λ (grant : Grant). IsServerNumber grant.copy.server)) slots id.block id.slot tt
    (each_weaker _ _ (λ row granted _ _. granted) slots (each_of IsGrantedOnServer slots granted))
