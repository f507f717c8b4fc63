-- What a reply adds to the past: copies that a lease lists, and a deletion that is ordered. For the
-- law `stays_sound`.
use Rattle.qfs_base.specs.Table.{Each}
use Rattle.qfs_base.specs.declared.chunk.BlockId.{BlockId}
use Rattle.qfs_base.specs.declared.chunk.Copy.{Copy}
use Rattle.qfs_base.specs.declared.image.MetaImage.{MetaImage}
use Rattle.qfs_base.specs.declared.reply.Condemned.{Condemned}
use Rattle.qfs_model_meta.specs.Past.{ListedCopy, Past, was_granted}
use Rattle.qfs_model_meta.specs.Slots.{slot_at}
use Rattle.qfs_model_meta.specs.Sound.{IsLetGo, KeepsListed, is_lease_of}
use Rattle.std.proofs.Common.{List, Some, [], ap, inl, subst, sym, ℕ, ◌++◌, ◌∙◌, ◌∷◌, ◌≡◌}
use Rattle.std.specs.List.{list_any}
use Rattle.std.specs.Option.{option_to_list}
use Rattle.std.specs.Prelude.{IsTrue}
use Rattle.qfs_laws_meta.specs.Kept.{Keeps}
use Rattle.qfs_laws_meta.specs.Known.{Knows}
use Rattle.qfs_laws_slots.specs.Granted.{Granted, is_copy-is}
use Rattle.qfs_laws_tables.specs.Distinct.{copies}
use Rattle.qfs_base.specs.EachLaws.{each_append, each_weaker}
use Rattle.qfs_laws_tables.specs.EachRow.{each_push}

-- a lease that was given lists a current copy of its file
abbrev pub ListsCurrent : Past → MetaImage → ListedCopy → Type 0
ListsCurrent past m l =
    ((slot_at m.slots l.of_slot.block l.of_slot.slot).current ≡ Some l.of_slot.copy) × IsTrue
    (list_any (is_lease_of l) past.leases)

abbrev pub with_listed : List ListedCopy → Past → Past
with_listed copies past = record past { listed = past.listed ++ copies }

granted-current : (past : Past) (m : MetaImage) (block : BlockId) (slot : ℕ) (copy : Copy)
    → Knows past m → (slot_at m.slots block slot).current ≡ Some copy → Granted past block slot copy
granted-current past m block slot copy k at =
    let each : Each (Granted past block slot) (option_to_list (Some copy)) = subst
    (λ o. Each (Granted past block slot) (option_to_list o)) at (k.current block slot) in
    each.0

pub listed-kept : (past : Past) (m : MetaImage) (copies : List ListedCopy)
    → Each (ListsCurrent past m) copies → Keeps past m → Keeps (with_listed copies past) m
unfolding was_granted
listed-kept past m copies each h = record {
  fits = h.fits;
  knows = record {
    once = h.knows.once;
    of_files = h.knows.of_files;
    behind = h.knows.behind;
    counted = h.knows.counted;
    different = h.knows.different;
    current = h.knows.current;
    pending = h.knows.pending;
    condemned = h.knows.condemned;
    ordered = h.knows.ordered;
    listed = each_append _ past.listed copies h.knows.listed
        (each_weaker (ListsCurrent past m) _
        (λ l c. granted-current past m l.of_slot.block l.of_slot.slot l.of_slot.copy h.knows c.0)
        copies each);
  };
  lives = h.lives;
  leases = record {
    once = h.leases.once;
    numbers = h.leases.numbers;
    given = h.leases.given;
    listed = each_append _ past.listed copies h.leases.listed
        (each_weaker (ListsCurrent past m) _ (λ l c. c.1) copies each);
    kept = each_append (KeepsListed m) past.listed copies h.leases.kept
        (each_weaker (ListsCurrent past m) (KeepsListed m) (λ l c _. inl c.0) copies each);
  };
  ordered = each_weaker (IsLetGo past m) _ (λ c go. record {
    not_current = go.not_current;
    not_granted = go.not_granted;
    not_listed = each_append _ past.listed copies go.not_listed (each_weaker (ListsCurrent past m) _
        (λ l at live is. let same = is_copy-is c.block c.slot c.copy l.of_slot is in
        go.not_current (sym (λ i. (slot_at m.slots (same.0 i) (same.1 i)).current) ∙ at.0 ∙ ap Some
        same.2)) copies each);
  }) past.ordered h.ordered;
  one = h.one;
  tree = h.tree;
}

-- a deletion is ordered of a copy that is let go
pub ordered-kept : (past : Past) (m : MetaImage) (c : Condemned) → IsLetGo past m c
    → Granted past c.block c.slot c.copy → Keeps past m
    → Keeps (record past { ordered = past.ordered ++ c ∷ [] }) m
unfolding was_granted
ordered-kept past m c go was h = record {
  fits = h.fits;
  knows = record {
    once = h.knows.once;
    of_files = h.knows.of_files;
    behind = h.knows.behind;
    counted = h.knows.counted;
    different = h.knows.different;
    current = h.knows.current;
    pending = h.knows.pending;
    condemned = h.knows.condemned;
    listed = h.knows.listed;
    ordered = each_push _ past.ordered c h.knows.ordered was;
  };
  lives = h.lives;
  leases = record {
    once = h.leases.once;
    numbers = h.leases.numbers;
    given = h.leases.given;
    listed = h.leases.listed;
    kept = h.leases.kept;
  };
  ordered =
      each_push _ past.ordered c (each_weaker (IsLetGo past m) _
      (λ c go. record {
        not_current = go.not_current;
        not_granted = go.not_granted;
        not_listed =
            go.not_listed;
      }) past.ordered h.ordered)
      (record {
        not_current = go.not_current;
        not_granted = go.not_granted;
        not_listed =
            go.not_listed;
      });
  one = h.one;
  tree = h.tree;
}
