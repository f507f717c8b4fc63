-- The copies that a lease lists are current. For the law `stays_sound`.
use Rattle.qfs_base.specs.Table.{Each}
use Rattle.qfs_base.specs.declared.chunk.BlockId.{BlockId}
use Rattle.qfs_base.specs.declared.chunk.Copy.{Copy}
use Rattle.qfs_base.specs.declared.image.MetaImage.{MetaImage}
use Rattle.qfs_base.specs.declared.image.ServerView.{ServerView}
use Rattle.qfs_base.specs.declared.image.SlotRow.{SlotRow}
use Rattle.qfs_model_meta.specs.Lists.{NineCopies, listed_blocks, listed_nine, listed_others}
use Rattle.qfs_model_meta.specs.Lists.{no_sources, one_source}
use Rattle.qfs_model_meta.specs.Past.{GivenLease, ListedCopy, Past, listed_copy_of, listed_in}
use Rattle.qfs_model_meta.specs.Past.{listed_in_file}
use Rattle.qfs_model_meta.specs.Servers.{is_listed, listed_copy}
use Rattle.qfs_model_meta.specs.Slots.{slot_at}
use Rattle.qfs_model_meta.specs.Sound.{is_lease_of}
use Rattle.std.proofs.Common.{Bool, List, None, Option, Some, [], arith, false, map, refl, subst}
use Rattle.std.proofs.Common.{suc, sym, true, zero, ℕ, ◌&&◌, ◌+◌, ◌==◌, ◌∙◌, ◌∷◌, ◌≡◌}
use Rattle.std.specs.Bool.{then_some}
use Rattle.std.specs.List.{cons_option, enumerate_from, list_any, range_with_len}
use Rattle.std.specs.Prelude.{IsTrue, filter_map, flat_map, replicate, slice_set}
use Rattle.qfs_laws_meta.specs.Replies.{ListsCurrent}
use Rattle.qfs_base.specs.EachLaws.{each_append}

-- a place of nine that has a copy has the current one of its slot
abbrev pub IsCurrentAt : List SlotRow → BlockId → ℕ × Option Copy → Type 0
IsCurrentAt slots block at =
    (copy : Copy) → at.1 ≡ Some copy → (slot_at slots block at.0).current ≡ Some copy

abbrev pub AreCurrent : List SlotRow → BlockId → NineCopies → Type 0
AreCurrent slots block nine = Each (IsCurrentAt slots block) (enumerate_from 0 nine)

listed-current : (servers : List ServerView) (o : Option Copy) (copy : Copy)
    → listed_copy servers o ≡ Some copy → o ≡ Some copy
unfolding listed_copy
listed-current servers None copy e = absurd (cc)
listed-current servers (Some other) copy e = one (is_listed servers other) e
  where
    one : (b : Bool) → then_some b other ≡ Some copy → Some other ≡ Some copy
    one true e = e
    one false e = absurd (cc)

nine-from : (servers : List ServerView) (slots : List SlotRow) (block : BlockId) (k n : ℕ)
    → Each (IsCurrentAt slots block)
    (enumerate_from k (map (λ slot. listed_copy servers (slot_at slots block slot).current)
    (range_with_len k n)))
nine-from servers slots block k zero = tt
nine-from servers slots block k (suc n) =
    ((λ copy e. listed-current servers _ copy e), nine-from servers slots block (k + 1) n)

pub nine-current : (servers : List ServerView) (slots : List SlotRow) (block : BlockId)
    → AreCurrent slots block (listed_nine servers slots block)
unfolding listed_nine
nine-current servers slots block = nine-from servers slots block 0 9

-- one of them is set
set-each : (P : ℕ × Option Copy → Type 0) (k i : ℕ) (xs : NineCopies) (v : Option Copy)
    → P (k + i, v) → Each P (enumerate_from k xs) → Each P (enumerate_from k (slice_set xs i v))
set-each P k i [] v p each = tt
set-each P k zero (x ∷ xs) v p each =
    (let e : k + 0 ≡ k = omega arith in subst (λ n. P (n, v)) e p, each.1)
set-each P k (suc i) (x ∷ xs) v p each = (
  each.0,
  set-each P (k + 1) i xs v
      (let e : k + suc i ≡ k + 1 + i = omega arith in subst (λ n. P (n, v)) e p) each.1,
)

pub others-current : (servers : List ServerView) (slots : List SlotRow) (block : BlockId) (slot : ℕ)
    → AreCurrent slots block (listed_others servers slots block slot)
unfolding listed_others
others-current servers slots block slot =
    set-each (IsCurrentAt slots block) 0 slot (listed_nine servers slots block) None
    (λ copy e. absurd (cc)) (nine-current servers slots block)

pub none-current : (slots : List SlotRow) (block : BlockId) → AreCurrent slots block no_sources
unfolding no_sources
none-current slots block = from 0 9
  where
    from : (k n : ℕ) → Each (IsCurrentAt slots block) (enumerate_from k (replicate n None))
    from k zero = tt
    from k (suc n) = ((λ copy e. absurd (cc)), from (k + 1) n)

pub one-current : (slots : List SlotRow) (block : BlockId) (slot : ℕ) (copy : Copy)
    → (slot_at slots block slot).current ≡ Some copy → AreCurrent slots block (one_source slot copy)
unfolding one_source
one-current slots block slot copy is =
    set-each (IsCurrentAt slots block) 0 slot no_sources (Some copy)
    (λ other e. let z : 0 + slot ≡ slot = omega arith in subst
    (λ n. (slot_at slots block n).current ≡ Some other) (sym z) (is ∙ e)) (none-current slots block)

-- what a lease lists of them
pub listed-each : (past : Past) (m : MetaImage) (lease : ℕ) (block : BlockId) (nine : NineCopies)
    → IsTrue (list_any (λ (l : GivenLease). (l.lease == lease) && (l.file == block.file))
    past.leases)
    → AreCurrent m.slots block nine
    → Each (ListsCurrent past m) (listed_in lease block nine)
unfolding listed_in listed_copy_of is_lease_of
listed-each past m lease block nine given each = go (enumerate_from 0 nine) each
  where
    one : (s : ℕ) (o other : Option Copy) (rest : List ListedCopy)
        → IsCurrentAt m.slots block (s, other) → other ≡ o → Each (ListsCurrent past m) rest
        → Each (ListsCurrent past m) (cons_option (listed_copy_of lease block s o) rest)
    one s None other rest current e each = each
    one s (Some copy) other rest current e each = ((current copy e, given), each)

    go : (xs : List (ℕ × Option Copy)) → Each (IsCurrentAt m.slots block) xs
        → Each (ListsCurrent past m) (filter_map
        (λ (s : ℕ × Option Copy). listed_copy_of lease block s.0 s.1) xs)
    go [] each = tt
    go (x ∷ xs) each = one x.0 x.1 x.1 _ each.0 refl (go xs each.1)

pub file-each : (past : Past) (m : MetaImage) (lease file count : ℕ)
    → IsTrue (list_any (λ (l : GivenLease). (l.lease == lease) && (l.file == file)) past.leases)
    → Each (ListsCurrent past m) (listed_in_file lease file
    (listed_blocks m.servers m.slots file count))
unfolding listed_in_file listed_blocks
file-each past m lease file count given = go 0 count
  where
    go : (k n : ℕ)
        → Each (ListsCurrent past m) (flat_map
        (λ (b : ℕ × NineCopies). listed_in lease (record { file = file; index = b.0 }) b.1)
        (enumerate_from k (map (λ index. listed_nine m.servers m.slots
        (record { file = file; index = index })) (range_with_len k n))))
    go k zero = tt
    go k (suc n) =
        each_append (ListsCurrent past m)
        (listed_in lease (record { file = file; index = k })
        (listed_nine m.servers m.slots (record { file = file; index = k }))) _
        (listed-each past m lease (record { file = file; index = k })
        (listed_nine m.servers m.slots (record { file = file; index = k })) given
        (nine-current m.servers m.slots (record { file = file; index = k }))) (go (k + 1) n)
