-- The index of condemned copies after one was condemned or taken off, and what a look into it
-- tells. For the calls of `Entries`.
use Rattle.std.proofs.Common.{◌≡◌, ◌<◌, ◌∙◌, ap, sym, refl, arith, ℕ, nat_le, ◌==◌}
use Rattle.std.proofs.Common.{Bool, true, false, true≢false, not, ◌&&◌, ◌||◌, List, [], ◌∷◌}
use Rattle.std.proofs.Common.{◌++◌}
use Rattle.std.proofs.Common.{find, Some, None}
use Rattle.std.proofs.lemmas.Bool.{and_parts}
use Rattle.std.proofs.lemmas.Bool.Decides.{nat_tests}
use Rattle.std.proofs.lemmas.Cmp.{ranked, tied_itself, nat_cmp_total}
use Rattle.std.specs.Cmp.{tied_then}
use Rattle.std.specs.List.{list_any}
use Rattle.std.specs.Option.{is_some}
use Rattle.std.specs.Ordering.{is_eq, nat_cmp, ordering_then}
use Rattle.std.specs.Prelude.{⊤}
use Rattle.std.specs.declared.cmp.Ordering.{Ordering}
use Rattle.std.specs.declared.cmp.Ordering.TheVariants.{Less, Equal, Greater}
use Rattle.qfs_base.specs.declared.chunk.BlockId.{BlockId}
use Rattle.qfs_base.specs.declared.chunk.Copy.{Copy}
use Rattle.qfs_base.specs.declared.image.CondemnedEntry.{CondemnedEntry}
use Rattle.qfs_base.specs.EachLaws.{each_weaker}
use Rattle.qfs_base.specs.Table.{Each, IsRising, has_key, place, without}
use Rattle.qfs_laws_tables.specs.EachRow.{each_of_all, found_has}
use Rattle.qfs_laws_tables.specs.Keys.{key-is}
use Rattle.qfs_laws_tables.specs.Placed.{Apart, any-placed}
use Rattle.qfs_laws_tables.specs.SomeRow.{any_of_append, found-any, none_any, some-any}
use Rattle.qfs_model_meta.specs.Slots.{same_block, same_copy}
use Rattle.qfs_blocks.specs.declared.index.CopyRow.{CopyRow}
use Rattle.qfs_blocks.specs.CopyIndex.{IsCopyIndex, copy_cmp, copy_key, copy_row, copy_total}
use Rattle.qfs_blocks.specs.CopyIndex.{place_cmp, server_order}
use Rattle.qfs_blocks.specs.Entries.{entry_cmp, entry_order, is_entry, is_entry_of, is_entry_on}
use Rattle.qfs_blocks.specs.KeyLaws.{number_alone}
use Rattle.qfs_blocks.proofs.RowLaws.{alone, any_alike, any_kept, any_none, one_there, only_one}
use Rattle.qfs_blocks.proofs.RowLaws.{without_none}

-- the row of an entry tells entries apart as their numbers do
tied_as : (number : ℕ) (found entry : CondemnedEntry) → found.condemned.number ≡ number
    → (is_entry number entry ≡ true → entry ≡ found)
    → has_key (copy_cmp (copy_row found)) (copy_row entry) ≡ is_entry number entry
tied_as number found entry own alone =
    elim (is_entry number entry) as (λ b. is_entry number entry ≡ b
    → has_key (copy_cmp (copy_row found)) (copy_row entry) ≡ b) [
      | true ↦ λ is. ap (λ e. has_key (copy_cmp (copy_row found)) (copy_row e)) (alone is)
          ∙ ap is_eq (tied_itself copy_total (copy_row found))
      | false ↦ λ is.
          let front = is_eq (place_cmp (copy_row found) (copy_row entry)) in
          sym (tied_then (place_cmp (copy_row found) (copy_row entry))
          (nat_cmp found.condemned.number entry.condemned.number))
          ∙ ap (λ b. front && b)
          (ap (λ n. is_eq (nat_cmp n entry.condemned.number)) own ∙ is)
          ∙ never front
    ] refl
  where
    never : (b : Bool) → (b && false) ≡ false
    never true = refl
    never false = refl

-- an entry went, and its row with it
pub index_taken : (number : ℕ) (found : CondemnedEntry) (rows : List CopyRow)
    (entries : List CondemnedEntry) → IsCopyIndex rows entries → IsRising entry_cmp entries
    → found.condemned.number ≡ number → find (is_entry number) entries ≡ Some found
    → IsCopyIndex (without (has_key (copy_cmp (copy_row found))) rows)
    (without (is_entry number) entries)
index_taken number found rows entries is rising own at test =
    let tied = λ (row : CopyRow). has_key (copy_cmp (copy_row found)) row in
    any_kept test (λ row. not (tied row)) rows
    ∙ is (λ row. not (tied row) && test row)
    ∙ any_alike _ _ entries (each_weaker _ _ (λ entry one.
    ap (λ b. not b && test (copy_row entry)) (tied_as number found entry own one)) entries
    (alone (entry_order number) (number_alone number) entries rising found at))
    ∙ sym (any_kept (λ entry. test (copy_row entry)) (λ entry. not (is_entry number entry)) entries)

-- an entry above all others was put, and its row was placed
pub index_put : (new : CondemnedEntry) (rows : List CopyRow) (entries : List CondemnedEntry)
    → IsCopyIndex rows entries
    → Each (λ (entry : CondemnedEntry). entry.condemned.number < new.condemned.number) entries
    → IsCopyIndex (place copy_cmp (copy_row new) rows) (entries ++ new ∷ [])
index_put new rows entries is below test =
    any-placed copy_cmp test (copy_row new) rows row_apart
    ∙ ap (λ b. test (copy_row new) || b) (is test)
    ∙ turned (test (copy_row new)) (list_any (λ entry. test (copy_row entry)) entries)
    ∙ sym (any_of_append (λ entry. test (copy_row entry)) entries (new ∷ []))
  where
    turned : (a b : Bool) → (a || b) ≡ (b || (a || false))
    turned true true = refl
    turned true false = refl
    turned false true = refl
    turned false false = refl

    high : ℕ
    high = new.condemned.number

    reaches : (row : CopyRow) (o : Ordering) → nat_cmp high row.number ≡ o → is_eq o ≡ true
        → nat_le high row.number ≡ true
    reaches row Equal tie is =
        let own : high ≡ row.number = ranked _ _ Equal (sym tie) in grind (arith, nat_tests)
    reaches row Less tie is = absurd (true≢false (sym is))
    reaches row Greater tie is = absurd (true≢false (sym is))

    apart : (row : CopyRow) → nat_le high row.number ≡ false
        → copy_cmp (copy_row new) row ≡ Equal → ⊥
    apart row off tie =
        let front = place_cmp (copy_row new) row in
        let behind = nat_cmp high row.number in
        let both = and_parts (is_eq front) (is_eq behind) (tied_then front behind ∙ ap is_eq tie) in
        true≢false (sym (reaches row behind refl both.1) ∙ off)

    row_apart : Apart copy_cmp (copy_row new) rows
    row_apart =
        each_weaker _ _ apart rows (none_any (λ row. nat_le high row.number) rows
        (is (λ row. nat_le high row.number) ∙ any_none _ entries
        (each_weaker (λ (entry : CondemnedEntry). entry.condemned.number < high) _
        (λ entry less. under entry.condemned.number less) entries below)))
      where
        under : (number : ℕ) → number < high → nat_le high number ≡ false
        under number less = grind (arith, nat_tests)

-- whether a copy of a slot is condemned
pub known_copy : (block : BlockId) (slot : ℕ) (copy : Copy) (rows : List CopyRow)
    (entries : List CondemnedEntry) → IsCopyIndex rows entries
    → is_some (find (has_key (place_cmp (copy_key block slot copy))) rows)
    ≡ list_any (is_entry_of block slot copy) entries
unfolding same_block same_copy
known_copy block slot copy rows entries is =
    some-any (has_key (place_cmp (copy_key block slot copy))) rows
    ∙ is (has_key (place_cmp (copy_key block slot copy)))
    ∙ any_alike _ (is_entry_of block slot copy) entries (each_of_all _ alike entries)
  where
    turned : (s l f i j v : Bool)
        → ((((s && l) && (f && i)) && j) && v) ≡ (((f && i) && j) && ((s && l) && v))
    turned true true true true j v = refl
    turned true true true false j v = refl
    turned true true false i j v = refl
    turned true false true true true v = refl
    turned true false true true false v = refl
    turned true false true false j v = refl
    turned true false false i j v = refl
    turned false l true true true v = refl
    turned false l true true false v = refl
    turned false l true false j v = refl
    turned false l false i j v = refl

    -- the tests of a key's parts, one after another
    parts : (a b c d e f : Ordering) → is_eq (ordering_then (ordering_then (ordering_then
        (ordering_then a b) (ordering_then c d)) e) f)
        ≡ (((((is_eq a && is_eq b) && (is_eq c && is_eq d)) && is_eq e) && is_eq f))
    parts a b c d e f =
        sym (tied_then (ordering_then (ordering_then (ordering_then a b) (ordering_then c d)) e) f)
        ∙ ap (λ t. t && is_eq f)
        (sym (tied_then (ordering_then (ordering_then a b) (ordering_then c d)) e)
        ∙ ap (λ t. t && is_eq e) (sym (tied_then (ordering_then a b) (ordering_then c d))
        ∙ ap (λ t. t && is_eq (ordering_then c d)) (sym (tied_then a b))
        ∙ ap (λ t. (is_eq a && is_eq b) && t) (sym (tied_then c d))))

    alike : (entry : CondemnedEntry)
        → has_key (place_cmp (copy_key block slot copy)) (copy_row entry)
        ≡ is_entry_of block slot copy entry
    alike entry =
        let it = copy_row entry in
        parts (nat_cmp copy.server it.server) (nat_cmp copy.life it.life)
        (nat_cmp block.file it.block.file) (nat_cmp block.index it.block.index)
        (nat_cmp slot it.slot) (nat_cmp copy.version it.version)
        ∙ (λ k. (((((key-is copy.server it.server k && key-is copy.life it.life k)
        && (key-is block.file it.block.file k && key-is block.index it.block.index k))
        && key-is slot it.slot k) && key-is copy.version it.version k)))
        ∙ turned (it.server == copy.server) (it.life == copy.life)
        (it.block.file == block.file) (it.block.index == block.index) (it.slot == slot)
        (it.version == copy.version)

-- the entry of a row of a server is there, and on that server
module _ (server : ℕ) (row : CopyRow) (rows : List CopyRow) (entries : List CondemnedEntry)
    (is : IsCopyIndex rows entries)
    (at : find (has_key (server_order server)) rows ≡ Some row) where
  some_on : list_any (λ entry. is_entry row.number entry && is_entry_on server entry) entries ≡ true
  some_on =
      let test = λ (other : CopyRow).
      is_eq (nat_cmp row.number other.number) && (other.server == server) in
      sym (is test) ∙ found-any (has_key (server_order server)) test rows row at both
    where
      both : (is_eq (nat_cmp row.number row.number) && (row.server == server)) ≡ true
      both =
          let own : is_eq (nat_cmp row.number row.number) ≡ true =
          ap is_eq (tied_itself nat_cmp_total row.number) in
          ap (λ b. b && (row.server == server)) own ∙ sym (key-is server row.server)
          ∙ (found_has (λ _. ⊤) (has_key (server_order server)) rows row at
          (each_of_all _ (λ _. tt) rows)).1

  pub entry_there : list_any (is_entry row.number) entries ≡ true
  entry_there = one_there (is_entry row.number) (is_entry_on server) entries some_on

  pub entry_on : IsRising entry_cmp entries
      → Each (λ entry. is_entry row.number entry ≡ true → is_entry_on server entry ≡ true) entries
  entry_on rising =
      only_one (entry_order row.number) (number_alone row.number) (is_entry_on server) entries rising
      some_on

-- where the index has no row of a server, no entry is on it
pub none_on : (server : ℕ) (rows : List CopyRow) (entries : List CondemnedEntry)
    → IsCopyIndex rows entries → find (has_key (server_order server)) rows ≡ None
    → without (is_entry_on server) entries ≡ entries
none_on server rows entries is none =
    without_none (is_entry_on server) entries (none_any (is_entry_on server) entries
    (any_alike (is_entry_on server) (λ entry. has_key (server_order server) (copy_row entry))
    entries
    (each_of_all _ (λ entry. sym (key-is server entry.condemned.copy.server)) entries)
    ∙ sym (is (has_key (server_order server)))
    ∙ sym (some-any (has_key (server_order server)) rows) ∙ ap is_some none))
