-- Condemned copies that are found, put and swept. For the calls of `Entries`.
use Rattle.std.proofs.Common.{◌≡◌, ◌<◌, ◌≤◌, ◌+◌, ◌∙◌, ap, sym, refl, arith, ℕ, nat_lt, true}
use Rattle.std.proofs.Common.{false, true≢false, ◌&&◌, List, [], ◌∷◌, ◌++◌, find, filter, Option}
use Rattle.std.proofs.Common.{Some, None}
use Rattle.std.proofs.lemmas.Cmp.{nat_cmp_total, on_total, ranked}
use Rattle.std.specs.Cmp.{IsTotalOrder, nat_cmp_is}
use Rattle.std.specs.Prelude.{⊤}
use Rattle.std.specs.declared.cmp.Ordering.TheVariants.{Less, Equal}
use Rattle.qfs_base.specs.declared.image.CondemnedEntry.{CondemnedEntry}
use Rattle.qfs_base.specs.declared.image.Lease.{Lease}
use Rattle.qfs_base.specs.declared.image.ServerView.{ServerView}
use Rattle.qfs_base.specs.EachLaws.{each_weaker}
use Rattle.qfs_base.specs.Table.{Each, IsRising, has_key, place, without}
use Rattle.qfs_laws_tables.specs.EachRow.{each_of_all, found_has, none_found}
use Rattle.qfs_laws_tables.specs.Keys.{equal-is}
use Rattle.qfs_blocks.specs.Entries.{above_order, entry_cmp, entry_may_go, entry_order, is_entry}
use Rattle.qfs_blocks.specs.Entries.{is_ordered, is_swept, next_entry, sweep_entry}
use Rattle.qfs_blocks.specs.KeyLaws.{number_alone}
use Rattle.qfs_blocks.proofs.RowLaws.{alone, find_alike, find_kept, key_passes, placed_last}
use Rattle.qfs_blocks.proofs.RowLaws.{without_alike, without_none}

pub entry_cmp_total : IsTotalOrder entry_cmp
entry_cmp_total = on_total (λ (entry : CondemnedEntry). entry.condemned.number) nat_cmp_total

pub below_new : (new : CondemnedEntry) (next : ℕ) (entries : List CondemnedEntry)
    → Each (λ (entry : CondemnedEntry). entry.condemned.number < next) entries
    → next ≤ new.condemned.number → Each (λ entry. entry_cmp entry new ≡ Less) entries
below_new new next entries below high =
    each_weaker (λ (entry : CondemnedEntry). entry.condemned.number < next) _
    (λ entry less. sym
    (nat_cmp_is entry.condemned.number new.condemned.number Less (omega arith))) entries below

-- the entries behind one have numbers above its own
pub above_later : (entry : CondemnedEntry) (before later : List CondemnedEntry)
    → IsRising entry_cmp (before ++ entry ∷ later)
    → Each (λ (it : CondemnedEntry). entry.condemned.number + 1 ≤ it.condemned.number) later
above_later entry [] later rising =
    each_weaker (λ it. entry_cmp entry it ≡ Less) _ (λ it above.
    let below : entry.condemned.number < it.condemned.number =
    ranked entry.condemned.number it.condemned.number Less (sym above) in
    omega arith) later rising.0
above_later entry (first ∷ before) later rising = above_later entry before later rising.1

-- an entry above all others is placed behind them
pub put_last : (new : CondemnedEntry) (next : ℕ) (entries : List CondemnedEntry)
    → Each (λ (entry : CondemnedEntry). entry.condemned.number < next) entries
    → next ≤ new.condemned.number → place entry_cmp new entries ≡ entries ++ new ∷ []
put_last new next entries below high =
    placed_last entry_cmp_total new entries (below_new new next entries below high)

pub found_to_go : (servers : List ServerView) (leases : List Lease) (after : ℕ)
    (entries : List CondemnedEntry)
    → find (entry_may_go servers leases) (filter (has_key (above_order after)) entries)
    ≡ next_entry servers leases after entries
found_to_go servers leases after entries =
    find_kept (entry_may_go servers leases) (has_key (above_order after)) entries
    ∙ find_alike _
    (λ (entry : CondemnedEntry). nat_lt after entry.condemned.number
    && entry_may_go servers leases entry)
    (λ entry. ap (λ b. b && entry_may_go servers leases entry)
    (key_passes (nat_lt after entry.condemned.number))) entries

-- the entry that is found has the number that was sought
pub found_number : (number : ℕ) (found : CondemnedEntry) (entries : List CondemnedEntry)
    → find (is_entry number) entries ≡ Some found → found.condemned.number ≡ number
found_number number found entries at =
    let passes = found_has (λ _. ⊤) (is_entry number) entries found at
    (each_of_all _ (λ _. tt) entries) in
    sym (ranked number found.condemned.number Equal (sym (equal-is _ passes.1)))

module _ (number : ℕ) (entries : List CondemnedEntry) where
  by_case : (P : CondemnedEntry → Type 0) (entry : CondemnedEntry)
      → (is_entry number entry ≡ true → P entry) → (is_entry number entry ≡ false → P entry)
      → P entry
  by_case P entry own other =
      elim (is_entry number entry) as (λ b. is_entry number entry ≡ b → P entry)
      [ true ↦ own | false ↦ other ] refl

  -- nothing is swept where the number isn't there
  pub swept_none : find (is_entry number) entries ≡ None → sweep_entry number entries ≡ entries
  swept_none none =
      without_none (is_swept number) entries
      (each_weaker _ _ (λ (entry : CondemnedEntry) off. ap (λ b. b && entry.ordered) off) entries
      (none_found (is_entry number) entries none))

  module _ (found : CondemnedEntry) (rising : IsRising entry_cmp entries)
      (at : find (is_entry number) entries ≡ Some found) where
    -- nor where its deletion wasn't ordered
    pub swept_unordered : found.ordered ≡ false → sweep_entry number entries ≡ entries
    swept_unordered off =
        without_none (is_swept number) entries (each_weaker _ _
        (λ entry same. by_case (λ entry. is_swept number entry ≡ false) entry
        (λ is. ap (λ b. b && entry.ordered) is
        ∙ ap (λ (e : CondemnedEntry). e.ordered) (same is) ∙ off)
        (λ is. ap (λ b. b && entry.ordered) is)) entries
        (alone (entry_order number) (number_alone number) entries rising found at))

    -- where it was, the entry goes
    pub swept_ordered : found.ordered ≡ true
        → without (is_entry number) entries ≡ sweep_entry number entries
    swept_ordered on =
        without_alike (is_entry number) (is_swept number) entries (each_weaker _ _
        (λ entry same. by_case (λ entry. is_entry number entry ≡ is_swept number entry) entry
        (λ is. is ∙ sym (ap (λ b. b && entry.ordered) is
        ∙ ap (λ (e : CondemnedEntry). e.ordered) (same is) ∙ on))
        (λ is. is ∙ sym (ap (λ b. b && entry.ordered) is))) entries
        (alone (entry_order number) (number_alone number) entries rising found at))

  -- so the test of what is found decides
  pub swept_as : (found : Option CondemnedEntry) → find (is_entry number) entries ≡ found
      → IsRising entry_cmp entries
      → (is_ordered found ≡ true → without (is_entry number) entries ≡ sweep_entry number entries)
      × (is_ordered found ≡ false → sweep_entry number entries ≡ entries)
  swept_as None none rising = (λ on. absurd (true≢false (sym on)), λ _. swept_none none)
  swept_as (Some entry) at rising =
      (swept_ordered entry rising at, swept_unordered entry rising at)
