-- Tables in order, without repeats: what keeps them so. Cited by the other laws, and for tables,
-- leases, names and the metaserver in memory.
use Rattle.qfs_base.specs.Table.{Each, IsRising, change_row, change_where, place, place_all}
use Rattle.qfs_base.specs.Table.{place_before}
use Rattle.std.proofs.Common.{Bool, List, [], ap, cond, false, filter, map, refl, true, ℕ, ◌++◌}
use Rattle.std.proofs.Common.{◌∙◌, ◌∷◌, ◌≡◌}
use Rattle.std.specs.BTreeSet.{insert_key}
use Rattle.std.specs.Cmp.{IsTotalOrder, nat_cmp_total}
use Rattle.std.specs.Ordering.{match_ordering, nat_cmp, ordering_reverse}
use Rattle.std.specs.declared.cmp.Ordering.{Ordering}
use Rattle.std.specs.declared.cmp.Ordering.TheVariants.{Equal, Greater, Less}
use Rattle.qfs_base.specs.EachLaws.{each_filter, each_weaker}
use Rattle.qfs_laws_tables.specs.EachRow.{each_both, each_change, each_map, each_place, each_push}

module _ {X : Type 0} {order : X → X → Ordering} (total : IsTotalOrder order) where
  above_too : (new row : X) (rows : List X) → order new row ≡ Less
      → Each (λ later. order row later ≡ Less) rows → Each (λ later. order new later ≡ Less) rows
  above_too new row rows below each =
      each_weaker _ _ (λ later above. total.trans new row later below above) rows each

  in_its_place : (new row : X) (rows : List X) → order new row ≡ Equal
      → Each (λ later. order row later ≡ Less) rows → Each (λ later. order new later ≡ Less) rows
  in_its_place new row rows same each =
      each_weaker _ _ (λ later above. total.congr new row later same ∙ above) rows each

  pub place_rises : (new : X) (rows : List X) → IsRising order rows
      → IsRising order (place order new rows)
  place_rises new [] rising = (tt, tt)
  place_rises new (row ∷ rows) rising =
      elim (order new row) as (λ o. order new row ≡ o → IsRising order
      (place_before new row rows (place order new rows) o)) [
        | Less ↦ λ below. ((below, above_too new row rows below rising.0), rising)
        | Equal ↦ λ same. (in_its_place new row rows same rising.0, rising.1)
        | Greater ↦ λ above. (
          each_place _ order new rows
              (total.antisymm row new ∙ ap ordering_reverse above) rising.0,
          place_rises new rows
              rising.1,
        )
      ] refl

pub filter_rises : {X : Type 0} (order : X → X → Ordering) (test : X → Bool) (rows : List X)
    → IsRising order rows → IsRising order (filter test rows)
filter_rises order test [] rising = tt
filter_rises order test (row ∷ rows) rising =
    elim (test row) as (λ b. IsRising order (cond b (row ∷ filter test rows) (filter test rows))) [
      | true ↦ (each_filter _ test rows rising.0, filter_rises order test rows rising.1)
      | false ↦ filter_rises order test rows rising.1
    ]

-- a change that leaves the rows' order
pub change_rises : {X : Type 0} (order : X → X → Ordering) (test : X → Bool) (f : X → X)
    → ((a b : X) → order (f a) b ≡ order a b) → ((a b : X) → order a (f b) ≡ order a b)
    → (rows : List X) → IsRising order rows → IsRising order (change_where test f rows)
change_rises order test f left right [] rising = tt
change_rises order test f left right (row ∷ rows) rising =
    let later : Each (λ later. order row later ≡ Less) (change_where test f rows) = each_change _ _
    test f (λ x _ above. right row x ∙ above) (λ x _ above. above) rows rising.0 in (
      elim (test row) as (λ b. Each (λ later. order (change_row f row b) later ≡ Less)
          (change_where test f rows)) [
            | true ↦ each_weaker _ _ (λ x above. left row x ∙ above) (change_where test f rows)
                later
            | false ↦ later
          ],
      change_rises order test f left right rows rising.1,
    )

pub map_rises : {X : Type 0} (order : X → X → Ordering) (f : X → X)
    → ((a b : X) → order (f a) (f b) ≡ order a b) → (rows : List X) → IsRising order rows
    → IsRising order (map f rows)
map_rises order f same [] rising = tt
map_rises order f same (row ∷ rows) rising = (
  each_map _ _ f (λ later above. same row later ∙ above) rows rising.0,
  map_rises order f same
      rows rising.1,
)

pub push_rises : {X : Type 0} (order : X → X → Ordering) (rows : List X) (new : X)
    → IsRising order rows → Each (λ row. order row new ≡ Less) rows
    → IsRising order (rows ++ new ∷ [])
push_rises order [] new rising below = (tt, tt)
push_rises order (row ∷ rows) new rising below =
    (each_push _ rows new rising.0 below.0, push_rises order rows new rising.1 below.1)

-- a map of rows that keeps the order of those that it is for
pub map_rises-given : {X : Type 0} (P : X → Type 0) (order : X → X → Ordering) (f : X → X)
    → ((a b : X) → P a → P b → order (f a) (f b) ≡ order a b) → (rows : List X) → Each P rows
    → IsRising order rows → IsRising order (map f rows)
map_rises-given P order f same [] each rising = tt
map_rises-given P order f same (row ∷ rows) each rising = (
  each_map (λ later. P later × (order row later ≡ Less)) _ f
      (λ later b. same row later each.0 b.0 ∙ b.1) rows
      (each_both P (λ later. order row later ≡ Less) rows each.1 rising.0),
  map_rises-given P order f
      same rows each.1 rising.1,
)

pub each_inserted : (P : ℕ → Type 0) (ks : List ℕ) (k : ℕ) → P k → Each P ks
    → Each P (insert_key nat_cmp ks k)
each_inserted P [] k p each = (p, tt)
each_inserted P (x ∷ xs) k p each =
    elim (nat_cmp k x) as (λ r. Each P
    (match_ordering r (k ∷ x ∷ xs) (x ∷ xs) (x ∷ insert_key nat_cmp xs k))) [
      | Less ↦ (p, each)
      | Equal ↦ each
      | Greater ↦ (each.0, each_inserted P xs k p each.1)
    ]

pub inserted_rises : (ks : List ℕ) (k : ℕ) → IsRising nat_cmp ks
    → IsRising nat_cmp (insert_key nat_cmp ks k)
inserted_rises [] k rising = (tt, tt)
inserted_rises (x ∷ xs) k rising =
    elim (nat_cmp k x) as (λ r. nat_cmp k x ≡ r → IsRising nat_cmp
    (match_ordering r (k ∷ x ∷ xs) (x ∷ xs) (x ∷ insert_key nat_cmp xs k))) [
      | Less ↦ λ below. (
        (
          below,
          each_weaker _ _
              (λ later above. nat_cmp_total.trans k x later below above) xs rising.0,
        ),
        rising,
      )
      | Equal ↦ λ _. rising
      | Greater ↦ λ above. (
        each_inserted _ xs k
            (nat_cmp_total.antisymm x k ∙ ap ordering_reverse above) rising.0,
        inserted_rises xs k
            rising.1,
      )
    ] refl

pub numbers-rise : (news rows : List ℕ) → IsRising nat_cmp rows
    → IsRising nat_cmp (place_all nat_cmp news rows)
numbers-rise [] rows rising = rising
numbers-rise (n ∷ ns) rows rising =
    numbers-rise ns (place nat_cmp n rows) (place_rises nat_cmp_total n rows rising)

pub numbers-each : (P : ℕ → Type 0) (news rows : List ℕ) → Each P news → Each P rows
    → Each P (place_all nat_cmp news rows)
numbers-each P [] rows n each = each
numbers-each P (x ∷ xs) rows n each =
    numbers-each P xs (place nat_cmp x rows) n.1 (each_place P nat_cmp x rows n.0 each)
