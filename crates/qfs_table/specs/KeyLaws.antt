-- Laws of keys, for those who write rows and keys of their own.
use Rattle.std.proofs.Common.{◌≡◌, true, true≢false, sym, ◌∙◌, ap, refl}
use Rattle.std.specs.Cmp.{IsTotalOrder}
use Rattle.std.specs.Ordering.{is_ge, is_gt, ordering_reverse, ordering_then}
use Rattle.std.specs.declared.cmp.Ordering.{Ordering}
use Rattle.std.specs.declared.cmp.Ordering.TheVariants.{Less, Equal, Greater}
use Rattle.qfs_table.specs.Keys.{Falls}

pub gt_is : (o : Ordering) → is_gt o ≡ true → o ≡ Greater
gt_is Less e = absurd (true≢false (sym e))
gt_is Equal e = absurd (true≢false (sym e))
gt_is Greater e = refl

module _ {K : Type 0} {cmp : K → K → Ordering} (total : IsTotalOrder cmp) where
  -- what compares as rows do is a key of them
  pub whole_falls : (key a b : K) → cmp a b ≡ Less → Falls (cmp key a) (cmp key b)
  whole_falls key a b less = (
    λ above.
        let below : cmp b key ≡ Less = total.antisymm b key ∙ ap ordering_reverse (gt_is _ above) in
        ap is_gt (total.antisymm key a ∙ ap ordering_reverse (total.trans a b key less below)),
    λ not_below.
        elim (cmp key a) as (λ o. cmp key a ≡ o → is_ge o ≡ true) [
          | Less ↦ λ below. absurd
              (true≢false (sym not_below ∙ ap is_ge (total.trans key a b below less)))
          | Equal ↦ λ same. refl
          | Greater ↦ λ above. refl
        ] refl,
  )

  -- and one that a row of a table has at most
  pub whole_alone : (key a b : K) → cmp a b ≡ Less → cmp key a ≡ Equal → cmp key b ≡ Less
  whole_alone key a b less same = total.congr key a b same ∙ less

  same_falls : (key a b : K) → cmp a b ≡ Equal → Falls (cmp key a) (cmp key b)
  same_falls key a b same =
      let is : cmp key a ≡ cmp key b =
      total.antisymm key a ∙ ap ordering_reverse (total.congr a b key same)
      ∙ sym (total.antisymm key b) in
      (λ above. ap is_gt is ∙ above, λ not_below. ap is_ge is ∙ not_below)

  -- what rows compare by first is the front of a key
  pub front_falls : (key a b : K) (rest : Ordering) → ordering_then (cmp a b) rest ≡ Less →
      Falls (cmp key a) (cmp key b)
  front_falls key a b rest =
      elim (cmp a b) as (λ o. cmp a b ≡ o → ordering_then o rest ≡ Less →
      Falls (cmp key a) (cmp key b)) [
        | Less ↦ λ less _. whole_falls key a b less
        | Equal ↦ λ same _. same_falls key a b same
        | Greater ↦ λ above less. absurd cc
      ] refl
