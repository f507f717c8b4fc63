-- Whether some row passes a test, and rows without those that pass: what the laws of leases and of
-- their indexes share.
use Rattle.std.proofs.Common.{◌≡◌, ◌<◌, ◌≤◌, ◌∙◌, ap, sym, refl, arith, suc}
use Rattle.std.proofs.Common.{Bool, true, false, true≢false, not, ◌&&◌, ◌||◌, cond, Bor}
use Rattle.std.proofs.Common.{List, [], ◌∷◌, ◌++◌, length, filter, Option, Some, None}
use Rattle.std.specs.Cmp.{IsTotalOrder}
use Rattle.std.specs.List.{list_any}
use Rattle.std.specs.Option.{is_some, option_copied}
use Rattle.std.specs.Ordering.{ordering_reverse}
use Rattle.std.specs.declared.cmp.Ordering.{Ordering}
use Rattle.std.specs.declared.cmp.Ordering.TheVariants.{Less}
use Rattle.qfs_base.specs.Table.{Each, place, place_before, without}

pub and_swap : (a b c : Bool) → (a && (b && c)) ≡ (b && (a && c))
and_swap true b c = refl
and_swap false true c = refl
and_swap false false c = refl

-- a look that gives a reference finds what is there
pub some_copied : {X : Type 0} (found : Option (Bor X))
    → is_some found ≡ is_some (option_copied found)
some_copied None = refl
some_copied (Some row) = refl

module _ {X : Type 0} where
  -- some row that is kept passes a test
  pub any_kept : (test keep : X → Bool) (rows : List X)
      → list_any test (filter keep rows) ≡ list_any (λ row. keep row && test row) rows
  any_kept test keep [] = refl
  any_kept test keep (row ∷ rows) =
      elim (keep row) as (λ b. list_any test (cond b (row ∷ filter keep rows) (filter keep rows))
      ≡ ((b && test row) || list_any (λ row. keep row && test row) rows)) [
        | true ↦ ap (λ rest. test row || rest) (any_kept test keep rows)
        | false ↦ any_kept test keep rows
      ]

  -- two tests that answer alike for each row
  pub any_alike : (one other : X → Bool) (rows : List X)
      → Each (λ row. one row ≡ other row) rows → list_any one rows ≡ list_any other rows
  any_alike one other [] alike = refl
  any_alike one other (row ∷ rows) alike =
      ap (λ b. b || list_any one rows) alike.0
      ∙ ap (λ rest. other row || rest) (any_alike one other rows alike.1)

  -- what is dropped anyway may go before
  pub without_after : (first test : X → Bool) (rows : List X)
      → Each (λ row. first row ≡ true → test row ≡ true) rows
      → without test (without first rows) ≡ without test rows
  without_after first test [] both = refl
  without_after first test (row ∷ rows) both =
      let rest = without_after first test rows both.1 in
      elim (first row) as (λ b. first row ≡ b
      → without test (cond (not b) (row ∷ without first rows) (without first rows))
      ≡ cond (not (test row)) (row ∷ without test rows) (without test rows)) [
        | true ↦ λ is. rw (both.0 is) rest
        | false ↦ λ is. ap (λ rest. cond (not (test row)) (row ∷ rest) rest) rest
      ] refl

  without_few : (test : X → Bool) (rows : List X) → length (without test rows) ≤ length rows
  without_few test [] = omega arith
  without_few test (row ∷ rows) =
      let few = without_few test rows in
      elim (test row) as (λ b.
      length (cond (not b) (row ∷ without test rows) (without test rows)) ≤ suc (length rows))
      [ true ↦ omega arith | false ↦ omega arith ]

  -- rows become fewer where some row passes
  pub without_fewer : (test : X → Bool) (rows : List X) → list_any test rows ≡ true
      → length (without test rows) < length rows
  without_fewer test [] any = absurd (true≢false (sym any))
  without_fewer test (row ∷ rows) any =
      elim (test row) as (λ b. (b || list_any test rows) ≡ true
      → length (cond (not b) (row ∷ without test rows) (without test rows)) < suc (length rows)) [
        | true ↦ λ _. let few = without_few test rows in omega arith
        | false ↦ λ any. let few = without_fewer test rows any in omega arith
      ] any

  -- a row above all others is placed behind them
  pub placed_last : {order : X → X → Ordering} → IsTotalOrder order → (new : X) (rows : List X)
      → Each (λ row. order row new ≡ Less) rows → place order new rows ≡ rows ++ new ∷ []
  placed_last total new [] above = refl
  placed_last {order = order} total new (row ∷ rows) above =
      ap (place_before new row rows (place order new rows))
      (total.antisymm new row ∙ ap ordering_reverse above.0)
      ∙ ap (λ rest. row ∷ rest) (placed_last total new rows above.1)
