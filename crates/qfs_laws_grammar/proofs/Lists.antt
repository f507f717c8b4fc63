-- Facts on lists of lists, as a script has them. For both laws.
use Rattle.std.proofs.Common.{◌≡◌, ◌∙◌, ap, refl, arith, ◌≤◌, List, [], ◌∷◌, ◌++◌, length, append-nil}
use Rattle.std.specs.Prelude.{flat_map}
use Rattle.std.proofs.lemmas.List.Concat.{flat_map-append}
use Rattle.qfs_base.specs.Table.{Each}
use Rattle.qfs_model_grammar.specs.SoFar.{change_last}

module _ {X : Type 0} where
  -- what holds of each of two lists, one behind the other, holds of each part
  pub each_front : (P : X → Type 0) (xs ys : List X) → Each P (xs ++ ys) → Each P xs
  each_front P [] ys each = tt
  each_front P (x ∷ xs) ys each = (each.0, each_front P xs ys each.1)

  pub each_back : (P : X → Type 0) (xs ys : List X) → Each P (xs ++ ys) → Each P ys
  each_back P [] ys each = each
  each_back P (x ∷ xs) ys each = each_back P xs ys each.1

  behind_first : (change : X → X) (first : X) (items : List X) (last : X)
      → change_last change (first ∷ items ++ last ∷ []) ≡ first ∷ change_last change
      (items ++ last ∷ [])
  behind_first change first [] last = refl
  behind_first change first (item ∷ items) last = refl

  pub changed : (change : X → X) (items : List X) (last : X)
      → change_last change (items ++ last ∷ []) ≡ items ++ change last ∷ []
  changed change [] last = refl
  changed change (item ∷ items) last = behind_first change item items last
      ∙ ap (λ more. item ∷ more) (changed change items last)

  -- the items of lists, of which one more stands behind the others
  pub flat_push : (lists : List (List X)) (last : List X) → flat_map (λ xs. xs) (lists ++ last ∷ [])
      ≡ flat_map (λ xs. xs) lists ++ last
  flat_push lists last =
      flat_map-append (λ (xs : List X). xs) lists (last ∷ [])
      ∙ ap (λ more. flat_map (λ xs. xs) lists ++ more) (append-nil last)

  -- a list that isn't empty has a last item
  pub record Ends (items : List X) : Type 0 where
    pub front : List X
    pub last : X
    pub is : items ≡ front ++ last ∷ []

  ends_behind : (first : X) (items : List X) → Ends items → Ends (first ∷ items)
  ends_behind first items ends = record {
    front = first ∷ ends.front;
    last = ends.last;
    is =
        ap (λ more. first ∷ more) ends.is;
  }

  pub ends : (items : List X) → 1 ≤ length items → Ends items
  ends [] some = absurd (omega arith)
  ends (item ∷ []) some = record { front = []; last = item; is = refl }
  ends (item ∷ next ∷ items) some = ends_behind item (next ∷ items)
      (ends (next ∷ items) (omega arith))
