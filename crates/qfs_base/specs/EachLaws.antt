-- What holds of each row of a table holds of each row that comes of these.
use Rattle.std.proofs.Common.{◌≡◌, ◌<◌, ℕ, zero, suc, arith, refl, Bool, true, false, List, [], ◌∷◌, ◌++◌, length, filter, All}
use Rattle.qfs_base.specs.Table.{Each}

module _ {X : Type 0} where
  -- by what follows from it
  pub each_weaker : (P Q : X → Type 0) → ((x : X) → P x → Q x) → (xs : List X) → Each P xs → Each Q xs
  each_weaker P Q weaker [] each = tt
  each_weaker P Q weaker (x ∷ xs) each = (weaker x each.0, each_weaker P Q weaker xs each.1)

  -- of two lists, one behind the other
  pub each_append : (P : X → Type 0) (xs ys : List X) → Each P xs → Each P ys → Each P (xs ++ ys)
  each_append P [] ys front behind = behind
  each_append P (x ∷ xs) ys front behind = (front.0, each_append P xs ys front.1 behind)

  -- of those that pass a test
  each_filter-first : (P : X → Type 0) (test : X → Bool) (x : X) (xs : List X) (passes : Bool) → test x ≡ passes → P x
      → Each P (filter test xs) → Each P (filter test (x ∷ xs))
  each_filter-first P test x xs true is first rest = rw is (first, rest)
  each_filter-first P test x xs false is first rest = rw is rest

  pub each_filter : (P : X → Type 0) (test : X → Bool) (xs : List X) → Each P xs → Each P (filter test xs)
  each_filter P test [] each = tt
  each_filter P test (x ∷ xs) each = each_filter-first P test x xs (test x) refl each.0 (each_filter P test xs each.1)

  -- by place
  pub each_all : (P : X → Type 0) (xs : List X) → Each P xs → All P xs
  each_all P [] each k d inside = absurd (omega arith)
  each_all P (x ∷ xs) each zero d inside = each.0
  each_all P (x ∷ xs) each (suc k) d inside = each_all P xs each.1 k d (omega arith)
