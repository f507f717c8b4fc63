-- The last item of a list, changed.
use Rattle.std.proofs.Common.{◌≡◌, ◌∙◌, sym, ap, refl, List, [], ◌∷◌, ◌++◌}
use Rattle.qfs_model_grammar.specs.SoFar.{change_last}

behind_first : {X : Type 0} (change : X → X) (first : X) (items : List X) (last : X) → change_last change (first ∷ items ++ last ∷ []) ≡ first ∷ change_last change (items ++ last ∷ [])
behind_first change first [] last = refl
behind_first change first (item ∷ items) last = refl

changed : {X : Type 0} (change : X → X) (items : List X) (last : X) → change_last change (items ++ last ∷ []) ≡ items ++ change last ∷ []
changed change [] last = refl
changed change (item ∷ items) last = behind_first change item items last ∙ ap (λ more. item ∷ more) (changed change items last)

pub in_last : {X : Type 0} (change : X → X) (all items now : List X) (last next : X) → all ≡ items ++ last ∷ [] → next ≡ change last
    → now ≡ items ++ next ∷ [] → now ≡ change_last change all
in_last change all items now last next is changes pushed =
    pushed ∙ ap (λ x. items ++ x ∷ []) changes ∙ sym (changed change items last) ∙ ap (change_last change) (sym is)

pub in_none : {X : Type 0} (change : X → X) (all now : List X) → all ≡ [] → now ≡ [] → now ≡ change_last change all
in_none change all now is none = none ∙ ap (change_last change) (sym is)
