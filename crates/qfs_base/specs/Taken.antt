-- What taking an item off an end of a list gives and leaves.
use Rattle.std.specs.Prelude.{◌≡◌, List, [], ◌∷◌, ◌++◌, Option, MatchOption}

-- the first item, or nothing where there is none
abbrev pub TakesFirst : {X : Type 0} → Option X → List X → List X → Type 0
TakesFirst taken old now = MatchOption taken ((old ≡ []) × (now ≡ [])) (λ first. old ≡ first ∷ now)

-- the last item, or nothing where there is none
abbrev pub TakesLast : {X : Type 0} → Option X → List X → List X → Type 0
TakesLast taken old now =
    MatchOption taken ((old ≡ []) × (now ≡ [])) (λ last. old ≡ now ++ last ∷ [])
