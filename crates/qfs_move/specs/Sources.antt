-- Which slots of a grant list a copy: none, one, or several.
use Rattle.std.specs.Prelude.{◌==◌, ℕ, List, [], ◌∷◌, Option, Some, None}
use Rattle.qfs_base.specs.declared.chunk.Copy.{Copy}
use Rattle.qfs_model_actor.specs.Grants.{copy_if, listed_slots}
use Rattle.qfs_move.specs.declared.grant.Listed.{Listed}
use Rattle.qfs_move.specs.declared.grant.Listed.TheVariants.{Nobody, One, Several}

-- which of these slots there are
abbrev pub seen_of : List (ℕ × Copy) → Listed
seen_of [] = Nobody
seen_of (first ∷ []) = One first.0 first.1
seen_of (first ∷ second ∷ more) = Several

abbrev pub listed_in : List (Option Copy) → Listed
listed_in nine = seen_of (listed_slots nine)

-- with one slot more
abbrev pub with_copy : Listed → ℕ → Copy → Listed
with_copy Nobody slot copy = One slot copy
with_copy (One first other) slot copy = Several
with_copy Several slot copy = Several

abbrev pub with_listed : Listed → ℕ → Option Copy → Listed
with_listed seen slot None = seen
with_listed seen slot (Some copy) = with_copy seen slot copy

-- the copy of a slot that is listed alone
unfoldable pub sole_of : ℕ → Listed → Option Copy
sole_of slot Nobody = None
sole_of slot (One first copy) = copy_if copy (first == slot)
sole_of slot Several = None
