-- What contracts see of a list with promised room.
use Rattle.std.specs.Prelude.{ℕ, ◌+◌, List, length, refl}
use Rattle.std.specs.Coded.{Coded, code_by, coded×, coded_list, coded_ℕ}

-- a list, and how many items more it takes without memory
pub record Reserved (X : Type 0) : Type 0 where
  pub items : List X
  pub spare : ℕ

-- how many items it can hold without memory
abbrev pub room_of : {X : Type 0} → Reserved X → ℕ
room_of list = length list.items + list.spare

-- it is stored as the pair of its fields
abbrev pub reserved_code : {X : Type 0} → Coded X → Coded (Reserved X)
reserved_code {X} code =
    code_by (List X × ℕ) (coded× (coded_list code) coded_ℕ)
    (λ list. (list.items, list.spare)) (λ p. record { items = p.0; spare = p.1 }) (λ _. refl)
