-- Devices that remain in their places.
use Rattle.std.proofs.Common.{◌≡◌, ℕ, zero, suc, ◌≤◌, List, [], ◌∷◌, length, take, drop, map, refl, sym, ◌∙◌, ap, subst, arith, Option}
use Rattle.std.specs.Prelude.{is_some}
use Rattle.std.specs.List.{AllZip}
use Rattle.qfs_device.specs.Held.{Held}
use Rattle.qfs_driver.specs.Run.{AllRemain, StayInPlace}
use Rattle.qfs_store.specs.Stored.{Stored}
use Rattle.qfs_world.specs.Calls.{GoesOn}
use Rattle.qfs_nodes.specs.Nodes.{stored_over}

first_is : {X : Type 0} {x y : X} {xs ys : List X} → x ∷ xs ≡ y ∷ ys → x ≡ y
first_is same = cc

rest_is : {X : Type 0} {x y : X} {xs ys : List X} → x ∷ xs ≡ y ∷ ys → xs ≡ ys
rest_is same = cc

none_is : {X : Type 0} {x : X} {xs : List X} → x ∷ xs ≡ [] → ⊥
none_is same = cc

some_is : {X : Type 0} {x : X} {xs : List X} → [] ≡ x ∷ xs → ⊥
some_is same = cc

module _ {D : Type 0} (told : D → Option Held) (faults : D → ℕ) where
  all_remain : (devices : List D) → AllRemain told faults devices devices
  all_remain [] = tt
  all_remain (device ∷ devices) = (record { tells = refl; never_falls = omega arith }, all_remain devices)

  -- devices that are as they came
  pub same_remain : (came behind : List D) → behind ≡ came → AllRemain told faults came behind
  same_remain came behind same = subst (AllRemain told faults came) (sym same) (all_remain came)

  pub same_stay : (servers : ℕ) (came behind : List D) → behind ≡ came → StayInPlace told faults servers came behind
  same_stay servers came behind same = record {
    as_many = ap length same;
    spare = ap (drop servers) same;
    remain = same_remain came behind same;
  }

  -- devices of servers whose stores went on
  pub servers_remain : (stripe : ℕ) (came behind : List D) (stores : List Stored)
      → AllZip GoesOn (map (stored_over told faults stripe) came) stores
      → map told behind ≡ map (λ (stored : Stored). stored.told) stores
      → map faults behind ≡ map (λ (stored : Stored). stored.faults) stores → AllRemain told faults came behind
  servers_remain stripe [] [] stores go_on tell counts = tt
  servers_remain stripe [] (y ∷ ys) [] go_on tell counts = absurd (none_is tell)
  servers_remain stripe [] (y ∷ ys) (stored ∷ stores) go_on tell counts = absurd go_on
  servers_remain stripe (x ∷ xs) behind [] go_on tell counts = absurd go_on
  servers_remain stripe (x ∷ xs) [] (stored ∷ stores) go_on tell counts = absurd (some_is tell)
  servers_remain stripe (x ∷ xs) (y ∷ ys) (stored ∷ stores) go_on tell counts =
      let count : faults y ≡ stored.faults = first_is counts in
      let risen : faults x ≤ stored.faults = go_on.0.never_falls in (
        record { tells = ap is_some (first_is tell) ∙ go_on.0.tells; never_falls = omega (arith, count, risen) },
        servers_remain stripe xs ys stores go_on.1 (rest_is tell) (rest_is counts),
      )

  -- all remain where the first do and the others do
  pub remain_from : (count : ℕ) (came behind : List D) → AllRemain told faults (take count came) (take count behind)
      → AllRemain told faults (drop count came) (drop count behind) → AllRemain told faults came behind
  remain_from zero came behind first rest = rest
  remain_from (suc count) [] [] first rest = tt
  remain_from (suc count) [] (y ∷ ys) first rest = absurd first
  remain_from (suc count) (x ∷ xs) [] first rest = absurd first
  remain_from (suc count) (x ∷ xs) (y ∷ ys) first rest = (first.0, remain_from count xs ys first.1 rest)
