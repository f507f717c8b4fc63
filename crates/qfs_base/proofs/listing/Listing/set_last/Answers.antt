-- The list up to the written item, and that item, are the whole list.
use Rattle.std.proofs.Common.{◌≡◌, ◌-◌, ◌<◌, ◌≤◌, ◌+◌, [], ◌∷◌, ◌++◌, List, length, take, slice_set, arith, ◌∙◌, sym}
use Rattle.std.proofs.lemmas.Grind.{common_steps}
use Rattle.std.proofs.lemmas.List.{take_more_set, take_all, length-set}
use Rattle.qfs_base.proofs.listing.Listing.set_last.Goals as goal

last_written : {X : Type 0} → (xs : List X) (y : X) → 0 < length xs → slice_set xs (length xs - 1) y ≡ take (length xs - 1) xs ++ y ∷ []
last_written xs y some =
    let short : length (slice_set xs (length xs - 1) y) ≤ length xs - 1 + 1 = rw length-set (omega arith) in
    let at : length xs - 1 < length xs = omega arith in
    sym (take_all _ _ short) ∙ take_more_set xs (length xs - 1) y at

pub returns : goal.returns
returns g c = grind (arith, common_steps, last_written)
