-- The actors that were dropped, each with the turn just before.
use Rattle.std.specs.Prelude.{ℕ, List, find, Option}
use Rattle.std.specs.Option.{option_map}
use Rattle.std.specs.declared.cmp.Ordering.{Ordering}
use Rattle.std.specs.Ordering.{nat_cmp}
use Rattle.qfs_base.specs.declared.image.DroppedActor.{DroppedActor}
use Rattle.qfs_base.specs.Table.{has_key, place}

-- the order of dropped actors: by number
abbrev pub dropped_order : ℕ → DroppedActor → Ordering
dropped_order actor dropped = nat_cmp actor dropped.actor

unfoldable pub dropped_cmp : DroppedActor → DroppedActor → Ordering
dropped_cmp a b = dropped_order a.actor b

-- the turn at which an actor was dropped, if it was
unfoldable pub dropped_at : ℕ → List DroppedActor → Option ℕ
dropped_at actor dropped =
    option_map (λ (d : DroppedActor). d.turn) (find (has_key (dropped_order actor)) dropped)

-- the list with an actor that is dropped at this turn
unfoldable pub add_dropped : ℕ → ℕ → List DroppedActor → List DroppedActor
add_dropped actor turn dropped = place dropped_cmp (record { actor = actor; turn = turn }) dropped
