-- The choice between servers by their loads.
use Rattle.std.specs.Prelude.{ℕ, ◌+◌, nat_le, cond, List, [], Option, Some, None}
use Rattle.std.specs.Bool.{then_some}
use Rattle.std.specs.List.{reduce}
use Rattle.qfs_base.specs.declared.image.Load.{Load}
use Rattle.qfs_model_meta.specs.Placing.{Numbered, is_open, open_servers, lighter, heavier}
use Rattle.qfs_place.specs.declared.choosing.Shift.{Shift}
use Rattle.qfs_place.specs.declared.choosing.Wanted.{Wanted}
use Rattle.qfs_place.specs.declared.choosing.Wanted.TheVariants.{Lightest, Heaviest}

-- the better one of two servers
abbrev pub better_of : Wanted → Numbered → Numbered → Numbered
better_of Lightest = lighter
better_of Heaviest = heavier

-- the best one of those that may get a new chunk, once one more server was looked at
abbrev pub best_then : Wanted → Option Numbered → Numbered → Numbered
best_then wanted None next = next
best_then wanted (Some best) next = better_of wanted best next

abbrev pub best_with : Wanted → List ℕ → Option Numbered → Numbered → Option Numbered
best_with wanted barred best next =
    cond (is_open barred next) (Some (best_then wanted best next)) best

-- from one server to another, where the second would still have no more copies than the first
abbrev pub shift_between : Numbered → Numbered → Option Shift
shift_between giver taker =
    then_some (nat_le (taker.1.count + 2) giver.1.count)
    (record { giver = giver.0; taker = taker.0 })

abbrev pub shift_to : Option Numbered → Numbered → Option Shift
shift_to None giver = None
shift_to (Some taker) giver = shift_between giver taker

abbrev pub shift_from : Option Numbered → Option Numbered → Option Shift
shift_from taker None = None
shift_from taker (Some giver) = shift_to taker giver

-- of the servers that take chunks, from the one with the highest load to the one with the lowest,
-- where these differ by two copies or more
abbrev pub uneven : List Load → Option Shift
uneven loads =
    shift_from (reduce lighter (open_servers [] loads)) (reduce heavier (open_servers [] loads))
