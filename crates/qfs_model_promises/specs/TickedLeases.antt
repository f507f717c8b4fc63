-- Leases whose term a Tick ended.
use Rattle.std.specs.Prelude.{ℕ, ◌&&◌, not, Bool, List}
use Rattle.std.specs.List.{list_any}
use Rattle.qfs_model_meta.specs.Holding.{is_tick}
use Rattle.qfs_model_meta.specs.Leases.{is_live_lease}
use Rattle.qfs_model_world.specs.Events.{Event, world_behind}
use Rattle.qfs_model_promises.specs.Requests.{asks_meta}

-- whether a step is a Tick before which a lease was live, and behind which it isn't
unfoldable pub ends_at_tick : ℕ → Event → Bool
ends_at_tick lease event =
    asks_meta is_tick event.request
    && is_live_lease lease event.before.meta.leases
    && not (is_live_lease lease (world_behind event).meta.leases)

-- whether a Tick among these steps ended a lease. A lease is given once, so that was since it was given
unfoldable pub was_ended_by_tick : ℕ → List Event → Bool
was_ended_by_tick lease steps = list_any (ends_at_tick lease) steps
