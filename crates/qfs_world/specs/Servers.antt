-- When stores stand for the servers of the definitions behind some steps, each by its number.
use Rattle.std.specs.Prelude.{ℕ, ◌≡◌, ◌+◌, ◌<◌, List, length, None, Some}
use Rattle.qfs_base.specs.Sizes.{LAST_U64}
use Rattle.qfs_device.specs.Held.{Held}
use Rattle.qfs_model_headline.specs.Nodes.{HoldsNoOther}
use Rattle.qfs_model_server.specs.Server.{Server}
use Rattle.qfs_model_store.specs.Stands.{kept}
use Rattle.qfs_model_world.specs.Events.{Event}
use Rattle.qfs_model_world.specs.Headline.{failed_at}
use Rattle.qfs_model_world.specs.World.{numbered}
use Rattle.qfs_store.specs.Stored.{Stored, StandsOn}

-- the store of this number stands for its server behind these steps, under a layout of this stripe
pub record StandsForServer (stripe : ℕ) (counts : List ℕ) (steps : List Event) (number : ℕ)
    (stored : Stored) (server : Server) : Type 0 where
  pub stripe_is : stored.stripe ≡ stripe
  pub held : Held
  pub told : stored.told ≡ Some held
  pub stands : StandsOn stripe held stored.known server
  -- its device handed out as much as the server; a count of 64 bits stays at its last value
  pub handed_out : kept held.handed_out ≡ kept server.handed_out
  -- every key of no copy on the device is one that a failed Put left
  pub others : HoldsNoOther stripe steps number held server
  -- the device's count of faults rose by exactly the steps that failed there, but for one at its
  -- last value
  pub faults : (count : ℕ) → numbered counts number ≡ Some count → stored.faults < LAST_U64
      → stored.faults ≡ count + failed_at number steps

-- these stores, whose devices' counts of faults were these at the start, stand for these servers
-- behind these steps, each for that of its number; and no step failed at another node
pub record StandForAll (stripe : ℕ) (counts : List ℕ) (steps : List Event) (stores : List Stored)
    (servers : List Server) : Type 0 where
  pub as_many : length stores ≡ length servers
  pub each : (number : ℕ) (stored : Stored) (server : Server)
      → numbered stores number ≡ Some stored → numbered servers number ≡ Some server
      → StandsForServer stripe counts steps number stored server
  pub elsewhere : (number : ℕ) → numbered stores number ≡ None → failed_at number steps ≡ 0
