-- Failed steps have their faults: the counts of devices rose exactly as often, and those of disks at least as often.
use Rattle.std.specs.Prelude.{ℕ, ◌≡◌, ◌+◌, ◌<◌, ◌≤◌, List, Some}
use Rattle.qfs_base.specs.declared.history.Step.{Step}
use Rattle.qfs_base.specs.declared.script.Script.{Script}
use Rattle.qfs_base.specs.Sizes.{LAST_U64}
use Rattle.qfs_model_world.specs.Events.{events}
use Rattle.qfs_model_world.specs.Headline.{failed_at}
use Rattle.qfs_model_world.specs.World.{numbered}

-- the counts of faults of the devices by server, and of the two disks
pub record Counts : Type 0 where
  pub devices : List ℕ
  pub left : ℕ
  pub right : ℕ

-- the count of server s's device rose by exactly the steps that failed there, and the counts of the two disks rose together at
-- least by those that failed at the metaserver. A count at its last value says nothing
pub record FaultsShow (script : Script) (order : List Step) (before behind : Counts) : Type 0 where
  pub devices : (number old new : ℕ)
      → numbered before.devices number ≡ Some old → numbered behind.devices number ≡ Some new → new < LAST_U64
      → new ≡ old + failed_at number (events script order)
  pub disks : behind.left < LAST_U64 → behind.right < LAST_U64
      → before.left + before.right + failed_at 0 (events script order) ≤ behind.left + behind.right
