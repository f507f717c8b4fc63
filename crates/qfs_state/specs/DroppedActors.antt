-- The place of an actor among those that were dropped.
use Rattle.std.specs.Prelude.{ℕ, nat_lt, Bool}
use Rattle.qfs_base.specs.declared.image.DroppedActor.{DroppedActor}

-- whether an actor that was dropped has a higher number
abbrev pub is_above : ℕ → DroppedActor → Bool
is_above actor other = nat_lt actor other.actor
