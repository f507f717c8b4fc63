-- The changes that end a grant or the lease of a recovery or move, as they are prepared.
use Rattle.std.specs.Prelude.{ℕ, Bool, cond, List, [], ◌∷◌, Option, Some, None}
use Rattle.qfs_base.specs.declared.image.Grant.{Grant}
use Rattle.qfs_base.specs.declared.request.SlotId.{SlotId}
use Rattle.qfs_state.specs.declared.prepared.Prepared.{Prepared}
use Rattle.qfs_state.specs.declared.prepared.Prepared.TheVariants.{EndLease, FailGrant, GiveUp}

-- a lease ends, if it is to
abbrev pub lease_ends : ℕ → Bool → List Prepared
lease_ends lease ends = cond ends (EndLease lease ∷ []) []

-- a grant is given up, if it is to be
abbrev pub grant_ends : SlotId → Bool → List Prepared
grant_ends id ends = cond ends (GiveUp id ∷ []) []

-- a grant counts as failed, if one is pending
abbrev pub grant_fails : SlotId → Option Grant → List Prepared
grant_fails id None = []
grant_fails id (Some grant) = FailGrant id ∷ []
