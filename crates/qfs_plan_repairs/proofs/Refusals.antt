-- How a decision goes on by what was found out.
use Rattle.std.proofs.Common.{◌≡◌, ℕ, ◌<◌, ◌≤◌, true, false, nat_lt, Option, Some, None, ap, arith}
use Rattle.std.proofs.lemmas.Bool.Decides.{nat_tests}
use Rattle.qfs_base.specs.declared.image.Grant.{Grant}
use Rattle.qfs_base.specs.declared.reply.MetaReply.TheVariants as Told
use Rattle.qfs_base.specs.declared.reply.TreeRefusal.{TreeRefusal}
use Rattle.qfs_model_meta.specs.Decision.{Decision, Tells, refuse, refuse_path}
use Rattle.qfs_model_meta.specs.LeasedGrants.{pending_refusal}

pub path_some : (refusal : Option TreeRefusal) (further : Decision) (why : TreeRefusal)
    → refusal ≡ Some why → refuse_path refusal further ≡ Tells (Told.BadPath why)
unfolding refuse_path refuse
path_some refusal further why e = ap (λ r. refuse_path r further) e

pub path_none : (refusal : Option TreeRefusal) (further : Decision) → refusal ≡ None
    → refuse_path refusal further ≡ further
unfolding refuse_path refuse
path_none refusal further e = ap (λ r. refuse_path r further) e

pub pending_some : (grant : Option Grant) (further : Decision) (pending : Grant)
    → grant ≡ Some pending
    → refuse (pending_refusal grant) further ≡ Tells (Told.Taken pending.copy.version)
unfolding pending_refusal refuse
pending_some grant further pending e = ap (λ g. refuse (pending_refusal g) further) e

pub pending_none : (grant : Option Grant) (further : Decision) → grant ≡ None
    → refuse (pending_refusal grant) further ≡ further
unfolding pending_refusal refuse
pending_none grant further e = ap (λ g. refuse (pending_refusal g) further) e

pub below : (index count : ℕ) → index < count → nat_lt index count ≡ true
below index count low = grind (arith, nat_tests)

pub not_below : (index count : ℕ) → count ≤ index → nat_lt index count ≡ false
not_below index count high = grind (arith, nat_tests)
