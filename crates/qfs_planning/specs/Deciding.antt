-- What is decided on a refusal, a test, or a thing that has to be there, by what was found out.
use Rattle.std.proofs.Common.{◌≡◌, ◌∙◌, ℕ, Bool, true, false, Option, Some, None, length, unwrap_or, ap, refl, subst, sym}
use Rattle.std.specs.Option.{option_map}
use Rattle.qfs_base.specs.declared.image.MetaImage.{MetaImage}
use Rattle.qfs_base.specs.declared.image.TreeRow.{TreeRow}
use Rattle.qfs_base.specs.declared.reply.MetaReply.{MetaReply}
use Rattle.qfs_base.specs.declared.reply.MetaReply.TheVariants as Told
use Rattle.qfs_base.specs.declared.reply.TreeRefusal.{TreeRefusal}
use Rattle.qfs_model_meta.specs.Decision.{Decision, Tells, refuse, unless, need, refuse_file}
use Rattle.qfs_namespace.specs.declared.file.KnownFile.{KnownFile}
use Rattle.qfs_namespace.specs.Joined.{known_in}
use Rattle.qfs_state.specs.declared.prepared.Plan.{Plan}
use Rattle.qfs_state.specs.declared.prepared.Unplanned.{Unplanned}
use Rattle.qfs_state.specs.declared.prepared.Unplanned.TheVariants as Is
use Rattle.qfs_state.specs.Planning.{IsPlan, IsUnplanned}

pub refuse_some : (refusal : Option MetaReply) (further : Decision) (reply : MetaReply)
    → refusal ≡ Some reply → refuse refusal further ≡ Tells reply
unfolding refuse
refuse_some refusal further reply e = ap (λ r. refuse r further) e

pub refuse_none : (refusal : Option MetaReply) (further : Decision) → refusal ≡ None
    → refuse refusal further ≡ further
unfolding refuse
refuse_none refusal further e = ap (λ r. refuse r further) e

pub refuse_file_some : (place : ℕ) (refusal : Option TreeRefusal) (further : Decision)
    (why : TreeRefusal) → refusal ≡ Some why
    → refuse_file place refusal further ≡ Tells (Told.Refused why place)
unfolding refuse_file refuse
refuse_file_some place refusal further why e = ap (λ r. refuse_file place r further) e

pub refuse_file_none : (place : ℕ) (refusal : Option TreeRefusal) (further : Decision)
    → refusal ≡ None → refuse_file place refusal further ≡ further
unfolding refuse_file refuse
refuse_file_none place refusal further e = ap (λ r. refuse_file place r further) e

pub unless_true : (test : Bool) (refusal : MetaReply) (further : Decision) → test ≡ true
    → unless test refusal further ≡ further
unfolding unless
unless_true test refusal further e = ap (λ b. unless b refusal further) e

pub unless_false : (test : Bool) (refusal : MetaReply) (further : Decision) → test ≡ false
    → unless test refusal further ≡ Tells refusal
unfolding unless
unless_false test refusal further e = ap (λ b. unless b refusal further) e

pub need_some : {X : Type 0} (refusal : MetaReply) (further : X → Decision) (thing : Option X)
    (x : X) → thing ≡ Some x → need refusal further thing ≡ further x
unfolding need
need_some refusal further thing x e = ap (need refusal further) e

pub need_none : {X : Type 0} (refusal : MetaReply) (further : X → Decision) (thing : Option X)
    → thing ≡ None → need refusal further thing ≡ Tells refusal
unfolding need
need_none refusal further thing e = ap (need refusal further) e

-- what is told where the name tree refuses a file command
pub told_refused : (m : MetaImage) (decision further : Decision) (refusal : Option TreeRefusal)
    (why : TreeRefusal) (place : ℕ) (it : Unplanned)
    → decision ≡ refuse_file (length m.history) refusal further → refusal ≡ Some why
    → place ≡ length m.history → it ≡ Is.Tells (Told.Refused why place) → IsUnplanned decision it
told_refused m decision further refusal why place it decided refused at is =
    subst (IsUnplanned decision) (sym is)
    (decided ∙ refuse_file_some (length m.history) refusal further why refused
    ∙ ap (λ p. Tells (Told.Refused why p)) (sym at))

-- a plan of a decision that is the same as another
pub plan_as : (m : MetaImage) (decision same : Decision) (plan : Plan) → decision ≡ same
    → IsPlan m same plan → IsPlan m decision plan
plan_as m decision same plan e planned = subst (λ d. IsPlan m d plan) (sym e) planned

-- a file that was found by what is known of it
pub found_row : (found : Option TreeRow) (known : KnownFile) → option_map known_in found ≡ Some known
    → (row : TreeRow) × ((found ≡ Some row) × (known_in row ≡ known))
found_row None known e = absurd (none_some e)
  where
    none_some : None ≡ Some known → ⊥
    none_some e = cc
found_row (Some row) known e = (row, (refl, ap (λ o. unwrap_or o known) e))

pub found_none : (found : Option TreeRow) → option_map known_in found ≡ None → found ≡ None
found_none None e = refl
found_none (Some row) e = absurd (some_none e)
  where
    some_none : Some (known_in row) ≡ None → ⊥
    some_none e = cc
