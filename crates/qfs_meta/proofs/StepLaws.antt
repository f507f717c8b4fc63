-- How a step ends, by what was decided.
use Rattle.std.proofs.Common.{◌≡◌, ℕ, ◌&&◌, Bool, true, false, List, [], ◌∷◌, ◌++◌, Option, Some, None, refl, sym, ap, ◌∙◌}
use Rattle.std.proofs.lemmas.Bool.{lt-ltb}
use Rattle.std.proofs.lemmas.List.Sums.{fold-append}
use Rattle.qfs_base.specs.declared.history.Outcome.TheVariants as Ended
use Rattle.qfs_base.specs.declared.image.MetaImage.{MetaImage}
use Rattle.qfs_base.specs.declared.reply.MetaReply.{MetaReply}
use Rattle.qfs_base.specs.declared.reply.MetaReply.TheVariants as Told
use Rattle.qfs_base.specs.declared.reply.TreeRefusal.{TreeRefusal}
use Rattle.qfs_base.specs.Outcome.{meta_outcome}
use Rattle.qfs_model_meta.specs.Apply.{apply, apply_all}
use Rattle.qfs_base.specs.declared.change.Change.{Change}
use Rattle.qfs_model_meta.specs.Counters.{counters_fit}
use Rattle.qfs_model_meta.specs.Decision.{Decision, Tells, Makes, refuse, unless, need, refuse_file}
use Rattle.qfs_model_meta.specs.Step.{Served, end_step, carry_out, take_step, stays, next_turn}
use Rattle.qfs_meta.specs.Kept.{IsKept}
use Rattle.qfs_meta.specs.Serving.{Serves, IsNoFailure}

-- a step that is done didn't fail
pub no_failure : (reply : MetaReply) → meta_outcome reply ≡ Ended.Done → IsNoFailure reply
no_failure reply done failed = let same : Ended.Done ≡ Ended.Failed = sym done ∙ failed in cc

-- neither did one that found no memory
pub memory_is_no_failure : IsNoFailure Told.NoMemory
unfolding meta_outcome
memory_is_no_failure failed = cc

-- what is told is told, and the state stays
pub tells : (m : MetaImage) (reply : MetaReply) → meta_outcome reply ≡ Ended.Done → Serves m (Tells reply) m reply
unfolding end_step carry_out stays
tells m reply done = record { step = ap (end_step m (Tells reply)) done; never_fails = no_failure reply done }

-- memory may run out whatever was decided
pub runs_out : (m : MetaImage) (decision : Decision) → Serves m decision m Told.NoMemory
unfolding end_step stays meta_outcome
runs_out m decision = record { step = refl; never_fails = memory_is_no_failure }

fits : (m : MetaImage) → IsKept m → counters_fit m ≡ true
unfolding counters_fit
fits m kept =
    λ i. lt-ltb _ _ kept.files i && lt-ltb _ _ kept.leases i && lt-ltb _ _ kept.condemned i && lt-ltb _ _ kept.places i

-- changes are made, and the turn rises
pub makes : (old : MetaImage) (changes : List Change) (reply : MetaReply) (new : MetaImage) → meta_outcome reply ≡ Ended.Done →
    new ≡ next_turn (apply_all changes old) → IsKept new → Serves old (Makes changes reply) new reply
unfolding end_step carry_out take_step next_turn counters_fit
makes old changes reply new done made kept =
    let next : MetaImage = apply_all changes old in
    let fit : counters_fit next ≡ true = ap counters_fit (sym made) ∙ fits new kept in
    let served : Served = record { meta = next_turn next; reply = reply } in
    let taken : take_step old next reply (counters_fit next) ≡ served = ap (take_step old next reply) fit in
    record {
      step = ap (end_step old (Makes changes reply)) done ∙ taken ∙ (λ i. record { meta = sym made i; reply = reply });
      never_fails = no_failure reply done;
    }

-- a decision that is the same as another is served as that one is
pub served_as : (old : MetaImage) (decision same : Decision) (new : MetaImage) (reply : MetaReply) → decision ≡ same →
    Serves old same new reply → Serves old decision new reply
served_as old decision same new reply e served = record {
  step = ap (λ d. end_step old d (meta_outcome reply)) e ∙ served.step;
  never_fails = served.never_fails;
}

-- what is decided on a refusal, a test or a thing that has to be there
pub refuse_some : (refusal : Option MetaReply) (further : Decision) (reply : MetaReply) → refusal ≡ Some reply → refuse refusal further ≡ Tells reply
unfolding refuse
refuse_some refusal further reply e = ap (λ r. refuse r further) e

pub refuse_none : (refusal : Option MetaReply) (further : Decision) → refusal ≡ None → refuse refusal further ≡ further
unfolding refuse
refuse_none refusal further e = ap (λ r. refuse r further) e

pub refuse_file-some : (place : ℕ) (refusal : Option TreeRefusal) (further : Decision) (why : TreeRefusal) → refusal ≡ Some why → refuse_file place refusal further ≡ Tells (Told.Refused why place)
unfolding refuse_file refuse
refuse_file-some place refusal further why e = ap (λ r. refuse_file place r further) e

pub refuse_file-none : (place : ℕ) (refusal : Option TreeRefusal) (further : Decision) → refusal ≡ None → refuse_file place refusal further ≡ further
unfolding refuse_file refuse
refuse_file-none place refusal further e = ap (λ r. refuse_file place r further) e

pub unless_true : (test : Bool) (refusal : MetaReply) (further : Decision) → test ≡ true → unless test refusal further ≡ further
unfolding unless
unless_true test refusal further e = ap (λ b. unless b refusal further) e

pub unless_false : (test : Bool) (refusal : MetaReply) (further : Decision) → test ≡ false → unless test refusal further ≡ Tells refusal
unfolding unless
unless_false test refusal further e = ap (λ b. unless b refusal further) e

pub need_some : {X : Type 0} (refusal : MetaReply) (further : X → Decision) (thing : Option X) (x : X) → thing ≡ Some x → need refusal further thing ≡ further x
unfolding need
need_some refusal further thing x e = ap (need refusal further) e

pub need_none : {X : Type 0} (refusal : MetaReply) (further : X → Decision) (thing : Option X) → thing ≡ None → need refusal further thing ≡ Tells refusal
unfolding need
need_none refusal further thing e = ap (need refusal further) e

-- the last of some changes
pub last_change : (m : MetaImage) (changes : List Change) (last : Change) → apply_all (changes ++ last ∷ []) m ≡ apply (apply_all changes m) last
unfolding apply_all
last_change m changes last = fold-append apply m changes (last ∷ [])
