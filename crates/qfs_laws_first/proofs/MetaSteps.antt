-- A step of the metaserver that came out done, by what was decided. Cited by the steps of puts and
-- gets.
use Rattle.std.proofs.Common.{◌≡◌, ℕ, ◌<◌, ◌≤◌, nat_lt, true, List, [], length, Option, Some, None}
use Rattle.std.proofs.Common.{refl, ap, ◌∙◌, arith}
use Rattle.std.proofs.lemmas.Bool.Decides.{nat_tests}
use Rattle.qfs_base.specs.declared.change.Change.{Change}
use Rattle.qfs_base.specs.declared.history.Outcome.TheVariants as Ended
use Rattle.qfs_base.specs.declared.image.MetaImage.{MetaImage}
use Rattle.qfs_base.specs.declared.reply.MetaReply.{MetaReply}
use Rattle.qfs_base.specs.declared.reply.MetaReply.TheVariants as Told
use Rattle.qfs_base.specs.declared.reply.TreeRefusal.{TreeRefusal}
use Rattle.qfs_base.specs.declared.request.MetaRequest.{MetaRequest}
use Rattle.qfs_base.specs.declared.rules.Rules.{Rules}
use Rattle.qfs_model_meta.specs.Apply.{apply_all}
use Rattle.qfs_model_meta.specs.Counters.{counters_fit}
use Rattle.qfs_model_meta.specs.Decide.{decide}
use Rattle.qfs_model_meta.specs.Decision.{Decision, Tells, Makes, refuse, refuse_file}
use Rattle.qfs_model_meta.specs.Dropped.{dropped_at}
use Rattle.qfs_model_meta.specs.Step.{stays, next_turn, take_step, carry_out, end_step}
use Rattle.qfs_model_meta.specs.Step.{serve_unless_dropped, meta_step}

-- so few files, leases, condemned copies and entries at most
pub record IsFew (most next_file next_lease next_condemned places : ℕ) : Type 0 where
  pub files : next_file ≤ most
  pub leases : next_lease ≤ most
  pub condemned : next_condemned ≤ most
  pub entries : places ≤ most

abbrev pub AreFew : ℕ → MetaImage → Type 0
AreFew most m = IsFew most m.next_file m.next_lease m.next_condemned (length m.history)

pub few-more : (most more next_file next_lease next_condemned places : ℕ) → most ≤ more
    → IsFew most next_file next_lease next_condemned places
    → IsFew more next_file next_lease next_condemned places
few-more most more next_file next_lease next_condemned places less few =
    record {
      files = omega (arith, less, few.files);
      leases = omega (arith, less, few.leases);
      condemned = omega (arith, less, few.condemned);
      entries = omega (arith, less, few.entries);
    }

below : (n most : ℕ) → n ≤ most → most ≤ 100000 → nat_lt n 4294967296 ≡ true
below n most few small = let less : n < 4294967296 = omega arith in grind (arith, nat_tests)

below_64 : (n most : ℕ) → n ≤ most → most ≤ 100000 → nat_lt n 18446744073709551616 ≡ true
below_64 n most few small =
    let less : n < 18446744073709551616 = omega arith in grind (arith, nat_tests)

few-fit : (most : ℕ) (m : MetaImage) → AreFew most m → most ≤ 100000 → counters_fit m ≡ true
unfolding counters_fit
few-fit most m few small =
    rw (
      below m.next_file most few.files small,
      below_64 m.next_lease most few.leases small,
      below_64 m.next_condemned most few.condemned small,
      below (length m.history) most few.entries small,
    )
    refl

module _ (rules : Rules) (m : MetaImage) (request : MetaRequest) (none : m.dropped ≡ []) where
  step-decided : (decision : Decision) → decide rules 1 m request ≡ decision
      → meta_step rules 1 request Ended.Done m ≡ carry_out m decision
  unfolding meta_step dropped_at serve_unless_dropped end_step
  step-decided decision decided =
      ap (λ dropped. serve_unless_dropped m (end_step m (decide rules 1 m request) Ended.Done)
      (dropped_at 1 dropped)) none
      ∙ ap (λ d. end_step m d Ended.Done) decided

  pub step-makes : (changes : List Change) (reply : MetaReply) (most : ℕ)
      → decide rules 1 m request ≡ Makes changes reply → AreFew most (apply_all changes m)
      → most ≤ 100000
      → meta_step rules 1 request Ended.Done m
      ≡ record { meta = next_turn (apply_all changes m); reply = reply }
  unfolding carry_out take_step
  step-makes changes reply most decided few small =
      step-decided (Makes changes reply) decided
      ∙ ap (take_step m (apply_all changes m) reply) (few-fit most (apply_all changes m) few small)

  pub step-tells : (reply : MetaReply) → decide rules 1 m request ≡ Tells reply
      → meta_step rules 1 request Ended.Done m ≡ record { meta = m; reply = reply }
  unfolding carry_out stays
  step-tells reply decided = step-decided (Tells reply) decided

-- ---- refusals of the name tree

pub refused-file : (place : ℕ) (refusal : Option TreeRefusal) (why : TreeRefusal) (further : _)
    → refusal ≡ Some why → refuse_file place refusal further ≡ Tells (Told.Refused why place)
unfolding refuse_file refuse
refused-file place refusal why further is = rw is refl

pub accepted-file : (place : ℕ) (refusal : Option TreeRefusal) (further : _) → refusal ≡ None
    → refuse_file place refusal further ≡ further
unfolding refuse_file refuse
accepted-file place refusal further is = rw is refl
