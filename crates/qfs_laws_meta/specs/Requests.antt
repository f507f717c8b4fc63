-- A request makes changes that may be made, and its reply tells what they tell. For the law
-- `stays_sound`.
use Rattle.qfs_base.specs.declared.change.Change.{Change}
use Rattle.qfs_base.specs.declared.history.Outcome.{Outcome}
use Rattle.qfs_base.specs.declared.image.MetaImage.{MetaImage}
use Rattle.qfs_base.specs.declared.reply.MetaReply.{MetaReply}
use Rattle.qfs_base.specs.declared.reply.TreeRefusal.{TreeRefusal}
use Rattle.qfs_model_meta.specs.Apply.{apply, apply_all}
use Rattle.qfs_model_meta.specs.Counters.{counters_fit}
use Rattle.qfs_model_meta.specs.Decision.{Decision, Makes, Tells, UsesDisks, need, refuse}
use Rattle.qfs_model_meta.specs.Decision.{refuse_file, refuse_path, unless}
use Rattle.qfs_model_meta.specs.Past.{Past, remember}
use Rattle.qfs_model_meta.specs.Step.{Served, carry_out, end_step, fail_disks, next_turn}
use Rattle.qfs_model_meta.specs.Step.{serve_unless_dropped, stays, take_step}
use Rattle.std.proofs.Common.{Bool, List, None, Option, Some, [], cond, false, refl, subst, sym}
use Rattle.std.proofs.Common.{true, ℕ, ◌++◌, ◌∷◌, ◌≡◌}
use Rattle.std.specs.Prelude.{IsTrue, ⊤}
use Rattle.qfs_base.specs.declared.history.Outcome.TheVariants as Ended
use Rattle.qfs_base.specs.declared.reply.MetaReply.TheVariants as Told
use Rattle.qfs_laws_meta.specs.Kept.{Keeps, kept}
use Rattle.qfs_laws_slots.specs.Changes.{MayMake, told}
use Rattle.qfs_base.specs.EachLaws.{each_weaker}

-- ---- changes one after another

abbrev pub told_all : List Change → MetaImage → Past → Past
told_all [] m past = past
told_all (change ∷ changes) m past = told_all changes (apply m change) (told change m past)

abbrev pub AllMake : Past → MetaImage → List Change → Type 0
AllMake past m [] = ⊤
AllMake past m (change ∷ changes) =
    MayMake past m change × AllMake (told change m past) (apply m change) changes

pub kept-all : (past : Past) (m : MetaImage) (changes : List Change) → AllMake past m changes
    → Keeps past m → Keeps (told_all changes m past) (apply_all changes m)
unfolding apply_all
kept-all past m [] may h = h
kept-all past m (change ∷ changes) may h =
    kept-all (told change m past) (apply m change) changes may.1 (kept past m change may.0 h)

pub make-append : (past : Past) (m : MetaImage) (xs ys : List Change) → AllMake past m xs
    → AllMake (told_all xs m past) (apply_all xs m) ys → AllMake past m (xs ++ ys)
unfolding apply_all
make-append past m [] ys a b = b
make-append past m (x ∷ xs) ys a b = (a.0, make-append (told x m past) (apply m x) xs ys a.1 b)

pub make-split : (past : Past) (m : MetaImage) (xs ys : List Change) → AllMake past m (xs ++ ys)
    → AllMake past m xs × AllMake (told_all xs m past) (apply_all xs m) ys
unfolding apply_all
make-split past m [] ys may = (tt, may)
make-split past m (x ∷ xs) ys may =
    let rest = make-split (told x m past) (apply m x) xs ys may.1 in ((may.0, rest.0), rest.1)

pub apply-append : (m : MetaImage) (xs ys : List Change)
    → apply_all (xs ++ ys) m ≡ apply_all ys (apply_all xs m)
unfolding apply_all
apply-append m [] ys = refl
apply-append m (x ∷ xs) ys = apply-append (apply m x) xs ys

pub told-append : (past : Past) (m : MetaImage) (xs ys : List Change)
    → told_all (xs ++ ys) m past ≡ told_all ys (apply_all xs m) (told_all xs m past)
unfolding apply_all
told-append past m [] ys = refl
told-append past m (x ∷ xs) ys = told-append (told x m past) (apply m x) xs ys

-- ---- decisions

-- a reply that tells nothing to keep to
abbrev pub Quiet : ℕ → Past → MetaReply → Type 0
Quiet actor past reply = remember actor past reply ≡ past

-- what is decided keeps the state to its past, with the reply in it
abbrev pub Fine : ℕ → Past → MetaImage → Decision → Type 0
Fine actor past m (Tells reply) = Quiet actor past reply
Fine actor past m (UsesDisks reply) = Quiet actor past reply
Fine actor past m (Makes changes reply) =
    AllMake past m changes × (Keeps (told_all changes m past) (apply_all changes m) → Keeps
    (remember actor past reply) (apply_all changes m))

pub refuse-fine : (actor : ℕ) (past : Past) (m : MetaImage) (refusal : Option MetaReply)
    (further : Decision)
    → ((reply : MetaReply) → refusal ≡ Some reply → Quiet actor past reply)
    → (refusal ≡ None → Fine actor past m further) → Fine actor past m (refuse refusal further)
unfolding refuse
refuse-fine actor past m None further quiet fine = fine refl
refuse-fine actor past m (Some reply) further quiet fine = quiet reply refl

pub unless-fine : (actor : ℕ) (past : Past) (m : MetaImage) (b : Bool) (reply : MetaReply)
    (further : Decision)
    → Quiet actor past reply → (b ≡ true → Fine actor past m further)
    → Fine actor past m (unless b reply further)
unfolding unless
unless-fine actor past m true reply further quiet fine = fine refl
unless-fine actor past m false reply further quiet fine = quiet

pub need-fine : {X : Type 0} (actor : ℕ) (past : Past) (m : MetaImage) (reply : MetaReply)
    (further : X → Decision) (found : Option X)
    → Quiet actor past reply → ((x : X) → found ≡ Some x → Fine actor past m (further x))
    → Fine actor past m (need reply further found)
unfolding need
need-fine actor past m reply further None quiet fine = quiet
need-fine actor past m reply further (Some x) quiet fine = fine x refl

pub file-fine : (actor : ℕ) (past : Past) (m : MetaImage) (place : ℕ) (refusal : Option TreeRefusal)
    (further : Decision)
    → (refusal ≡ None → Fine actor past m further)
    → Fine actor past m (refuse_file place refusal further)
unfolding refuse_file refuse remember
file-fine actor past m place None further fine = fine refl
file-fine actor past m place (Some why) further fine = refl

pub path-fine : (actor : ℕ) (past : Past) (m : MetaImage) (refusal : Option TreeRefusal)
    (further : Decision)
    → (refusal ≡ None → Fine actor past m further) → Fine actor past m (refuse_path refusal further)
unfolding refuse_path refuse remember
path-fine actor past m None further fine = fine refl
path-fine actor past m (Some why) further fine = refl

-- ---- the step

turned : (past : Past) (m : MetaImage) → Keeps past m → Keeps past (next_turn m)
unfolding next_turn
turned past m h = record {
  fits = record {
    some_server = h.fits.some_server;
    few_servers = h.fits.few_servers;
    first_file = h.fits.first_file;
    first_lease = h.fits.first_lease;
    tree = h.fits.tree;
    table = h.fits.table;
    rows = record {
      first = h.fits.rows.first;
      leases = h.fits.rows.leases;
      rows = h.fits.rows.rows;
    };
    dropped = h.fits.dropped;
    history = h.fits.history;
  };
  knows = record {
    once = h.knows.once;
    of_files = h.knows.of_files;
    behind = h.knows.behind;
    counted = h.knows.counted;
    different = h.knows.different;
    current = h.knows.current;
    pending =
        h.knows.pending;
    condemned = h.knows.condemned;
    ordered = h.knows.ordered;
    listed =
        h.knows.listed;
  };
  lives = h.lives;
  leases = record {
    once = h.leases.once;
    numbers = h.leases.numbers;
    given = h.leases.given;
    listed = h.leases.listed;
    kept = h.leases.kept;
  };
  ordered = each_weaker _ _ (λ c go. record
      { not_current = go.not_current; not_granted = go.not_granted; not_listed = go.not_listed })
      past.ordered h.ordered;
  one = h.one;
  tree = record { files = h.tree.files; legal = h.tree.legal; numbers = h.tree.numbers };
}

-- what a step leaves
pub record Stays (actor : ℕ) (past : Past) (served : Served) : Type 0 where
  pub keeps : Keeps (remember actor past served.reply) served.meta
  pub counters : IsTrue (counters_fit served.meta)

quiet-stays : (actor : ℕ) (past : Past) (m : MetaImage) (reply : MetaReply) → Quiet actor past reply
    → Keeps past m → IsTrue (counters_fit m) → Stays actor past (stays m reply)
unfolding stays
quiet-stays actor past m reply quiet h counters =
    record { keeps = subst (λ p. Keeps p m) (sym quiet) h; counters = counters }

pub step-stays : (actor : ℕ) (past : Past) (m : MetaImage) (decision : Decision) (outcome : Outcome)
    (dropped : Option ℕ)
    → Fine actor past m decision → Keeps past m → IsTrue (counters_fit m)
    → Stays actor past (serve_unless_dropped m (end_step m decision outcome) dropped)
unfolding serve_unless_dropped end_step carry_out fail_disks take_step remember counters_fit
    next_turn
step-stays actor past m decision outcome (Some turn) fine h counters =
    quiet-stays actor past m (Told.Dropped turn) refl h counters
step-stays actor past m decision Ended.NoMemory None fine h counters =
    quiet-stays actor past m Told.NoMemory refl h counters
step-stays actor past m (Tells reply) Ended.Done None fine h counters =
    quiet-stays actor past m reply fine h counters
step-stays actor past m (UsesDisks reply) Ended.Done None fine h counters =
    quiet-stays actor past m reply fine h counters
step-stays actor past m (Makes changes reply) Ended.Done None fine h counters =
    taken (counters_fit (apply_all changes m)) refl
  where
    taken : (b : Bool) → counters_fit (apply_all changes m) ≡ b
        → Stays actor past (take_step m (apply_all changes m) reply b)
    taken true is =
        record {
          keeps = turned (remember actor past reply) (apply_all changes m)
              (fine.1 (kept-all past m changes fine.0 h));
          counters = is;
        }
    taken false is = quiet-stays actor past m Told.NoMemory refl h counters
step-stays actor past m (Tells reply) Ended.Failed None fine h counters =
    quiet-stays actor past m reply fine h counters
step-stays actor past m (UsesDisks reply) Ended.Failed None fine h counters =
    quiet-stays actor past m Told.LogFault refl h counters
step-stays actor past m (Makes changes reply) Ended.Failed None fine h counters =
    failed (counters_fit (apply_all changes m))
  where
    failed : (b : Bool) → Stays actor past (stays m (cond b Told.LogFault Told.NoMemory))
    failed true = quiet-stays actor past m Told.LogFault refl h counters
    failed false = quiet-stays actor past m Told.NoMemory refl h counters
