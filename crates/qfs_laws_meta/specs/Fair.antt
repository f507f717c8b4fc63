-- Decisions that answer as a request may be answered, and whose changes tell no more of the state
-- behind them. For the law `steps_answer`.
use Rattle.qfs_base.specs.EachLaws.{each_append}
use Rattle.qfs_base.specs.Table.{Each}
use Rattle.qfs_base.specs.declared.change.Change.TheVariants.{AddDirectory, CloseFile, ConfirmSlot}
use Rattle.qfs_base.specs.declared.change.Change.TheVariants.{GiveLease, GrantSlot}
use Rattle.qfs_base.specs.declared.change.Change.{Change}
use Rattle.qfs_base.specs.declared.chunk.BlockId.{BlockId}
use Rattle.qfs_base.specs.declared.chunk.Copy.{Copy}
use Rattle.qfs_base.specs.declared.history.Outcome.TheVariants as Ended
use Rattle.qfs_base.specs.declared.history.Outcome.{Outcome}
use Rattle.qfs_base.specs.declared.image.MetaImage.{MetaImage}
use Rattle.qfs_base.specs.declared.reply.Granted.{Granted}
use Rattle.qfs_base.specs.declared.reply.MetaReply.TheVariants as Told
use Rattle.qfs_base.specs.declared.reply.MetaReply.{MetaReply}
use Rattle.qfs_base.specs.declared.reply.TreeRefusal.{TreeRefusal}
use Rattle.qfs_base.specs.declared.request.MetaRequest.TheVariants as Ask
use Rattle.qfs_base.specs.declared.request.MetaRequest.{MetaRequest}
use Rattle.qfs_base.specs.declared.rules.Rules.{Rules}
use Rattle.qfs_laws_meta.specs.ChangeTells.{Gives, Lends, Seals, change-tells}
use Rattle.qfs_laws_meta.specs.MayTell.{AnyMayGet, MayTell}
use Rattle.qfs_laws_meta.specs.Requests.{AllMake, Fine}
use Rattle.qfs_laws_meta.specs.Tells as Of
use Rattle.qfs_laws_slots.specs.Changes.{MayMake, told}
use Rattle.qfs_model_meta.specs.Apply.{apply, apply_all}
use Rattle.qfs_model_meta.specs.Counters.{counters_fit}
use Rattle.qfs_model_meta.specs.Decide.{decide}
use Rattle.qfs_model_meta.specs.Decision.{Decision, Makes, Tells, UsesDisks, need, refuse}
use Rattle.qfs_model_meta.specs.Decision.{refuse_file, refuse_path, unless}
use Rattle.qfs_model_meta.specs.Dropped.{dropped_at}
use Rattle.qfs_model_meta.specs.Past.{Past, granted_slot_copy}
use Rattle.qfs_model_meta.specs.Step.{Served, carry_out, end_step, fail_disks, next_turn}
use Rattle.qfs_model_meta.specs.Step.{serve_unless_dropped, stays, take_step}
use Rattle.std.proofs.Common.{Bool, List, None, Option, Some, [], cond, false, inl, inr, map, refl}
use Rattle.std.proofs.Common.{true, ℕ, ◌∷◌, ◌≡◌, ◌⊎◌}
use Rattle.std.specs.Prelude.{flat_map, ⊤}

-- ---- what a step tells of the state behind it

abbrev pub IsDone : MetaReply → Type 0
IsDone (Told.Done place) = ⊤
IsDone reply = ⊥

-- the slots whose grants a request makes current, as it is answered
abbrev pub SealedBy : MetaReply → MetaRequest → BlockId → ℕ → Type 0
SealedBy reply (Ask.Close file) block slot = (block.file ≡ file) × IsDone reply
SealedBy reply (Ask.Confirm other at version lease) block slot =
    ((other ≡ block) × (at ≡ slot)) × (reply ≡ Told.Confirmed)
SealedBy reply request block slot = ⊥

-- the copy that a reply grants
abbrev pub ToldIn : MetaReply → BlockId → ℕ → Copy → Type 0
ToldIn reply block slot copy =
    (g : Granted) × (reply ≡ Told.Granted g)
    × (granted_slot_copy g ≡ record { block = block; slot = slot; copy = copy })

-- a current copy was current, or its grant is made so by this request; a grant was pending, or is
-- told now; known lives rise; a lease that is live was live, or has the next number; and the
-- history goes on
abbrev pub StepTells : MetaRequest → MetaReply → MetaImage → MetaImage → Type 0
StepTells request reply m n =
    Of.Tells (SealedBy reply request) (ToldIn reply) (λ lease. m.next_lease ≡ lease) m n

-- ---- changes by which nothing new comes

abbrev pub IsPlain : Change → Type 0
IsPlain (CloseFile file actor command) = ⊥
IsPlain (GrantSlot block slot server actor lease) = ⊥
IsPlain (ConfirmSlot block slot) = ⊥
IsPlain (GiveLease actor file until) = ⊥
IsPlain change = ⊤

no-seals : (change : Change) → IsPlain change → (block : BlockId) (slot : ℕ)
    → Seals change block slot → ⊥
no-seals (CloseFile file actor command) plain block slot s = plain
no-seals (ConfirmSlot other at) plain block slot s = plain
no-seals (AddDirectory path) plain block slot s = s
no-seals _ plain block slot s = s

no-gives : (m : MetaImage) (change : Change) → IsPlain change
    → (block : BlockId) (slot : ℕ) (copy : Copy) → Gives m change block slot copy → ⊥
no-gives m (GrantSlot other at server actor lease) plain block slot copy g = plain
no-gives m (AddDirectory path) plain block slot copy g = g
no-gives m _ plain block slot copy g = g

no-lends : (m : MetaImage) (change : Change) → IsPlain change → (lease : ℕ) → Lends m change lease
    → ⊥
no-lends m (GiveLease actor file until) plain lease l = plain
no-lends m (AddDirectory path) plain lease l = l
no-lends m _ plain lease l = l

pub plain-one : (past : Past) (m : MetaImage) (change : Change) → MayMake past m change
    → IsPlain change → Of.Plain m (apply m change)
plain-one past m change may plain =
    Of.tells-as m (apply m change) (no-seals change plain) (no-gives m change plain)
    (no-lends m change plain) (change-tells past m change may)

pub plain-all : (past : Past) (m : MetaImage) (changes : List Change) → AllMake past m changes
    → Each IsPlain changes → Of.Plain m (apply_all changes m)
unfolding apply_all
plain-all past m [] may plain = Of.stays-plain m
plain-all past m (change ∷ changes) may plain =
    Of.tells-before m (apply m change) (apply_all changes (apply m change))
    (plain-one past m change may.0 plain.0)
    (plain-all (told change m past) (apply m change) changes may.1 plain.1)

pub plain-tells : (request : MetaRequest) (reply : MetaReply) (m n : MetaImage) → Of.Plain m n
    → StepTells request reply m n
plain-tells request reply m n plain =
    Of.tells-as m n (λ _ _ s. absurd s) (λ _ _ _ g. absurd g) (λ _ l. absurd l) plain

pub plain-map : {X : Type 0} (f : X → Change) → ((x : X) → IsPlain (f x)) → (xs : List X)
    → Each IsPlain (map f xs)
plain-map f plain [] = tt
plain-map f plain (x ∷ xs) = (plain x, plain-map f plain xs)

pub plain-flat : {X : Type 0} (f : X → List Change) → ((x : X) → Each IsPlain (f x)) → (xs : List X)
    → Each IsPlain (flat_map f xs)
plain-flat f plain [] = tt
plain-flat f plain (x ∷ xs) =
    each_append IsPlain (f x) (flat_map f xs) (plain x) (plain-flat f plain xs)

-- ---- decisions

module _ (rules : Rules) (actor : ℕ) (past : Past) (m : MetaImage) (request : MetaRequest) where
  abbrev pub Goes : List Change → MetaReply → Type 0
  Goes changes reply = AllMake past m changes → StepTells request reply m (apply_all changes m)

  abbrev pub Fair : Decision → Type 0
  Fair (Tells reply) = MayTell rules actor m reply request
  Fair (UsesDisks reply) = MayTell rules actor m reply request
  Fair (Makes changes reply) = MayTell rules actor m reply request × Goes changes reply

  pub plain-goes : (changes : List Change) (reply : MetaReply) → Each IsPlain changes
      → Goes changes reply
  plain-goes changes reply plain may =
      plain-tells request reply m (apply_all changes m) (plain-all past m changes may plain)

  pub refuse-fair : (refusal : Option MetaReply) (further : Decision)
      → ((reply : MetaReply) → refusal ≡ Some reply → MayTell rules actor m reply request)
      → (refusal ≡ None → Fair further) → Fair (refuse refusal further)
  unfolding refuse
  refuse-fair None further told fair = fair refl
  refuse-fair (Some reply) further told fair = told reply refl

  pub unless-fair : (test : Bool) (reply : MetaReply) (further : Decision)
      → (test ≡ false → MayTell rules actor m reply request) → (test ≡ true → Fair further)
      → Fair (unless test reply further)
  unfolding unless
  unless-fair true reply further told fair = fair refl
  unless-fair false reply further told fair = told refl

  pub need-fair : {X : Type 0} (reply : MetaReply) (further : X → Decision) (found : Option X)
      → (found ≡ None → MayTell rules actor m reply request)
      → ((x : X) → found ≡ Some x → Fair (further x)) → Fair (need reply further found)
  unfolding need
  need-fair reply further None told fair = told refl
  need-fair reply further (Some x) told fair = fair x refl

  pub file-fair : (place : ℕ) (refusal : Option TreeRefusal) (further : Decision)
      → ((why : TreeRefusal) → refusal ≡ Some why → MayTell rules actor m (Told.Refused why place)
      request)
      → (refusal ≡ None → Fair further) → Fair (refuse_file place refusal further)
  unfolding refuse_file refuse
  file-fair place None further told fair = fair refl
  file-fair place (Some why) further told fair = told why refl

  pub path-fair : (refusal : Option TreeRefusal) (further : Decision)
      → ((why : TreeRefusal) → refusal ≡ Some why → MayTell rules actor m (Told.BadPath why)
      request)
      → (refusal ≡ None → Fair further) → Fair (refuse_path refusal further)
  unfolding refuse_path refuse
  path-fair None further told fair = fair refl
  path-fair (Some why) further told fair = told why refl

-- ---- the step

-- what a step answers, and what it tells of the state behind it
pub record IsAnswered (rules : Rules) (actor : ℕ) (outcome : Outcome) (m : MetaImage)
    (request : MetaRequest) (served : Served) : Type 0 where
  pub answer : ((dropped_at actor m.dropped ≡ None) × MayTell rules actor m served.reply request)
      ⊎ AnyMayGet rules actor outcome m request served.reply
  pub tells : StepTells request served.reply m served.meta

turned-tells : (request : MetaRequest) (reply : MetaReply) (m n : MetaImage)
    → StepTells request reply m n → StepTells request reply m (next_turn n)
unfolding next_turn
turned-tells request reply m n t =
    record {
      current = t.current;
      granted = t.granted;
      as_many = t.as_many;
      lives = t.lives;
      leases = t.leases;
      entries = t.entries;
      history = t.history;
    }

module _ (rules : Rules) (actor : ℕ) (outcome : Outcome) (past : Past) (m : MetaImage)
    (request : MetaRequest) where
  same-state : (reply : MetaReply)
      → ((dropped_at actor m.dropped ≡ None) × MayTell rules actor m reply request)
      ⊎ AnyMayGet rules actor outcome m request reply
      → IsAnswered rules actor outcome m request (stays m reply)
  unfolding stays
  same-state reply may =
      record { answer = may; tells = plain-tells request reply m m (Of.stays-plain m) }

  module _ (none : dropped_at actor m.dropped ≡ None) where
    made : (changes : List Change) (reply : MetaReply)
        → decide rules actor m request ≡ Makes changes reply
        → Fine actor past m (Makes changes reply)
        → Fair rules actor past m request (Makes changes reply) → (fits : Bool)
        → counters_fit (apply_all changes m) ≡ fits
        → IsAnswered rules actor outcome m request (take_step m (apply_all changes m) reply fits)
    unfolding take_step
    made changes reply is fine fair true fits =
        record {
          answer = inl (none, fair.0);
          tells = turned-tells request reply m (apply_all changes m)
              (fair.1 fine.0);
        }
    made changes reply is fine fair false out =
        same-state Told.NoMemory (inr (none, inr (changes, reply, is, out)))

    failed : (changes : List Change) (reply : MetaReply)
        → decide rules actor m request ≡ Makes changes reply → outcome ≡ Ended.Failed → (b : Bool)
        → counters_fit (apply_all changes m) ≡ b
        → IsAnswered rules actor outcome m request
        (stays m (cond b Told.LogFault Told.NoMemory))
    failed changes reply is fails true fits =
        same-state Told.LogFault (inr (none, fails, inr (changes, reply, is, fits)))
    failed changes reply is fails false out =
        same-state Told.NoMemory (inr (none, inr (changes, reply, is, out)))

pub step-answers : (rules : Rules) (actor : ℕ) (outcome : Outcome) (past : Past) (m : MetaImage)
    (request : MetaRequest) (decision : Decision) (dropped : Option ℕ)
    → decide rules actor m request ≡ decision
    → dropped_at actor m.dropped ≡ dropped
    → Fine actor past m decision → Fair rules actor past m request decision → IsAnswered rules actor
    outcome m request (serve_unless_dropped m (end_step m decision outcome) dropped)
unfolding serve_unless_dropped end_step carry_out fail_disks
step-answers rules actor outcome past m request decision (Some turn) is at fine fair =
    same-state rules actor outcome past m request (Told.Dropped turn) (inr at)
step-answers rules actor Ended.NoMemory past m request decision None is at fine fair =
    same-state rules actor Ended.NoMemory past m request Told.NoMemory (inr (at, inl refl))
step-answers rules actor Ended.Done past m request (Tells reply) None is at fine fair =
    same-state rules actor Ended.Done past m request reply (inl (at, fair))
step-answers rules actor Ended.Done past m request (UsesDisks reply) None is at fine fair =
    same-state rules actor Ended.Done past m request reply (inl (at, fair))
step-answers rules actor Ended.Done past m request (Makes changes reply) None is at fine fair =
    made rules actor Ended.Done past m request at changes reply is fine fair
    (counters_fit (apply_all changes m)) refl
step-answers rules actor Ended.Failed past m request (Tells reply) None is at fine fair =
    same-state rules actor Ended.Failed past m request reply (inl (at, fair))
step-answers rules actor Ended.Failed past m request (UsesDisks reply) None is at fine fair =
    same-state rules actor Ended.Failed past m request Told.LogFault
    (inr (at, refl, inl (reply, is)))
step-answers rules actor Ended.Failed past m request (Makes changes reply) None is at fine fair =
    failed rules actor Ended.Failed past m request at changes reply is refl
    (counters_fit (apply_all changes m)) refl
