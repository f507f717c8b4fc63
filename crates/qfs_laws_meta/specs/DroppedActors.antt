-- Which actors count as dropped behind a step: those that did before, and the one that the request
-- drops. A dropped actor is told so, whatever it asks, and changes nothing. The law
-- `dropped_actors_stay`.
use Rattle.std.proofs.Common.{◌≡◌, ℕ, ◌⊎◌, inl, inr, ⊎_elim, ◌==◌, Bool, true, false, cond, List}
use Rattle.std.proofs.Common.{[], ◌∷◌, ◌++◌, map, filter, length, Option, Some, None, refl, sym, ap}
use Rattle.std.proofs.Common.{◌∙◌, subst}
use Rattle.std.proofs.lemmas.Bool.{eqb-true}
use Rattle.std.specs.Cmp.{ranked}
use Rattle.std.specs.Option.{option_map}
use Rattle.std.specs.Prelude.{⊤, flat_map}
use Rattle.std.specs.declared.cmp.Ordering.TheVariants.{Equal}
use Rattle.qfs_base.specs.EachLaws.{each_append}
use Rattle.qfs_base.specs.NameTree.{PathNames}
use Rattle.qfs_base.specs.Table.{Each, has_key, place}
use Rattle.qfs_base.specs.declared.change.Change.{Change}
use Rattle.qfs_base.specs.declared.change.Change.TheVariants.{AddDirectory, FailGrant, GiveUp}
use Rattle.qfs_base.specs.declared.change.Change.TheVariants.{ConfirmSlot, EmptySlot, EndLease}
use Rattle.qfs_base.specs.declared.change.Change.TheVariants.{CondemnStray, DropActor}
use Rattle.qfs_base.specs.declared.chunk.BlockId.{BlockId}
use Rattle.qfs_base.specs.declared.history.Outcome.{Outcome}
use Rattle.qfs_base.specs.declared.history.Outcome.TheVariants as Ended
use Rattle.qfs_base.specs.declared.image.DroppedActor.{DroppedActor}
use Rattle.qfs_base.specs.declared.image.Grant.{Grant}
use Rattle.qfs_base.specs.declared.image.MetaImage.{MetaImage}
use Rattle.qfs_base.specs.declared.image.SlotRow.{SlotRow}
use Rattle.qfs_base.specs.declared.reply.MetaReply.{MetaReply}
use Rattle.qfs_base.specs.declared.reply.MetaReply.TheVariants as Told
use Rattle.qfs_base.specs.declared.reply.TreeRefusal.{TreeRefusal}
use Rattle.qfs_base.specs.declared.request.MetaRequest.{MetaRequest}
use Rattle.qfs_base.specs.declared.request.MetaRequest.TheVariants as Ask
use Rattle.qfs_base.specs.declared.rules.Rules.{Rules}
use Rattle.qfs_model_meta.specs.Apply.{apply, apply_all, write_entry, add_file, with_slots}
use Rattle.qfs_model_meta.specs.Apply.{grant_slot, finish_lease, bring_up}
use Rattle.qfs_model_meta.specs.Counters.{counters_fit}
use Rattle.qfs_model_meta.specs.Decide.{decide, decide_request}
use Rattle.qfs_model_meta.specs.Decision.{Decision, Tells, UsesDisks, Makes, refuse, unless, need}
use Rattle.qfs_model_meta.specs.Decision.{refuse_file, refuse_path}
use Rattle.qfs_model_meta.specs.DropRequest.{decide_drop, changes_unless_dropped, drop_changes}
use Rattle.qfs_model_meta.specs.DropRequest.{recovery_changes, unclosed_changes, is_recovery_of}
use Rattle.qfs_model_meta.specs.Dropped.{dropped_order, dropped_cmp, dropped_at, add_dropped}
use Rattle.qfs_model_meta.specs.GetRequests.{decide_open, decide_release}
use Rattle.qfs_model_meta.specs.LeasedGrants.{lease_and_grant, grant_leased, grant_chosen}
use Rattle.qfs_model_meta.specs.LeasedGrants.{grant_recovery}
use Rattle.qfs_model_meta.specs.Leases.{leases_of, leases_over, is_live_lease, holds_lease}
use Rattle.qfs_model_meta.specs.Lists.{NineCopies}
use Rattle.qfs_model_meta.specs.MoveRequests.{decide_move, move_copy, decide_evacuate}
use Rattle.qfs_model_meta.specs.MoveRequests.{evacuate_slot, decide_balance, give_to_lightest}
use Rattle.qfs_model_meta.specs.MoveRequests.{even_out, move_slot}
use Rattle.qfs_model_meta.specs.PutRequests.{decide_create, decide_grant, grant_in, grant_for_put}
use Rattle.qfs_model_meta.specs.PutRequests.{failed_grant, decide_close, close_complete}
use Rattle.qfs_model_meta.specs.PutRequests.{decide_abort, abort_unclosed, abort_changes}
use Rattle.qfs_model_meta.specs.Range.{in_range}
use Rattle.qfs_model_meta.specs.RepairRequests.{decide_recover, decide_heal, heal_slot}
use Rattle.qfs_model_meta.specs.ServerRequests.{decide_hello, decide_bye, decide_leave}
use Rattle.qfs_model_meta.specs.ServerRequests.{decide_hibernate, decide_tick, decide_left_on}
use Rattle.qfs_model_meta.specs.SettleRequests.{decide_confirm, confirm_grant, end_own_lease}
use Rattle.qfs_model_meta.specs.SettleRequests.{end_live_lease, decide_abandon, abandon_changes}
use Rattle.qfs_model_meta.specs.SettleRequests.{give_up_own, is_own_grant}
use Rattle.qfs_model_meta.specs.Slots.{slots_of, slot_at}
use Rattle.qfs_model_meta.specs.Step.{stays, take_step, next_turn, carry_out, fail_disks, end_step}
use Rattle.qfs_model_meta.specs.Step.{serve_unless_dropped, meta_step}
use Rattle.qfs_model_meta.specs.SweepRequests.{decide_order, order_row, decide_swept}
use Rattle.qfs_model_meta.specs.TreeRequests.{decide_mkdir, decide_rmdir, decide_remove}
use Rattle.qfs_model_meta.specs.TreeRequests.{remove_changes, decide_rename, decide_list}
use Rattle.qfs_model_meta.specs.TreeRows.{file_stands, unclosed_files, row_at}
use Rattle.qfs_laws_tables.specs.Keys.{key-is}
use Rattle.qfs_laws_slots.specs.Losing.{losing-frame, stray-frame}
use Rattle.qfs_laws_tables.specs.Placed.{find-apart, find-placed}
use Rattle.std.proofs.Common.{arith, ◌<◌}
use Rattle.std.proofs.lemmas.Bool.{eq-eqb, ne_eqb}
use Rattle.qfs_laws_tables.specs.EachRow.{each_of_all}
use Rattle.std.specs.declared.cmp.Ordering.TheVariants.{Greater}

-- ---- what is told

-- of an actor, behind a step
pub record DroppedBehind (request : MetaRequest) (m n : MetaImage) (who : ℕ) : Type 0 where
  pub stays : (turn : ℕ) → dropped_at who m.dropped ≡ Some turn
      → dropped_at who n.dropped ≡ Some turn
  pub fresh : dropped_at who m.dropped ≡ None
      → (dropped_at who n.dropped ≡ None) ⊎ (request ≡ Ask.Drop who)

abbrev pub DroppedActorsStay : Type 0
DroppedActorsStay =
    (rules : Rules) (actor : ℕ) (request : MetaRequest) (outcome : Outcome) (m : MetaImage)
    (who : ℕ)
    → DroppedBehind request m (meta_step rules actor request outcome m).meta who

abbrev pub DroppedActorsAreTold : Type 0
DroppedActorsAreTold =
    (rules : Rules) (actor : ℕ) (request : MetaRequest) (outcome : Outcome) (m : MetaImage)
    (turn : ℕ)
    → dropped_at actor m.dropped ≡ Some turn → meta_step rules actor request outcome m ≡ stays m
    (Told.Dropped turn)

pub dropped-are-told : DroppedActorsAreTold
unfolding meta_step serve_unless_dropped
dropped-are-told rules actor request outcome m turn is =
    ap (serve_unless_dropped m (end_step m (decide rules actor m request) outcome)) is

-- ---- changes that drop nobody

abbrev DropsNone : Change → Type 0
DropsNone (DropActor actor) = ⊥
DropsNone change = ⊤

same-dropped : (m : MetaImage) (change : Change) → DropsNone change
    → (apply m change).dropped ≡ m.dropped
unfolding apply write_entry add_file with_slots grant_slot finish_lease bring_up
same-dropped m (DropActor actor) none = absurd none
same-dropped m (FailGrant block slot) none =
    ap (λ (n : MetaImage). n.dropped) (losing-frame m (FailGrant block slot) tt).is
same-dropped m (GiveUp block slot) none =
    ap (λ (n : MetaImage). n.dropped) (losing-frame m (GiveUp block slot) tt).is
same-dropped m (ConfirmSlot block slot) none =
    ap (λ (n : MetaImage). n.dropped) (losing-frame m (ConfirmSlot block slot) tt).is
same-dropped m (EmptySlot block slot) none =
    ap (λ (n : MetaImage). n.dropped) (losing-frame m (EmptySlot block slot) tt).is
same-dropped m (CondemnStray server life key) none =
    ap (λ (n : MetaImage). n.dropped) (stray-frame server life key m)
same-dropped m (AddDirectory path) none = refl
same-dropped m _ none = refl

same-all : (changes : List Change) (m : MetaImage) → Each DropsNone changes
    → (apply_all changes m).dropped ≡ m.dropped
unfolding apply_all
same-all [] m none = refl
same-all (change ∷ changes) m none =
    same-all changes (apply m change) none.1 ∙ same-dropped m change none.0

none-map : {X : Type 0} (f : X → Change) → ((x : X) → DropsNone (f x)) → (xs : List X)
    → Each DropsNone (map f xs)
none-map f none [] = tt
none-map f none (x ∷ xs) = (none x, none-map f none xs)

none-flat : {X : Type 0} (f : X → List Change) → ((x : X) → Each DropsNone (f x)) → (xs : List X)
    → Each DropsNone (flat_map f xs)
none-flat f none [] = tt
none-flat f none (x ∷ xs) =
    each_append DropsNone (f x) (flat_map f xs) (none x) (none-flat f none xs)

none-cond : (b : Bool) (change : Change) → DropsNone change
    → Each DropsNone (cond b (change ∷ []) [])
none-cond true change none = (none, tt)
none-cond false change none = tt

-- ---- decisions that drop nobody

abbrev Spares : Decision → Type 0
Spares (Tells reply) = ⊤
Spares (UsesDisks reply) = ⊤
Spares (Makes changes reply) = Each DropsNone changes

refuse-spares : (refusal : Option MetaReply) (further : Decision) → Spares further
    → Spares (refuse refusal further)
unfolding refuse
refuse-spares None further spares = spares
refuse-spares (Some reply) further spares = tt

unless-spares : (test : Bool) (reply : MetaReply) (further : Decision) → Spares further
    → Spares (unless test reply further)
unfolding unless
unless-spares true reply further spares = spares
unless-spares false reply further spares = tt

need-spares : {X : Type 0} (reply : MetaReply) (further : X → Decision) (found : Option X)
    → ((x : X) → Spares (further x)) → Spares (need reply further found)
unfolding need
need-spares reply further None spares = tt
need-spares reply further (Some x) spares = spares x

file-spares : (place : ℕ) (refusal : Option TreeRefusal) (further : Decision) → Spares further
    → Spares (refuse_file place refusal further)
unfolding refuse_file
file-spares place refusal further spares = refuse-spares _ further spares

path-spares : (refusal : Option TreeRefusal) (further : Decision) → Spares further
    → Spares (refuse_path refusal further)
unfolding refuse_path
path-spares refusal further spares = refuse-spares _ further spares

module _ (rules : Rules) (actor : ℕ) (m : MetaImage) where
  leased-spares : (block : BlockId) (slot : ℕ) (sources : NineCopies) (server : ℕ)
      → Spares (grant_leased rules.layout rules.term actor block slot sources m server)
  unfolding grant_leased lease_and_grant
  leased-spares block slot sources server = (tt, (tt, tt))

  chosen-spares : (block : BlockId) (slot : ℕ) (sources : NineCopies)
      → Spares (grant_chosen rules.layout rules.term actor block slot sources m)
  unfolding grant_chosen
  chosen-spares block slot sources =
      need-spares _ _ _ (λ server. leased-spares block slot sources server)

  failed-none : (block : BlockId) (slot : ℕ) (o : Option Grant) (rest : List Change)
      → Each DropsNone rest → Each DropsNone (failed_grant block slot o ++ rest)
  unfolding failed_grant
  failed-none block slot None rest none = none
  failed-none block slot (Some grant) rest none = (tt, none)

  aborting-none : (file : ℕ) → Each DropsNone (abort_changes file m.slots)
  unfolding abort_changes
  aborting-none file =
      each_append DropsNone (map (λ (row : SlotRow). GiveUp row.block row.slot)
      (slots_of file m.slots)) _ (none-map (λ (row : SlotRow). GiveUp row.block row.slot)
      (λ row. tt) (slots_of file m.slots)) (tt, tt)

  removing-none : (path : PathNames) (file : ℕ) → Each DropsNone (remove_changes path file m.slots)
  unfolding remove_changes
  removing-none path file =
      each_append DropsNone (map (λ (row : SlotRow). EmptySlot row.block row.slot)
      (slots_of file m.slots)) _ (none-map (λ (row : SlotRow). EmptySlot row.block row.slot)
      (λ row. tt) (slots_of file m.slots)) (tt, tt)

  putting-spares : (len : ℕ) (block : BlockId) (slot : ℕ) (o : Option Grant) (server : ℕ)
      → Spares (grant_for_put rules.layout actor len block slot m o server)
  unfolding grant_for_put
  putting-spares len block slot o server = failed-none block slot o _ (tt, tt)

  abandoning-none : (block : BlockId) (slot version lease : ℕ)
      → Each DropsNone (abandon_changes actor block slot version lease m)
  unfolding abandon_changes end_own_lease give_up_own
  abandoning-none block slot version lease =
      each_append DropsNone (cond (holds_lease actor lease m.leases) (EndLease lease ∷ []) []) _
      (none-cond (holds_lease actor lease m.leases) (EndLease lease) tt)
      (none-cond (is_own_grant actor version lease (slot_at m.slots block slot).grant)
      (GiveUp block slot) tt)

  confirming-spares : (block : BlockId) (slot version lease : ℕ) (b : Bool)
      → Spares (confirm_grant actor block slot version lease m b)
  unfolding confirm_grant end_own_lease end_live_lease
  confirming-spares block slot version lease false =
      none-cond (holds_lease actor lease m.leases) (EndLease lease) tt
  confirming-spares block slot version lease true =
      unless-spares _ _ _ (each_append DropsNone
      (cond (is_live_lease lease m.leases) (EndLease lease ∷ []) []) (ConfirmSlot block slot ∷ [])
      (none-cond (is_live_lease lease m.leases) (EndLease lease) tt) (tt, tt))

-- ---- every request but a drop

abbrev IsNoDrop : MetaRequest → Type 0
IsNoDrop (Ask.Drop actor) = ⊥
IsNoDrop request = ⊤

request-spares : (rules : Rules) (actor : ℕ) (m : MetaImage) (request : MetaRequest)
    → IsNoDrop request → Spares (decide_request rules actor m request)
unfolding decide_request decide_mkdir decide_rmdir decide_remove decide_rename decide_create
    decide_grant grant_in decide_close close_complete decide_abort abort_unclosed decide_open
    decide_release decide_recover grant_recovery decide_heal heal_slot decide_move move_copy
    decide_evacuate evacuate_slot decide_balance give_to_lightest even_out move_slot decide_confirm
    decide_abandon decide_order order_row decide_swept decide_hello decide_bye decide_leave
    decide_hibernate decide_tick decide_list decide_left_on
request-spares rules actor m (Ask.Mkdir path) is = file-spares _ _ _ (tt, tt)
request-spares rules actor m (Ask.Rmdir path) is = file-spares _ _ _ (tt, tt)
request-spares rules actor m (Ask.Remove path) is =
    file-spares _ _ _ (removing-none rules actor m path (row_at m.tree path).file)
request-spares rules actor m (Ask.Rename from to) is = file-spares _ _ _ (tt, tt)
request-spares rules actor m (Ask.Create path command len) is = file-spares _ _ _ (tt, tt)
request-spares rules actor m (Ask.Grant file index slot again) is =
    need-spares _ _ _ (λ row. unless-spares _ _ _
    (refuse-spares _ _ (need-spares _ _ _
    (λ server. putting-spares rules actor m row.len (record { file = file; index = index }) slot
    (slot_at m.slots (record { file = file; index = index }) slot).grant server))))
request-spares rules actor m (Ask.Close file) is =
    need-spares _ _ _ (λ row. refuse-spares _ _ (tt, tt))
request-spares rules actor m (Ask.Abort file) is =
    need-spares _ _ _ (λ row. aborting-none rules actor m file)
request-spares rules actor m (Ask.OpenFile path) is = file-spares _ _ _ (tt, tt)
request-spares rules actor m (Ask.Release lease) is = unless-spares _ _ _ (tt, tt)
request-spares rules actor m (Ask.RecoverAt path index slot) is =
    path-spares _ _ (unless-spares _ _ _
    (refuse-spares _ _ (unless-spares _ _ _ (chosen-spares rules actor m _ slot _))))
request-spares rules actor m (Ask.HealNext after) is =
    need-spares _ _ _ (λ id. chosen-spares rules actor m id.block id.slot _)
request-spares rules actor m (Ask.MoveAt path index slot to) is =
    path-spares _ _ (unless-spares _ _ _
    (need-spares _ _ _ (λ copy. refuse-spares _ _
    (unless-spares _ _ _ (unless-spares _ _ _ (leased-spares rules actor m _ slot _ to))))))
request-spares rules actor m (Ask.EvacNext server after) is =
    need-spares _ _ _ (λ row. chosen-spares rules actor m row.block row.slot _)
request-spares rules actor m Ask.BalanceNext is =
    need-spares _ _ _ (λ giver. need-spares _ _ _
    (λ taker. unless-spares _ _ _ (need-spares _ _ _
    (λ row. leased-spares rules actor m row.block row.slot _ taker.0))))
request-spares rules actor m (Ask.Confirm block slot version lease) is =
    confirming-spares rules actor m block slot version lease (file_stands block.file m.tree)
request-spares rules actor m (Ask.Abandon block slot version lease) is =
    abandoning-none rules actor m block slot version lease
request-spares rules actor m (Ask.OrderNext after) is = need-spares _ _ _ (λ row. (tt, tt))
request-spares rules actor m (Ask.Swept number) is = (tt, tt)
request-spares rules actor m (Ask.Hello server life keys) is =
    unless-spares _ _ _ (tt, none-map (CondemnStray server life) (λ key. tt) keys)
request-spares rules actor m (Ask.Bye server) is = (tt, tt)
request-spares rules actor m (Ask.Leave server) is = (tt, tt)
request-spares rules actor m (Ask.Hibernate server ticks) is = unless-spares _ _ _ (tt, tt)
request-spares rules actor m Ask.Tick is =
    (tt, none-map EndLease (λ lease. tt) (leases_over _ m.leases))
request-spares rules actor m (Ask.Drop dropped) is = absurd is
request-spares rules actor m (Ask.List path) is = file-spares _ _ _ tt
request-spares rules actor m (Ask.LeftOn server) is = tt
request-spares rules actor m Ask.Checkpoint is = tt
request-spares rules actor m Ask.Restart is = tt

-- ---- the step

behind-same : (request : MetaRequest) (m n : MetaImage) (who : ℕ) → n.dropped ≡ m.dropped
    → DroppedBehind request m n who
behind-same request m n who same = record {
  stays = λ turn is. ap (dropped_at who) same ∙ is;
  fresh = λ none. inl (ap (dropped_at who) same ∙ none);
}

-- the list of dropped actors behind a step is as before, or as the changes leave it
module _ (m : MetaImage) (P : List DroppedActor → Type 0) (before : P m.dropped) where
  Leaves : Decision → Type 0
  Leaves (Tells reply) = ⊤
  Leaves (UsesDisks reply) = ⊤
  Leaves (Makes changes reply) = P (apply_all changes m).dropped

  taken-leaves : (changes : List Change) (reply : MetaReply) → P (apply_all changes m).dropped
      → (fits : Bool) → P (take_step m (apply_all changes m) reply fits).meta.dropped
  unfolding take_step next_turn stays
  taken-leaves changes reply leaves true = leaves
  taken-leaves changes reply leaves false = before

  step-leaves : (decision : Decision) (outcome : Outcome) (dropped : Option ℕ) → Leaves decision
      → P (serve_unless_dropped m (end_step m decision outcome) dropped).meta.dropped
  unfolding serve_unless_dropped end_step carry_out fail_disks stays Leaves
  step-leaves decision outcome (Some turn) leaves = before
  step-leaves decision Ended.NoMemory None leaves = before
  step-leaves (Tells reply) Ended.Done None leaves = before
  step-leaves (UsesDisks reply) Ended.Done None leaves = before
  step-leaves (Makes changes reply) Ended.Done None leaves =
      taken-leaves changes reply leaves (counters_fit (apply_all changes m))
  step-leaves (Tells reply) Ended.Failed None leaves = before
  step-leaves (UsesDisks reply) Ended.Failed None leaves = before
  step-leaves (Makes changes reply) Ended.Failed None leaves = before

of-spares : (m : MetaImage) (decision : Decision) → Spares decision
    → Leaves m (λ ds. ds ≡ m.dropped) refl decision
unfolding Leaves
of-spares m (Tells reply) spares = tt
of-spares m (UsesDisks reply) spares = tt
of-spares m (Makes changes reply) spares = same-all changes m spares

others-stay : (rules : Rules) (actor : ℕ) (request : MetaRequest) (outcome : Outcome)
    (m : MetaImage) (who : ℕ)
    → IsNoDrop request → DroppedBehind request m (meta_step rules actor request outcome m).meta who
unfolding meta_step decide
others-stay rules actor request outcome m who is =
    behind-same request m (meta_step rules actor request outcome m).meta who
    (step-leaves m (λ ds. ds ≡ m.dropped) refl
    (unless (in_range (length m.servers) request) Told.Nothing
    (decide_request rules actor m request)) outcome (dropped_at actor m.dropped)
    (of-spares m _ (unless-spares (in_range (length m.servers) request) Told.Nothing _
    (request-spares rules actor m request is))))

-- ---- an actor is dropped

-- what holds of an actor where this one is dropped
abbrev Behind : ℕ → ℕ → List DroppedActor → List DroppedActor → Type 0
Behind dropped who before after =
    ((turn : ℕ) → dropped_at who before ≡ Some turn → dropped_at who after ≡ Some turn)
    × (dropped_at who before ≡ None → (dropped_at who after ≡ None) ⊎ (dropped ≡ who))

some-none : {turn : ℕ} → Some turn ≡ None → ⊥
some-none e = cc

added-behind : (dropped turn who : ℕ) (ds : List DroppedActor) → dropped_at dropped ds ≡ None
    → Behind dropped who ds (add_dropped dropped turn ds)
unfolding add_dropped
added-behind dropped turn who ds none =
    (elim (dropped == who) as (λ b. (dropped == who) ≡ b → Behind dropped who ds
    (place dropped_cmp (record { actor = dropped; turn = turn }) ds)) [
      | true ↦ λ same.
          let e : dropped ≡ who = eqb-true dropped who same in (
            (λ t is. absurd (some-none (sym is ∙ ap (λ k. dropped_at k ds) (sym e) ∙ none))),
            (λ _. inr e),
          )
      | false ↦ λ differs. let f = elsewhere differs in ((λ t is. f ∙ is), (λ is. inl (f ∙ is)))
    ]) refl
  where
    elsewhere : (dropped == who) ≡ false
        → dropped_at who (place dropped_cmp (record { actor = dropped; turn = turn })
        ds) ≡ dropped_at who ds
    elsewhere differs = unfold dropped_at dropped_cmp in
        ap (option_map (λ (d : DroppedActor). d.turn))
        (find-apart dropped_cmp (has_key (dropped_order who))
        (record { actor = dropped; turn = turn }) ds (key-is who dropped ∙ differs)
        (λ row tie. key-is who row.actor ∙ ap (λ k. k == who)
        (sym (ranked dropped row.actor Equal (sym tie))) ∙ differs))

-- the list of dropped actors behind the changes of a drop
drop-list : (dropped : ℕ) (m : MetaImage)
    → (apply_all (changes_unless_dropped dropped m None) m).dropped
    ≡ add_dropped dropped m.turn m.dropped
unfolding changes_unless_dropped drop_changes recovery_changes unclosed_changes apply_all apply
drop-list dropped m =
    let n : MetaImage = record m { dropped = add_dropped dropped m.turn m.dropped } in
    let rest : List Change = map EndLease (leases_of dropped m.leases) ++ map
    (λ (row : SlotRow). GiveUp row.block row.slot)
    (filter (is_recovery_of dropped m.tree) m.slots)
    ++ flat_map (λ file. abort_changes file m.slots) (unclosed_files dropped m.tree) in
    let none : Each DropsNone rest =
    each_append DropsNone (map EndLease (leases_of dropped m.leases) ++ map
    (λ (row : SlotRow). GiveUp row.block row.slot) (filter (is_recovery_of dropped m.tree) m.slots))
    (flat_map (λ file. abort_changes file m.slots) (unclosed_files dropped m.tree))
    (each_append DropsNone (map EndLease (leases_of dropped m.leases)) _
    (none-map EndLease (λ lease. tt) (leases_of dropped m.leases))
    (none-map (λ (row : SlotRow). GiveUp row.block row.slot) (λ row. tt)
    (filter (is_recovery_of dropped m.tree) m.slots)))
    (none-flat (λ file. abort_changes file m.slots) (λ file. aborting file)
    (unclosed_files dropped m.tree)) in
    same-all rest n none
  where
    aborting : (file : ℕ) → Each DropsNone (abort_changes file m.slots)
    aborting file =
        unfold abort_changes in each_append DropsNone
        (map (λ (row : SlotRow). GiveUp row.block row.slot) (slots_of file m.slots)) _
        (none-map (λ (row : SlotRow). GiveUp row.block row.slot) (λ row. tt)
        (slots_of file m.slots)) (tt, tt)

-- who is dropped counts as dropped from then on
added-counts : (who turn : ℕ) (ds : List DroppedActor)
    → dropped_at who (add_dropped who turn ds) ≡ Some turn
unfolding add_dropped dropped_at dropped_cmp
added-counts who turn ds =
    ap (option_map (λ (d : DroppedActor). d.turn))
    (find-placed dropped_cmp (has_key (dropped_order who)) (record { actor = who; turn = turn }) ds
    (key-is who who ∙ eq-eqb who who refl)
    (each_of_all (λ (row : DroppedActor). dropped_cmp (record { actor = who; turn = turn }) row
    ≡ Greater → has_key (dropped_order who) row ≡ false)
    (λ row after. key-is who row.actor ∙ apart row.actor (ranked who row.actor Greater
    (sym after))) ds))
  where
    apart : (a : ℕ) → a < who → (a == who) ≡ false
    apart a low = ne_eqb a who (λ e. omega arith)

pub drop-counts : (who : ℕ) (m : MetaImage)
    → dropped_at who (apply_all (changes_unless_dropped who m (dropped_at who m.dropped))
    m).dropped ≡ None → ⊥
drop-counts who m none = one (dropped_at who m.dropped) refl none
  where
    no-none : {turn : ℕ} → Some turn ≡ None → ⊥
    no-none e = cc

    one : (o : Option ℕ) → dropped_at who m.dropped ≡ o
        → dropped_at who (apply_all (changes_unless_dropped who m o) m).dropped ≡ None → ⊥
    one (Some turn) is none = no-none (sym is ∙ (unfold changes_unless_dropped apply_all in none))
    one None is none = no-none (sym (added-counts who m.turn m.dropped)
        ∙ ap (dropped_at who) (sym (drop-list who m)) ∙ none)

dropping-leaves : (dropped who : ℕ) (m : MetaImage) (reply : MetaReply) (o : Option ℕ)
    → dropped_at dropped m.dropped ≡ o
    → Behind dropped who m.dropped (apply_all (changes_unless_dropped dropped m o) m).dropped
unfolding changes_unless_dropped drop_changes recovery_changes unclosed_changes apply_all apply
dropping-leaves dropped who m reply (Some turn) is = ((λ t at. at), (λ at. inl at))
dropping-leaves dropped who m reply None is =
    subst (Behind dropped who m.dropped) (sym (drop-list dropped m))
    (added-behind dropped m.turn who m.dropped is)

drop-stays : (rules : Rules) (actor dropped : ℕ) (outcome : Outcome) (m : MetaImage) (who : ℕ)
    → DroppedBehind (Ask.Drop dropped) m (meta_step rules actor (Ask.Drop dropped) outcome m).meta
    who
unfolding meta_step decide in_range unless decide_request decide_drop Leaves
drop-stays rules actor dropped outcome m who =
    let b : Behind dropped who m.dropped
    (meta_step rules actor (Ask.Drop dropped) outcome m).meta.dropped =
    step-leaves m (Behind dropped who m.dropped) ((λ t at. at), (λ at. inl at))
    (Makes (changes_unless_dropped dropped m (dropped_at dropped m.dropped))
    (Told.Done (length m.history))) outcome (dropped_at actor m.dropped)
    (dropping-leaves dropped who m (Told.Done (length m.history)) (dropped_at dropped m.dropped)
    refl) in
    record {
      stays = b.0;
      fresh = λ none. ⊎_elim (λ same. inl same) (λ e. inr (ap Ask.Drop e))
          (b.1 none);
    }

which : (request : MetaRequest) → IsNoDrop request ⊎ ((dropped : ℕ) × (request ≡ Ask.Drop dropped))
which (Ask.Drop dropped) = inr (dropped, refl)
which (Ask.Mkdir path) = inl tt
which _ = inl tt

pub dropped-stay : DroppedActorsStay
dropped-stay rules actor request outcome m who =
    ⊎_elim (λ is. others-stay rules actor request outcome m who is)
    (λ drop. subst (λ r. DroppedBehind r m (meta_step rules actor r outcome m).meta who)
    (sym drop.1) (drop-stays rules actor drop.0 outcome m who))
    (which request)
