-- The laws of the first path, from how its world stands after each step. The law
-- `first_path_keeps_its_promises`.
use Rattle.std.proofs.Common.{◌≡◌, ℕ, zero, suc, ◌+◌, ◌<◌, ◌≤◌, true, List, [], ◌∷◌, ◌++◌, length}
use Rattle.std.proofs.Common.{replicate, Option, Some, None, refl, sym, ap, subst, ◌∙◌, arith, inl}
use Rattle.std.proofs.Common.{inr, append_assoc}
use Rattle.std.proofs.lemmas.Bool.{eqb-true, and_parts}
use Rattle.std.proofs.lemmas.List.{append-nil}
use Rattle.std.proofs.lemmas.Option.{slice_get_within}
use Rattle.std.specs.Prelude.{slice_get, fold, flat_map}
use Rattle.std.specs.Option.{option_and_then}
use Rattle.std.specs.List.{enumerate_from, cons_option}
use Rattle.qfs_base.specs.FileReplies.{reply_at}
use Rattle.qfs_base.specs.KeyMap.{value_at}
use Rattle.qfs_base.specs.Key.{key_cmp}
use Rattle.qfs_base.specs.NameTree.{PathNames}
use Rattle.qfs_base.specs.Rules.{rules_of}
use Rattle.qfs_base.specs.Table.{Each}
use Rattle.qfs_base.specs.declared.chunk.ChunkKey.{ChunkKey}
use Rattle.qfs_base.specs.declared.command.Command.{Command}
use Rattle.qfs_base.specs.declared.command.Command.TheVariants as Does
use Rattle.qfs_base.specs.declared.command.FileCommand.{FileCommand}
use Rattle.qfs_base.specs.declared.command.FileCommand.TheVariants as File
use Rattle.qfs_base.specs.declared.command.Range.{Range}
use Rattle.qfs_base.specs.declared.command.Reply.TheVariants as Says
use Rattle.qfs_base.specs.declared.history.FileReply.TheVariants as Told
use Rattle.qfs_base.specs.declared.history.Step.{Step}
use Rattle.qfs_base.specs.declared.recipe.Form.TheVariants as Of
use Rattle.qfs_base.specs.declared.reply.Opened.{Opened}
use Rattle.qfs_base.specs.declared.script.Script.{Script}
use Rattle.qfs_model_actor.specs.Actor.{Actor, starting, present_command}
use Rattle.qfs_model_actor.specs.Work.{Report}
use Rattle.qfs_model_meta.specs.Step.{opening}
use Rattle.qfs_model_server.specs.Server.{Server, fresh_server}
use Rattle.qfs_model_world.specs.Agrees.{Agrees, AgreesFile}
use Rattle.qfs_model_world.specs.Deletion.{NoDeletion}
use Rattle.qfs_model_world.specs.Events.{Event, event_in, events_from, events, is_step_of}
use Rattle.qfs_model_world.specs.Events.{place_before}
use Rattle.qfs_model_world.specs.EveryGet.{ReadsRight, EveryGet}
use Rattle.qfs_model_world.specs.FileHistory.{IsHistoryOf}
use Rattle.qfs_model_world.specs.Openings.{OpensAt}
use Rattle.qfs_model_world.specs.Puts.{command_of, puts_of}
use Rattle.qfs_model_world.specs.Reports.{report_of, EachReport, IsPlaced, OneFileHistory}
use Rattle.qfs_model_world.specs.World.{World, numbered_actors, start, numbered, move, after}
use Rattle.qfs_model_world.proofs.OneActor.{done_step}
use Rattle.qfs_laws_first.specs.FirstPath.{IsPutOrGet, IsFirst, IsFirstPath, AllDone}
use Rattle.qfs_laws_first.specs.Replies.{IsPlainReply, PlainReplies}
use Rattle.qfs_laws_first.proofs.Deletes.{deletes_nothing}
use Rattle.qfs_laws_first.proofs.GetRuns.{get-starts, get-goes}
use Rattle.qfs_laws_first.proofs.Histories.{history-legal, written-none}
use Rattle.qfs_laws_first.proofs.Moves.{request-none}
use Rattle.qfs_laws_first.proofs.PutRuns.{command-at, put-starts, put-stores-on, put-goes}
use Rattle.qfs_laws_first.proofs.Reports.{IsBorneOut, IsGood, IsReadBy, opened_in, ReadsWhereOpened}
use Rattle.qfs_laws_first.proofs.Reports.{numbered-more}
use Rattle.qfs_laws_first.proofs.Rows.{each_at}
use Rattle.qfs_laws_first.proofs.Runs.{Resting, Run, Next, no-step}
use Rattle.qfs_laws_first.proofs.Servers.{IsUp, stored_at}
use Rattle.qfs_laws_first.proofs.States.{Between}
use Rattle.qfs_base.specs.EachLaws.{each_weaker}

-- ---- one step

module _ (script : Script) (commands : List Command) (steps : List Event) (w : World)
    (first_path : IsFirstPath script commands) (r : Run script commands steps w) where
  -- the actor is at its next command, if there is one
  starts : (command : Command) → IsFirst command → present_command r.actor ≡ Some command
      → r.told ≡ r.actor.ended → Resting script w.servers w.meta r.actor
      → command_of script 1 (length r.actor.ended + 1) ≡ Some command → length r.actor.ended ≤ 4096
      → Next script commands steps w
  starts (Does.File (File.Put path (Of.Hex bytes))) is present told_is rest at few =
      put-starts script commands steps w first_path r path bytes told_is rest.silent rest.between
      present at few is.0 is.1
  starts (Does.File (File.Get path range)) is present told_is rest at few =
      get-starts script commands steps w first_path r path told_is rest.silent rest.between
      (rw is at present) (rw is at at) few
  starts command is present told_is rest at few = absurd is

  rests : r.told ≡ r.actor.ended → Resting script w.servers w.meta r.actor
      → Next script commands steps w
  rests told_is rest = at (present_command r.actor) refl
    where
      at : (found : Option Command) → present_command r.actor ≡ found → Next script commands steps w
      at None none = no-step script commands steps w r.actor r.alone (request-none r.actor none)
      at (Some command) present =
          let here : slice_get commands (length r.actor.ended) ≡ Some command =
          ap (λ commands. slice_get commands (length r.actor.ended)) (sym r.own_commands)
          ∙ present in
          starts command (each_at IsFirst commands (length r.actor.ended) command first_path.each
          here) present told_is rest
          (command-at script commands (length r.actor.ended) command first_path.alone here)
          (omega (
            arith,
            slice_get_within commands (length r.actor.ended) command here,
            first_path.few,
          ))

  -- each step leads on
  pub next : Next script commands steps w
  next =
      elim r.stage [
        | inl idle ↦ elim idle.1 [
          | inl rest ↦ rests idle.0 rest
          | inr busy ↦ elim busy [
            | inl granting ↦ put-goes script commands steps w first_path r idle.0 granting
            | inr storing ↦ put-stores-on script commands steps w first_path r idle.0 storing
          ]
        ]
        | inr fetching ↦ get-goes script commands steps w first_path r fetching
      ]

-- ---- all steps

runs : (script : Script) (commands : List Command) (first_path : IsFirstPath script commands)
    (order : List Step) (steps : List Event) (w : World)
    → AllDone order → Run script commands steps w
    → Run script commands (steps ++ events_from w order) (fold move w order)
unfolding events_from
runs script commands first_path [] steps w done r =
    subst (λ steps. Run script commands steps w) (sym (append-nil steps)) r
runs script commands first_path (step ∷ order) steps w done r =
    subst (λ step. Run script commands
    (steps ++ cons_option (event_in w step) (events_from (move w step) order))
    (fold move (move w step) order)) (sym done.0)
    (elim (next script commands steps w first_path r) [
      | inl none ↦
          subst (λ found. Run script commands
          (steps ++ cons_option found (events_from (move w done_step) order))
          (fold move (move w done_step) order)) (sym none.0)
          (subst (λ (v : World). Run script commands (steps ++ events_from v order)
          (fold move v order)) (sym none.1)
          (runs script commands first_path order steps w done.1 r))
      | inr some ↦
          subst (λ found. Run script commands
          (steps ++ cons_option found (events_from (move w done_step) order))
          (fold move (move w done_step) order)) (sym some.1)
          (subst (λ all. Run script commands all (fold move (move w done_step) order))
          (append_assoc steps (some.0 ∷ []) (events_from (move w done_step) order))
          (runs script commands first_path order (steps ++ some.0 ∷ []) (move w done_step) done.1
          some.2))
    ])

-- ---- the start

fresh-at : (n k : ℕ) → k < n → slice_get (replicate n fresh_server) k ≡ Some fresh_server
fresh-at zero k below = absurd (omega arith)
fresh-at (suc n) zero below = refl
fresh-at (suc n) (suc k) below = fresh-at n k (omega arith)

fresh-numbered : (n number : ℕ) → 1 ≤ number → number ≤ n → IsUp (replicate n fresh_server) number
unfolding numbered
fresh-numbered n zero first last = absurd (omega arith)
fresh-numbered n (suc k) first last =
    record {
      server = fresh_server;
      there = fresh-at n k (omega arith);
      up = refl;
      life = refl;
      form = refl;
    }

fresh-empty : (n k : ℕ) (key : ChunkKey)
    → option_and_then (λ (s : Server). value_at key_cmp s.copies key)
    (slice_get (replicate n fresh_server) k) ≡ None
fresh-empty zero k key = refl
fresh-empty (suc n) zero key = refl
fresh-empty (suc n) (suc k) key = fresh-empty n k key

none-stored : (n number : ℕ) (key : ChunkKey)
    → stored_at (replicate n fresh_server) number key ≡ None
unfolding numbered
none-stored n zero key = refl
none-stored n (suc k) key = fresh-empty n k key

between-none : (script : Script)
    → Between script (replicate script.servers fresh_server) (opening script.servers) 0
unfolding opening
between-none script = record {
  as_first = refl;
  none_dropped = refl;
  up = fresh-numbered script.servers;
  few = record {
    files = omega arith;
    leases = omega arith;
    condemned = omega arith;
    entries =
        omega arith;
  };
  written = written-none script;
  rows = tt;
  slots_below = tt;
  none_to_come = λ server key above. none-stored script.servers server key;
}

pub run-none : (script : Script) (commands : List Command) → IsFirstPath script commands
    → Run script commands [] (start script)
unfolding start numbered_actors starting opening
run-none script commands first_path = record {
  actor = starting (rules_of script) 1 commands;
  rules = refl;
  alone = rw first_path.alone refl;
  number = refl;
  own_rules = refl;
  own_commands = refl;
  replies = tt;
  told = [];
  openings = tt;
  stage = inl (refl, inl (record { silent = refl; between = between-none script }));
}

run-after : (script : Script) (commands : List Command) (order : List Step)
    → IsFirstPath script commands → AllDone order
    → Run script commands (events script order) (after script order)
unfolding events after
run-after script commands order first_path done =
    runs script commands first_path order [] (start script) done
    (run-none script commands first_path)

-- ---- what follows

module _ (script : Script) (commands : List Command) (steps : List Event) (w : World)
    (r : Run script commands steps w) where
  legal-of : IsHistoryOf script w.meta.history
  legal-of =
      elim r.stage [
        | inl idle ↦ elim idle.1 [
          | inl rest ↦ history-legal script _ _ _ _ rest.between.written
          | inr busy ↦ elim busy [
            | inl granting ↦ history-legal script _ _ _ _ granting.puts.steady.written
            | inr storing ↦ history-legal script _ _ _ _ storing.puts.steady.written
          ]
        ]
        | inr fetching ↦ history-legal script _ _ _ _ fetching.reads.written
      ]

  borne-agrees : (number : ℕ) (command : FileCommand) (report : Report)
      → IsBorneOut script w.meta.history number command report
      → AgreesFile script steps w.meta.history 1 number command report
  borne-agrees number command (Says.Stored place len) h = h.1
  borne-agrees number command (Says.Read place bytes) h = h.1
  borne-agrees number command (Says.Refused place refusal) h = h.1
  borne-agrees number command report h = absurd h

  good-agrees : (number : ℕ) (report : Report) → IsGood script steps w.meta.history number report
      → Agrees script steps w.meta.history 1 number report (command_of script 1 number)
  good-agrees number report g =
      subst (Agrees script steps w.meta.history 1 number report) (sym g.is)
      (borne-agrees number g.command report g.says)

  -- what holds of each reply
  each-reply : (P : ℕ → ℕ → Report → Type 0)
      → ((number : ℕ) (report : Report) → IsGood script steps w.meta.history number report
      → P 1 number report) → EachReport w P
  each-reply P holds =
      let of_actor : Each (λ (reply : ℕ × Report). P 1 reply.0 reply.1)
      (enumerate_from 1 r.actor.ended) =
      each_weaker (λ (reply : ℕ × Report). IsGood script steps w.meta.history reply.0 reply.1) _
      (λ reply good. holds reply.0 reply.1 good) (enumerate_from 1 r.actor.ended) r.replies in
      subst (λ actors. Each
      (λ (actor : Actor). Each (λ (reply : ℕ × Report). P actor.number reply.0 reply.1)
      (enumerate_from 1 actor.ended)) actors) (sym r.alone) (
        subst (λ n. Each (λ (reply : ℕ × Report). P n reply.0 reply.1)
            (enumerate_from 1 r.actor.ended)) (sym r.number) of_actor,
        tt,
      )

  plain-of : (number : ℕ) (command : FileCommand) (report : Report)
      → IsBorneOut script w.meta.history number command report → IsPlainReply report
  plain-of number command (Says.Stored place len) h = tt
  plain-of number command (Says.Read place bytes) h = tt
  plain-of number command (Says.Refused place refusal) h = tt
  plain-of number command report h = absurd h

pub one-file-history : (script : Script) (commands : List Command) (order : List Step)
    → IsFirstPath script commands → AllDone order → OneFileHistory script order
one-file-history script commands order first_path done =
    let r = run-after script commands order first_path done in
    record {
      legal = legal-of script commands (events script order) (after script order) r;
      agrees = each-reply script commands (events script order) (after script order) r
          (λ actor number report. Agrees script (events script order)
          (after script order).meta.history actor number report (command_of script actor number))
          (good-agrees script commands (events script order) (after script order) r);
      placed = each-reply script commands (events script order) (after script order) r
          (IsPlaced (events script order)) (λ number report good. good.placed);
    }

pub plain-replies : (script : Script) (commands : List Command) (order : List Step)
    → IsFirstPath script commands → AllDone order → PlainReplies script order
plain-replies script commands order first_path done =
    let r = run-after script commands order first_path done in
    each-reply script commands (events script order) (after script order) r
    (λ actor number report. IsPlainReply report)
    (λ number report good. plain-of script commands (events script order) (after script order) r
    number good.command report good.says)

-- ---- every get

reply-at-number : {X : Type 0} (P : ℕ × X → Type 0) (from : ℕ) (xs : List X) (k : ℕ) (x : X)
    → Each P (enumerate_from from xs) → slice_get xs k ≡ Some x → P (k + from, x)
reply-at-number P from [] k x each found = absurd (cc)
reply-at-number P from (y ∷ ys) zero x each found =
    let same : y ≡ x = cc in
    let e : from ≡ 0 + from = omega arith in
    subst (λ n. P (n, x)) e (subst (λ y. P (from, y)) same each.0)
reply-at-number P from (y ∷ ys) (suc k) x each found =
    let e : k + (from + 1) ≡ suc k + from = omega arith in
    subst (λ n. P (n, x)) e (reply-at-number P (from + 1) ys k x each.1 found)

reply-numbered : {X : Type 0} (P : ℕ × X → Type 0) (xs : List X) (number : ℕ) (x : X)
    → Each P (enumerate_from 1 xs) → numbered xs number ≡ Some x → P (number, x)
unfolding numbered
reply-numbered P xs zero x each found = absurd (cc)
reply-numbered P xs (suc k) x each found =
    let e : k + 1 ≡ suc k = omega arith in
    subst (λ n. P (n, x)) e (reply-at-number P 1 xs k x each found)

own-step-of : (actor number : ℕ) (event : Event) → is_step_of actor number event ≡ true
    → (event.actor ≡ actor) × (event.command ≡ number)
unfolding is_step_of
own-step-of actor number event is =
    let parts = and_parts _ _ is in
    (eqb-true event.actor actor parts.0, eqb-true event.command number parts.1)

module _ (script : Script) (commands : List Command) (order : List Step)
    (r : Run script commands (events script order) (after script order)) where
  report-found : (number : ℕ) (report : Report)
      → report_of (after script order) 1 number ≡ Some report
      → numbered r.actor.ended number ≡ Some report
  unfolding report_of numbered
  report-found number report found =
      sym (ap (λ actors. option_and_then (λ (a : Actor). numbered a.ended number)
      (slice_get actors 0)) r.alone) ∙ found

  was-told : (number : ℕ) (report : Report) → numbered r.actor.ended number ≡ Some report
      → numbered r.told number ≡ Some report
  was-told number report found =
      elim r.stage [
        | inl idle ↦ subst (λ told. numbered told number ≡ Some report) (sym idle.0) found
        | inr fetching ↦ subst (λ told. numbered told number ≡ Some report) (sym fetching.told_is)
            (numbered-more r.actor.ended _ number report found)
      ]

  get-right : (number place : ℕ) (bytes : List ℕ) (path : PathNames) (range : Option Range)
      → command_of script 1 number ≡ Some (Does.File (File.Get path range))
      → IsGood script (events script order) (after script order).meta.history number
      (Says.Read place bytes)
      → reply_at (puts_of script) (after script order).meta.history place (File.Get path range)
      ≡ Told.Read bytes
  get-right number place bytes path range at good =
      let both : Some (Does.File good.command) ≡ Some (Does.File (File.Get path range)) =
      sym good.is ∙ at in
      let same : good.command ≡ File.Get path range = cc in
      subst (λ command. reply_at (puts_of script) (after script order).meta.history place command
      ≡ Told.Read bytes) same good.says.1

  reads-right : (number i : ℕ) (o : Opened) (path : PathNames) (range : Option Range)
      (report : Report) (event : Event)
      → command_of script 1 number ≡ Some (Does.File (File.Get path range))
      → numbered r.actor.ended number ≡ Some report
      → slice_get (events script order) i ≡ Some event → event.command ≡ number
      → IsReadBy r.told event o
      → ReadsRight script order i o path range report
  reads-right number i o path range report event at found here own read =
      let told : Some report ≡ Some (Says.Read o.place read.bytes) =
      sym (was-told number report found) ∙ ap (numbered r.told) (sym own) ∙ read.reply in
      let same : report ≡ Says.Read o.place read.bytes = cc in
      record {
        bytes = read.bytes;
        reply = same;
        right = get-right number o.place read.bytes path range at
            (reply-numbered (λ (reply : ℕ × Report). IsGood script (events script order)
            (after script order).meta.history reply.0 reply.1) r.actor.ended number _ r.replies
            (found ∙ ap Some same));
        place = λ other is.
            let both : Some event ≡ Some other = sym here ∙ is in
            let equal : event ≡ other = cc in
            read.place ∙ ap place_before equal;
      }

  get-of : (actor number i : ℕ) (o : Opened) (path : PathNames) (range : Option Range)
      (report : Report) → command_of script actor number ≡ Some (Does.File (File.Get path range))
      → report_of (after script order) actor number ≡ Some report
      → OpensAt (events script order) actor number i o
      → ReadsRight script order i o path range report
  get-of actor number i o path range report at reported opens =
      let own = own-step-of actor number opens.event opens.own in
      let read : IsReadBy r.told opens.event o =
      each_at (ReadsWhereOpened r.told) (events script order) i opens.event r.openings opens.at o
      (ap opened_in opens.opened) in
      let one : actor ≡ 1 = sym own.0 ∙ read.by in
      reads-right number i o path range report opens.event (rw one at at)
      (report-found number report (rw one at reported)) opens.at own.1 read

pub every-get : (script : Script) (commands : List Command) (order : List Step)
    → IsFirstPath script commands → AllDone order → EveryGet script order
every-get script commands order first_path done actor number i j o path range report at reported
    opening last well =
    get-of script commands order (run-after script commands order first_path done) actor number i o
    path range report at reported opening.opens

-- ---- no deletion

is-put-or-get : (command : Command) → IsFirst command → IsPutOrGet command
is-put-or-get (Does.File (File.Put path recipe)) is = tt
is-put-or-get (Does.File (File.Get path range)) is = tt
is-put-or-get command is = absurd is

pub no-deletion : (script : Script) (commands : List Command) (order : List Step)
    → IsFirstPath script commands → NoDeletion script order
no-deletion script commands order first_path =
    deletes_nothing script order
    (subst (λ phases. Each (Each IsPutOrGet) (flat_map (λ phase. phase) phases))
    (sym first_path.alone)
    (each_weaker IsFirst IsPutOrGet is-put-or-get commands first_path.each, tt))
