-- The replies of an actor so far: what each of them says of the history, that it was placed in a
-- step of its command, and that each file that was opened is read. For the law of the first path.
use Rattle.std.proofs.Common.{◌≡◌, ℕ, zero, suc, ◌+◌, ◌≤◌, ◌==◌, Bool, true, List, [], ◌∷◌, ◌++◌}
use Rattle.std.proofs.Common.{length, filter, Option, Some, None, refl, sym, ap, subst, ◌∙◌, arith}
use Rattle.std.proofs.Common.{add-one}
use Rattle.std.proofs.lemmas.List.{length-append}
use Rattle.std.proofs.lemmas.List.Elements.{filter-append}
use Rattle.std.proofs.lemmas.List.Folds.{list_any-append}
use Rattle.std.specs.Prelude.{IsTrue, IfSome}
use Rattle.std.specs.List.{list_any, enumerate_from}
use Rattle.std.proofs.lemmas.Bool.{or_left, or_right, eq-eqb}
use Rattle.qfs_base.specs.EachLaws.{each_append, each_weaker}
use Rattle.qfs_base.specs.FileReplies.{reply_at}
use Rattle.qfs_base.specs.ListLaws.{slice_get-more, slice_get-last}
use Rattle.qfs_base.specs.Table.{Each}
use Rattle.qfs_base.specs.declared.command.Command.TheVariants as Does
use Rattle.qfs_base.specs.declared.command.FileCommand.{FileCommand}
use Rattle.qfs_base.specs.declared.command.Reply.TheVariants as Says
use Rattle.qfs_base.specs.declared.history.Entry.{Entry}
use Rattle.qfs_base.specs.declared.history.FileReply.TheVariants as Told
use Rattle.qfs_base.specs.declared.reply.MetaReply.TheVariants as Said
use Rattle.qfs_base.specs.declared.reply.NodeReply.{NodeReply}
use Rattle.qfs_base.specs.declared.reply.NodeReply.TheVariants as From
use Rattle.qfs_base.specs.declared.reply.Opened.{Opened}
use Rattle.qfs_base.specs.declared.request.NodeRequest.{NodeRequest}
use Rattle.qfs_base.specs.declared.script.Script.{Script}
use Rattle.qfs_model_actor.specs.Actor.{Actor}
use Rattle.qfs_model_actor.specs.Work.{Report}
use Rattle.qfs_model_world.specs.Agrees.{AgreesStored, place_of_report}
use Rattle.qfs_model_world.specs.Events.{Event, event_asking, place_before, is_step_of, steps_of}
use Rattle.qfs_model_world.specs.Puts.{command_of, puts_of}
use Rattle.qfs_model_world.specs.World.{World, numbered}
use Rattle.qfs_model_world.proofs.OneActor.{done_step}
use Rattle.qfs_laws_first.proofs.Histories.{reply_at-more}

-- ---- replies

-- a reply of the first path: stored, read or refused, and borne out by the history
abbrev pub IsBorneOut : Script → List Entry → ℕ → FileCommand → Report → Type 0
IsBorneOut script history number command (Says.Stored place len) =
    (place ≤ length history) × AgreesStored script history place 1 number len
IsBorneOut script history number command (Says.Read place bytes) =
    (place ≤ length history) × (reply_at (puts_of script) history place command ≡ Told.Read bytes)
IsBorneOut script history number command (Says.Refused place refusal) =
    (place ≤ length history)
    × (reply_at (puts_of script) history place command ≡ Told.Refused refusal)
IsBorneOut script history number command report = ⊥

-- a step of a command took place at this length of the history
abbrev pub HasPlace : List Event → ℕ → ℕ → Type 0
HasPlace steps number place =
    IsTrue (list_any (λ (event : Event). place_before event == place) (steps_of 1 number steps))

pub record IsGood (script : Script) (steps : List Event) (history : List Entry) (number : ℕ)
    (report : Report) : Type 0 where
  pub command : FileCommand
  pub is : command_of script 1 number ≡ Some (Does.File command)
  pub says : IsBorneOut script history number command report
  pub placed : IfSome (place_of_report report) (HasPlace steps number)

-- ---- more history, and more steps

pub borne-more : (script : Script) (history more : List Entry) (number : ℕ) (command : FileCommand)
    (report : Report) → IsBorneOut script history number command report
    → IsBorneOut script (history ++ more) number command report
borne-more script history more number command (Says.Stored place len) h = (
  omega (arith, h.0, length-append history more),
  record {
    file = h.1.file;
    written = slice_get-more history more place _ h.1.written;
    length_is =
        h.1.length_is;
  },
)
borne-more script history more number command (Says.Read place bytes) h = (
  omega (arith, h.0, length-append history more),
  reply_at-more (puts_of script) history more place command h.0 ∙ h.1,
)
borne-more script history more number command (Says.Refused place refusal) h = (
  omega (arith, h.0, length-append history more),
  reply_at-more (puts_of script) history more place command h.0 ∙ h.1,
)
borne-more script history more number command report h = absurd h

pub place-more : (steps more : List Event) (number place : ℕ) → HasPlace steps number place
    → HasPlace (steps ++ more) number place
unfolding steps_of
place-more steps more number place has =
    let at : Event → Bool = λ event. place_before event == place in
    ap (list_any at) (filter-append (is_step_of 1 number) steps more)
    ∙ list_any-append at (filter (is_step_of 1 number) steps) (filter (is_step_of 1 number) more)
    ∙ or_left _ _ has

-- the last step is one of the command, and took place there
place-last : (steps : List Event) (event : Event) (number : ℕ) → is_step_of 1 number event ≡ true
    → HasPlace (steps ++ event ∷ []) number (place_before event)
unfolding steps_of
place-last steps event number own =
    let at : Event → Bool = λ other. place_before other == place_before event in
    let here : list_any at (filter (is_step_of 1 number) (event ∷ [])) ≡ true =
    rw (own, eq-eqb (place_before event) (place_before event) refl) refl in
    ap (list_any at) (filter-append (is_step_of 1 number) steps (event ∷ []))
    ∙ list_any-append at (filter (is_step_of 1 number) steps)
    (filter (is_step_of 1 number) (event ∷ []))
    ∙ or_right _ _ here

placed-more : (steps more : List Event) (number : ℕ) (place : Option ℕ)
    → IfSome place (HasPlace steps number) → IfSome place (HasPlace (steps ++ more) number)
placed-more steps more number None h = tt
placed-more steps more number (Some place) h = place-more steps more number place h

good-more : (script : Script) (steps new : List Event) (history more : List Entry) (number : ℕ)
    (report : Report) → IsGood script steps history number report
    → IsGood script (steps ++ new) (history ++ more) number report
good-more script steps new history more number report g = record {
  command = g.command;
  is = g.is;
  says = borne-more script history more number g.command report g.says;
  placed = placed-more steps new number (place_of_report report) g.placed;
}

abbrev pub GoodAt : Script → List Event → List Entry → ℕ × Report → Type 0
GoodAt script steps history r = IsGood script steps history r.0 r.1

pub goods-more : (script : Script) (steps new : List Event) (history more : List Entry)
    (reports : List (ℕ × Report)) → Each (GoodAt script steps history) reports
    → Each (GoodAt script (steps ++ new) (history ++ more)) reports
goods-more script steps new history more [] each = tt
goods-more script steps new history more (r ∷ rs) each = (
  good-more script steps new history more r.0 r.1 each.0,
  goods-more script steps new history more rs each.1,
)

pub each_enumerated : {X : Type 0} (P : ℕ × X → Type 0) (from : ℕ) (xs : List X) (x : X)
    → Each P (enumerate_from from xs) → P (length xs + from, x)
    → Each P (enumerate_from from (xs ++ x ∷ []))
each_enumerated P from [] x each last =
    let e : 0 + from ≡ from = omega arith in (subst (λ n. P (n, x)) e last, tt)
each_enumerated P from (y ∷ ys) x each last =
    let e : length (y ∷ ys) + from ≡ length ys + (from + 1) = omega arith in
    (each.0, each_enumerated P (from + 1) ys x each.1 (subst (λ n. P (n, x)) e last))

-- ---- openings

-- the file that a reply says is open
abbrev pub opened_in : NodeReply → Option Opened
opened_in (From.Meta (Said.Opened o)) = Some o
opened_in reply = None

-- a get that opened this file in a step has read it, or will: its bytes at the place of that step
pub record IsReadBy (told : List Report) (event : Event) (o : Opened) : Type 0 where
  pub by : event.actor ≡ 1
  pub place : o.place ≡ place_before event
  pub bytes : List ℕ
  pub reply : numbered told event.command ≡ Some (Says.Read o.place bytes)

-- so is each file that is opened in a step
abbrev pub ReadsWhereOpened : List Report → Event → Type 0
ReadsWhereOpened told event = (o : Opened) → opened_in event.reply ≡ Some o → IsReadBy told event o

pub numbered-more : {X : Type 0} (xs ys : List X) (number : ℕ) (y : X) → numbered xs number ≡ Some y
    → numbered (xs ++ ys) number ≡ Some y
unfolding numbered
numbered-more xs ys zero y found = absurd (cc)
numbered-more xs ys (suc k) y found = slice_get-more xs ys k y found

-- the last of a list by its number
last-number : {X : Type 0} (xs : List X) (x : X) → numbered (xs ++ x ∷ []) (length xs + 1) ≡ Some x
unfolding numbered
last-number xs x = rw (add-one (length xs)) (slice_get-last xs x)

-- one reply more
pub openings-more : (told : List Report) (report : Report) (steps : List Event)
    → Each (ReadsWhereOpened told) steps → Each (ReadsWhereOpened (told ++ report ∷ [])) steps
openings-more told report steps each =
    each_weaker (ReadsWhereOpened told) (ReadsWhereOpened (told ++ report ∷ []))
    (λ event reads o opened.
    let r = reads o opened in
    record {
      by = r.by;
      place = r.place;
      bytes = r.bytes;
      reply =
          numbered-more told (report ∷ []) event.command _ r.reply;
    })
    steps
    each

-- one step more, which opens nothing
pub no-opening : (told : List Report) (steps : List Event) (event : Event) (reply : NodeReply)
    → event.reply ≡ reply → opened_in reply ≡ None
    → Each (ReadsWhereOpened told) steps → Each (ReadsWhereOpened told) (steps ++ event ∷ [])
no-opening told steps event reply replied none each =
    each_append (ReadsWhereOpened told) steps (event ∷ []) each (
      (λ o opened. let some : None ≡ Some o = sym none ∙ ap opened_in (sym replied) ∙ opened in
          absurd (cc)),
      tt,
    )

-- the file that the actor opens is read
pub opening-here : (w : World) (actor : Actor) (request : NodeRequest) (o : Opened) (bytes : List ℕ)
    → (event_asking w done_step actor request).reply ≡ From.Meta (Said.Opened o)
    → o.place ≡ length w.meta.history
    → ReadsWhereOpened (actor.ended ++ Says.Read o.place bytes ∷ [])
    (event_asking w done_step actor request)
unfolding event_asking
opening-here w actor request o bytes replied place other opened =
    let some : Some o ≡ Some other = ap opened_in (sym replied) ∙ opened in
    let same : o ≡ other = cc in
    subst (IsReadBy (actor.ended ++ Says.Read o.place bytes ∷ [])
    (event_asking w done_step actor request)) same
    (record {
      by = refl;
      place = place;
      bytes = bytes;
      reply =
          last-number actor.ended (Says.Read o.place bytes);
    })

-- ---- the step of the one actor

own-step : (w : World) (actor : Actor) (request : NodeRequest)
    → is_step_of 1 (length actor.ended + 1) (event_asking w done_step actor request) ≡ true
unfolding is_step_of event_asking
own-step w actor request =
    rw (eq-eqb 1 1 refl, eq-eqb (length actor.ended + 1) (length actor.ended + 1) refl) refl

place-kept : (w : World) (actor : Actor) (request : NodeRequest)
    → place_before (event_asking w done_step actor request) ≡ length w.meta.history
unfolding event_asking
place-kept w actor request = refl

-- the last step of a command took place at the end of the history before it
pub place-here : (steps : List Event) (w : World) (actor : Actor) (request : NodeRequest)
    → HasPlace (steps ++ event_asking w done_step actor request ∷ []) (length actor.ended + 1)
    (length w.meta.history)
place-here steps w actor request =
    subst (HasPlace (steps ++ event_asking w done_step actor request ∷ []) (length actor.ended + 1))
    (place-kept w actor request)
    (place-last steps (event_asking w done_step actor request) (length actor.ended + 1)
    (own-step w actor request))
