-- A run's text, and why a run stops early, from what its world was made of and came to.
use Rattle.std.proofs.Common.{◌≡◌, ℕ, zero, suc, ◌<◌, ◌≤◌, true, IsTrue, List, [], length, take, refl, sym, ◌∙◌, ap, subst, arith, Option, Some, IsSome, inr}
use Rattle.std.specs.Prelude.{slice_get}
use Rattle.std.specs.List.{list_all}
use Rattle.std.proofs.lemmas.List.Elements.{All-map}
use Rattle.qfs_base.specs.declared.history.Step.{Step}
use Rattle.qfs_base.specs.declared.script.Script.{Script}
use Rattle.qfs_device.specs.Fault.{Rose}
use Rattle.qfs_device.specs.Held.{Held}
use Rattle.qfs_device.specs.declared.log_disk.MetaDisks.{MetaDisks}
use Rattle.qfs_driver.proofs.DeviceLaws.{Ran, count_first, leaves_devices}
use Rattle.qfs_driver.proofs.Places.{some_isnt, mapped_at}
use Rattle.qfs_world.proofs.Lists.{get-take, unmapped-at}
use Rattle.std.proofs.lemmas.Option.{slice_get_within}
use Rattle.qfs_driver.proofs.PlayLaws.{all_tell_behind}
use Rattle.qfs_driver.specs.Playing.{IsDrawnSo, IsDrawnToFault, HasNothingLeft, StopsAt}
use Rattle.qfs_driver.specs.Run.{IsLeftAfter, IsRunOf, IsRunTo, LeavesDevices, PrintsRun, ServersTell, HasFault, StopsOver}
use Rattle.qfs_driver.specs.Scripts.{IsReadScript}
use Rattle.qfs_driver.specs.declared.status.Status.{Status}
use Rattle.qfs_driver.specs.declared.status.Status.TheVariants as Ended
use Rattle.qfs_laws_first.proofs.Fitting.{fitting-done}
use Rattle.qfs_laws_first.proofs.Laws.{one-file-history, plain-replies, every-get, no-deletion}
use Rattle.qfs_laws_first.specs.FirstPath.{AllDone}
use Rattle.qfs_model_text.specs.Output.{plain_output}
use Rattle.qfs_model_world.proofs.Texts.{text-plain}
use Rattle.qfs_model_world.specs.Drawn.{is_drawn}
use Rattle.qfs_model_world.specs.Fits.{turn, is_over, is_whole}
use Rattle.qfs_model_world.specs.GivenOrder.{is_done}
use Rattle.qfs_model_world.specs.Text.{lines_of_world}
use Rattle.qfs_model_world.specs.World.{World, numbered, after}
use Rattle.qfs_nodes.specs.Actors.{lines_of_actors}
use Rattle.qfs_nodes.specs.Nodes.{stored_over}
use Rattle.qfs_store.specs.Stored.{Stored}
use Rattle.qfs_world.specs.Follows.{FollowsItself, IsAfter}
use Rattle.qfs_world.specs.View.{WorldView, AllTell, turn_of}

-- ---- the text

ended_whole : (script : Script) (order : List Step) (turns : List ℕ) → turn script (after script order) ≡ turns → turns ≡ [] → is_whole script order ≡ true
unfolding is_whole is_over
ended_whole script order turns is none = rw (is, none) refl

-- the text of a world whose actors have finished, and which was drawn from a number
world_text : {D L : Type 0} (told : D → Option Held) (faults : D → ℕ) (number : ℕ) (world : WorldView D L) (came behind : List D) (written : List ℕ)
    → FollowsItself world
    → LeavesDevices told faults world.script world.order came behind
    → IsTrue (is_drawn number world.script world.order) → IsTrue (list_all is_done world.order) → HasNothingLeft world
    → IsReadScript world.script
    → written ≡ plain_output (lines_of_actors world.actors) world.meta.history world.order
    → IsRunOf told faults number world.script came behind written
unfolding lines_of_world turn
world_text told faults number world came behind written follows leaves drawn done ended read is =
    let all_done : AllDone world.order = fitting-done world.script read.commands read.first_path world.order follows.fits done in
    record {
      order = world.order;
      printed = record {
        printed = record {
          fitting = follows.fits;
          whole = ended_whole world.script world.order (turn_of world.script world.actors) (ap (λ (w : World). turn world.script w) follows.world) ended;
          text_is = is
              ∙ sym (text-plain world.script world.order read.plain
              ∙ ap (λ (w : World). plain_output (lines_of_world w) w.meta.history world.order) follows.world);
        };
        drawn = drawn;
      };
      done = done;
      devices = leaves;
      one_history = one-file-history world.script read.commands world.order read.first_path all_done;
      plain = plain-replies world.script read.commands world.order read.first_path all_done;
      every_get = every-get world.script read.commands world.order read.first_path all_done;
      no_deletion = no-deletion world.script read.commands world.order read.first_path;
    }

-- ---- a world that was made of a script and taken apart

module _ {D L : Type 0} {told : D → Option Held} {faults : D → ℕ} {script : Script} {came behind : List D} {disks : MetaDisks L}
    {started ended : WorldView D L} (ran : Ran told faults script came behind disks started ended) where
  script_is : ended.script ≡ script
  script_is = ran.continues.script_is ∙ ran.starts.script_is

  -- where the servers' devices told at its start what they hold, they tell it at its end
  tell_at_end : ServersTell told script.servers came → AllTell ended.stores
  tell_at_end tell =
      all_tell_behind started.stores ended.stores ran.continues.stores_go_on
      (subst AllTell (sym ran.starts.stores_are)
      (All-map (λ (stored : Stored). IsSome stored.told) (stored_over told faults script.layout.s) (take script.servers came) tell))

  -- the text of a run whose world was drawn to its end
  pub run_prints : (number : ℕ) (written : List ℕ) → IsDrawnSo number ended → HasNothingLeft ended → IsAfter ended → IsReadScript script
      → written ≡ plain_output (lines_of_actors ended.actors) ended.meta.history ended.order
      → PrintsRun told faults number script came behind written
  run_prints number written drawn over after_own read is = λ tell.
      let tells = tell_at_end tell in
      subst (λ s. IsRunOf told faults number s came behind written) script_is
      (world_text told faults number ended came behind written (after_own tells) (leaves_devices ran (after_own tells))
      (drawn.drawn tells) drawn.done over (subst IsReadScript (sym script_is) read) is)

  -- the device that failed in a run
  fault_at : (k : ℕ) (old new : Stored) → slice_get started.stores k ≡ Some old → slice_get ended.stores k ≡ Some new → Rose old.faults new.faults
      → (suc k ≤ script.servers) × HasFault faults (suc k) came behind
  unfolding numbered
  fault_at k old new at_start at_end rose =
      let n = script.servers in
      let below : k < length started.stores = slice_get_within started.stores k old at_start in
      let first = unmapped-at (stored_over told faults script.layout.s) (take n came) k old
      (ap (λ (stores : List Stored). slice_get stores k) (sym ran.starts.stores_are) ∙ at_start) in
      let last = unmapped-at faults (take (length ended.stores) behind) k new.faults
      (ap (λ (counts : List ℕ). slice_get counts k) ran.are.faults_are ∙ mapped_at (λ (stored : Stored). stored.faults) ended.stores k new at_end) in (
        omega (arith, count_first ran, below),
        record {
          old = first.of;
          new = last.of;
          before_is = get-take n came k first.of first.there;
          behind_is = get-take (length ended.stores) behind k last.of last.there;
          rose = subst (λ count. Rose (faults first.of) count) (sym last.is) (subst (λ count. Rose count new.faults) (sym (ap (λ (s : Stored). s.faults) first.is)) rose);
        },
      )

  -- why the steps of a run stopped, as its devices show it
  pub run_stops : (number : ℕ) (status : Status) → IsAfter ended → StopsAt number started ended status
      → StopsOver told faults number script came behind status
  unfolding numbered
  run_stops number Ended.NoMemory after_own stops =
      inr (λ tell.
      let follows = after_own (tell_at_end tell) in
      subst (λ s. IsLeftAfter told faults s came behind) script_is
      (record { order = ended.order; fitting = follows.fits; devices = leaves_devices ran follows }))
  run_stops number (Ended.DeviceFault zero) after_own stops = absurd (some_isnt stops.risen.before_is)
  run_stops number (Ended.DeviceFault (suc k)) after_own stops =
      let risen = stops.risen in
      let at = fault_at k risen.old risen.new risen.before_is risen.behind_is risen.rose in
      record {
        one_of_them = at.0;
        fault = at.1;
        run = λ tell.
            let tells = tell_at_end tell in
            let drawn : IsDrawnToFault number (suc k) ended = stops.drawn tells in
            subst (λ s. IsRunTo told faults number s (suc k) came behind) script_is
            (record {
              order = ended.order;
              fitting = (after_own tells).fits;
              drawn = drawn.drawn;
              fails = drawn.fails;
              devices = leaves_devices ran (after_own tells);
            });
      }
  run_stops number Ended.Ok after_own stops = absurd stops
  run_stops number Ended.Usage after_own stops = absurd stops
  run_stops number (Ended.BadScript line cause) after_own stops = absurd stops
  run_stops number (Ended.TooFewDevices servers devices) after_own stops = absurd stops
  run_stops number Ended.ReadFault after_own stops = absurd stops
  run_stops number Ended.WriteFault after_own stops = absurd stops
