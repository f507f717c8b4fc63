-- Where the devices of a run stand at its end.
use Rattle.std.proofs.Common.{◌≡◌, ℕ, zero, suc, min, ◌+◌, ◌-◌, ◌<◌, ◌≤◌, Bool, true, false, List, length, take, drop, map, refl, sym, ◌∙◌, ap, subst, arith, length-take, length-drop, Option, Some, None}
use Rattle.std.specs.Prelude.{slice_get}
use Rattle.std.specs.List.{AllZip}
use Rattle.std.proofs.lemmas.List.{length-map, length-take-le}
use Rattle.std.proofs.lemmas.List.Elements.{length_all_zip}
use Rattle.std.proofs.lemmas.Option.{slice_get_within}
use Rattle.qfs_base.specs.Sizes.{LAST_U64}
use Rattle.qfs_base.specs.declared.script.Script.{Script}
use Rattle.qfs_device.specs.Held.{Held}
use Rattle.qfs_device.specs.declared.log_disk.MetaDisks.{MetaDisks}
use Rattle.qfs_driver.proofs.Places.{some_is, in_first, mapped_at, behind_first}
use Rattle.qfs_driver.specs.Playing.{Continues}
use Rattle.qfs_driver.proofs.Remaining.{remain_from, same_remain, servers_remain}
use Rattle.qfs_driver.specs.Run.{AllRemain, LeavesDevices, StandAfter, StayInPlace, counts_with}
use Rattle.qfs_model_headline.specs.Faults.{FaultsShow}
use Rattle.qfs_model_headline.specs.Nodes.{has_failed, is_put_or_start, IsServerDevice, IsDeviceOf}
use Rattle.qfs_model_server.specs.Server.{Server}
use Rattle.qfs_model_store.specs.Stands.{HandsOut, kept}
use Rattle.qfs_model_world.specs.Events.{events}
use Rattle.qfs_model_world.specs.Headline.{failed_at}
use Rattle.qfs_model_world.specs.World.{World, numbered, after}
use Rattle.qfs_store.specs.Stored.{Stored}
use Rattle.qfs_world.specs.Calls.{AreDevicesOf, GoesOn, Starts}
use Rattle.qfs_nodes.specs.Nodes.{stored_over}
use Rattle.qfs_world.specs.Follows.{FollowsItself}
use Rattle.qfs_world.proofs.Lists.{past-end, there-below, unmapped-at}
use Rattle.qfs_world.specs.View.{WorldView}

-- ---- the devices of a world

-- a device that handed out as much as its server did so whether or not it may have read more
hands_out : (failed : Bool) (device server : ℕ) → kept device ≡ kept server → HandsOut failed device server
hands_out true device server same = omega (arith, same)
hands_out false device server same = same

module _ {D L : Type 0} where
  -- a device of a world's server
  world_devices : (told : D → Option Held) (faults : D → ℕ) (world : WorldView D L) (devices : List D)
      → FollowsItself world → AreDevicesOf told faults world devices
      → (number : ℕ) (device : D) (server : Server) → numbered devices number ≡ Some device
      → numbered (after world.script world.order).servers number ≡ Some server
      → IsServerDevice world.script.layout.s (events world.script world.order) number (told device) server
  unfolding numbered
  world_devices told faults world devices follows are zero device server at_device at_server = cc
  world_devices told faults world devices follows are (suc k) device server at_device at_server =
      let there : slice_get follows.servers k ≡ Some server = sym (ap (λ (w : World). slice_get w.servers k) follows.world) ∙ at_server in
      let within = slice_get_within follows.servers k server there in
      let below : k < length world.stores = omega (arith, within, follows.stand.as_many) in
      let at = there-below world.stores k below in
      let is = follows.stand.each (suc k) at.0 server at.1 there in
      let same : told device ≡ at.0.told = some_is
      (sym (mapped_at told (take (length world.stores) devices) k device (in_first (length world.stores) k devices device below at_device))
      ∙ ap (λ (all : List (Option Held)). slice_get all k) are.told_are
      ∙ mapped_at (λ (stored : Stored). stored.told) world.stores k at.0 at.1) in
      record {
        held = is.held;
        tells = same ∙ is.told;
        stands = is.stands.stands;
        others = is.others;
        handed_out = hands_out (has_failed is_put_or_start (suc k) (events world.script world.order))
            is.held.handed_out server.handed_out is.handed_out;
      }

-- a world was made of a script over devices, its actors took steps, and it was taken apart
pub record Ran {D L : Type 0} (told : D → Option Held) (faults : D → ℕ) (script : Script) (came behind : List D) (disks : MetaDisks L) (started ended : WorldView D L) : Type 0 where
  pub enough : script.servers ≤ length came
  pub starts : Starts told faults script came disks started
  pub continues : Continues started ended
  pub are : AreDevicesOf told faults ended behind

module _ {D L : Type 0} {told : D → Option Held} {faults : D → ℕ} {script : Script} {came behind : List D} {disks : MetaDisks L}
    {started ended : WorldView D L} (ran : Ran told faults script came behind disks started ended) where
  -- ---- each in its place

  -- as many stores as the script has servers
  pub count_first : length started.stores ≡ script.servers
  count_first =
      ap length ran.starts.stores_are ∙ length-map (take script.servers came) (stored_over told faults script.layout.s) ∙ length-take-le script.servers came ran.enough

  pub count_last : length ended.stores ≡ script.servers
  count_last = sym (length_all_zip GoesOn started.stores ended.stores ran.continues.stores_go_on) ∙ count_first

  spare_stays : drop script.servers behind ≡ drop script.servers came
  spare_stays =
      ap (λ k. drop k behind) (sym count_last) ∙ ran.are.others_are ∙ ran.continues.spare_is ∙ ran.starts.spare_are

  as_many : length behind ≡ length came
  as_many =
      let full : min (length ended.stores) (length behind) ≡ length ended.stores =
      sym (length-take (length ended.stores) behind) ∙ sym (length-map (take (length ended.stores) behind) told)
      ∙ ap length ran.are.told_are ∙ length-map ended.stores (λ (stored : Stored). stored.told) in
      let rest : length behind - script.servers ≡ length came - script.servers =
      sym (length-drop script.servers behind) ∙ ap length spare_stays ∙ length-drop script.servers came in
      omega (arith, full, rest, count_last, ran.enough)

  run_remains : AllRemain told faults came behind
  run_remains =
      let n = script.servers in
      let first : AllRemain told faults (take n came) (take n behind) =
      servers_remain told faults script.layout.s (take n came) (take n behind) ended.stores
      (subst (λ stores. AllZip GoesOn stores ended.stores) ran.starts.stores_are ran.continues.stores_go_on)
      (ap (λ k. map told (take k behind)) (sym count_last) ∙ ran.are.told_are)
      (ap (λ k. map faults (take k behind)) (sym count_last) ∙ ran.are.faults_are) in
      remain_from told faults n came behind first
      (same_remain told faults (drop n came) (drop n behind) spare_stays)

  pub run_stays : StayInPlace told faults script.servers came behind
  run_stays = record { as_many = as_many; spare = spare_stays; remain = run_remains }

  -- a device above the servers is as it came
  spare_same : (k : ℕ) (before after_run : D) → script.servers ≤ k → slice_get came k ≡ Some before → slice_get behind k ≡ Some after_run
      → after_run ≡ before
  spare_same k before after_run past was is = some_is
      (sym is ∙ behind_first script.servers k behind past
      ∙ ap (λ (devices : List D). slice_get devices (k - script.servers)) spare_stays
      ∙ sym (behind_first script.servers k came past) ∙ was)

  -- how often a server's device had failed at the start, and how often it has at the end
  count_came : (k old : ℕ) → k < script.servers → slice_get (map faults came) k ≡ Some old → slice_get ended.counts k ≡ Some old
  count_came k old below was =
      let first = unmapped-at faults came k old was in
      ap (λ (counts : List ℕ). slice_get counts k) (ran.continues.counts_are ∙ ran.starts.counts_are)
      ∙ mapped_at faults (take script.servers came) k first.of (in_first script.servers k came first.of below first.there)
      ∙ ap Some first.is

  count_left : (k new : ℕ) (stored : Stored) → slice_get ended.stores k ≡ Some stored → slice_get (map faults behind) k ≡ Some new → new ≡ stored.faults
  count_left k new stored there is =
      let last = unmapped-at faults behind k new is in
      let below = slice_get_within ended.stores k stored there in
      sym last.is
      ∙ some_is
      (sym (mapped_at faults (take (length ended.stores) behind) k last.of (in_first (length ended.stores) k behind last.of below last.there))
      ∙ ap (λ (counts : List ℕ). slice_get counts k) ran.are.faults_are
      ∙ mapped_at (λ (stored : Stored). stored.faults) ended.stores k stored there)

  -- ---- what they hold

  device_of : (follows : FollowsItself ended) (number : ℕ) (before after_run : D)
      → numbered came number ≡ Some before → numbered behind number ≡ Some after_run
      → (found : Option Server) → numbered (after ended.script ended.order).servers number ≡ found
      → IsDeviceOf ended.script.layout.s told (events ended.script ended.order) number before after_run found
  unfolding numbered
  device_of follows number before after_run was is (Some server) at =
      world_devices told faults ended behind follows ran.are number after_run server is at
  device_of follows zero before after_run was is None at = absurd (cc)
  device_of follows (suc k) before after_run was is None at =
      let none : slice_get follows.servers k ≡ None = sym (ap (λ (w : World). slice_get w.servers k) follows.world) ∙ at in
      let past = past-end follows.servers k none in
      spare_same k before after_run (omega (arith, past, follows.stand.as_many, count_last)) was is

  devices_stand : FollowsItself ended
      → StandAfter told ended.script ended.order came behind
  devices_stand follows = record {
    as_many = as_many;
    each = λ number before after_run was is.
        device_of follows number before after_run was is (numbered (after ended.script ended.order).servers number) refl;
  }

  -- ---- their faults

  same_count : (k : ℕ) (old new : ℕ) → script.servers ≤ k → slice_get (map faults came) k ≡ Some old → slice_get (map faults behind) k ≡ Some new → old ≡ new
  same_count k old new past was is =
      let first = unmapped-at faults came k old was in
      let last = unmapped-at faults behind k new is in
      sym first.is ∙ ap faults (sym (spare_same k first.of last.of past first.there last.there)) ∙ last.is

  module _ (follows : FollowsItself ended) where
    fault_shows : (k old new : ℕ) → slice_get (map faults came) k ≡ Some old → slice_get (map faults behind) k ≡ Some new → new < LAST_U64
        → (found : Option Stored) → slice_get ended.stores k ≡ found
        → new ≡ old + failed_at (suc k) (events ended.script ended.order)
    unfolding numbered
    fault_shows k old new was is below (Some stored) there =
        let within = slice_get_within ended.stores k stored there in
        let server = there-below follows.servers k (omega (arith, within, follows.stand.as_many)) in
        let same : new ≡ stored.faults = count_left k new stored there is in
        let counted = count_came k old (omega (arith, within, count_last)) was in
        same ∙ (follows.stand.each (suc k) stored server.0 there server.1).faults old counted (omega (arith, same, below))
    fault_shows k old new was is below None none =
        let past = past-end ended.stores k none in
        let same = same_count k old new (omega (arith, past, count_last)) was is in
        omega (arith, same, follows.stand.elsewhere (suc k) none)

    device_faults : (number old new : ℕ)
        → numbered (map faults came) number ≡ Some old → numbered (map faults behind) number ≡ Some new → new < LAST_U64
        → new ≡ old + failed_at number (events ended.script ended.order)
    unfolding numbered
    device_faults zero old new was is below = absurd (cc)
    device_faults (suc k) old new was is below = fault_shows k old new was is below (slice_get ended.stores k) refl

    none_at_first : numbered ended.stores 0 ≡ None
    unfolding numbered
    none_at_first = refl

    faults_show : (left right : ℕ)
        → FaultsShow ended.script ended.order (counts_with faults came left right) (counts_with faults behind left right)
    faults_show left right = record {
      devices = device_faults;
      disks = λ below_left below_right. omega (arith, follows.stand.elsewhere 0 none_at_first);
    }

  -- what the order of the run leaves
  pub leaves_devices : FollowsItself ended
      → LeavesDevices told faults ended.script ended.order came behind
  leaves_devices follows = record { stand = devices_stand follows; faults_show = faults_show follows }
