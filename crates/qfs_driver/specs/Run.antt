-- What a run of a script comes to: its order, its text, and where its devices stand.
use Rattle.std.specs.Prelude.{ℕ, ◌≡◌, ◌≤◌, ◌⊎◌, List, length, map, take, drop, All, Option, Some, is_some, IsSome, IsTrue}
use Rattle.std.specs.List.{AllZip, list_all}
use Rattle.qfs_base.specs.declared.history.Step.{Step}
use Rattle.qfs_base.specs.declared.script.Script.{Script}
use Rattle.qfs_device.specs.Fault.{Rose}
use Rattle.qfs_device.specs.Held.{Held}
use Rattle.qfs_model_headline.specs.Faults.{Counts, FaultsShow}
use Rattle.qfs_model_headline.specs.Nodes.{DevicesStand}
use Rattle.qfs_driver.specs.Fails.{FailsLast}
use Rattle.qfs_driver.specs.declared.status.Status.{Status}
use Rattle.qfs_driver.specs.declared.status.Status.TheVariants as Ended
use Rattle.qfs_laws_first.specs.Replies.{PlainReplies}
use Rattle.qfs_model_world.specs.Deletion.{NoDeletion}
use Rattle.qfs_model_world.specs.Drawn.{is_drawn}
use Rattle.qfs_model_world.specs.Events.{events}
use Rattle.qfs_model_world.specs.EveryGet.{EveryGet}
use Rattle.qfs_model_world.specs.Fits.{fits}
use Rattle.qfs_model_world.specs.GivenOrder.{is_done}
use Rattle.qfs_model_world.specs.Headline.{IsPrintedDrawn}
use Rattle.qfs_model_world.specs.Reports.{OneFileHistory}
use Rattle.qfs_model_world.specs.World.{numbered, after}

module _ {D : Type 0} where
  -- devices that came are left standing for the servers that an order of a script leads to
  abbrev pub StandAfter : (D → Option Held) → Script → List Step → List D → List D → Type 0
  StandAfter told script order came left =
      DevicesStand script.layout.s told (events script order) (after script order).servers came left

  -- the devices of so many servers tell what they hold
  abbrev pub ServersTell : (D → Option Held) → ℕ → List D → Type 0
  ServersTell told servers devices = All (λ device. IsSome (told device)) (take servers devices)

  -- the counts of faults of these devices, beside those of the disks
  abbrev pub counts_with : (D → ℕ) → List D → ℕ → ℕ → Counts
  counts_with faults devices left right =
      record { devices = map faults devices; left = left; right = right }

  -- what an order of a script leaves: devices that stand for its servers, and faults that show it,
  -- whatever the counts of the disks, which stay
  pub record LeavesDevices (told : D → Option Held) (faults : D → ℕ) (script : Script)
      (order : List Step) (came behind : List D) : Type 0 where
    pub stand : StandAfter told script order came behind
    pub faults_show : (left right : ℕ)
        → FaultsShow script order (counts_with faults came left right)
        (counts_with faults behind left right)

  -- the text of a script and of an order that fits it, is whole and is drawn from a number, in
  -- which every step came out done; and what the run leaves on the devices. In this order there is
  -- one file history, every reply is that of a file stored, of bytes read or of a refusal, every
  -- get that is served well reads the bytes of its path at its place, and no deletion names a
  -- current copy
  pub record IsRunOf (told : D → Option Held) (faults : D → ℕ) (number : ℕ) (script : Script)
      (came behind : List D) (text : List ℕ) : Type 0 where
    pub order : List Step
    pub printed : IsPrintedDrawn number script order text
    pub done : IsTrue (list_all is_done order)
    pub devices : LeavesDevices told faults script order came behind
    pub one_history : OneFileHistory script order
    pub plain : PlainReplies script order
    pub every_get : EveryGet script order
    pub no_deletion : NoDeletion script order

  -- as far as the devices told what they held, this is the text of a run of the script
  abbrev pub PrintsRun : (D → Option Held) → (D → ℕ) → ℕ → Script → List D → List D → List ℕ
      → Type 0
  PrintsRun told faults number script came behind text =
      ServersTell told script.servers came → IsRunOf told faults number script came behind text

  -- a device tells what it holds exactly where it told it before, and its count of faults hasn't
  -- fallen
  pub record Remains (told : D → Option Held) (faults : D → ℕ) (before behind : D) : Type 0 where
    pub tells : is_some (told behind) ≡ is_some (told before)
    pub never_falls : faults before ≤ faults behind

  -- so do all devices, each in its place
  abbrev pub AllRemain : (D → Option Held) → (D → ℕ) → List D → List D → Type 0
  AllRemain told faults before behind = AllZip (Remains told faults) before behind

  -- all devices are in their places, and those above the servers are as they came
  pub record StayInPlace (told : D → Option Held) (faults : D → ℕ) (servers : ℕ)
      (before behind : List D) : Type 0 where
    pub as_many : length behind ≡ length before
    pub spare : drop servers behind ≡ drop servers before
    pub remain : AllRemain told faults before behind

  -- the count of faults of a server's device rose
  pub record HasFault (faults : D → ℕ) (server : ℕ) (before behind : List D) : Type 0 where
    pub old : D
    pub new : D
    pub before_is : numbered before server ≡ Some old
    pub behind_is : numbered behind server ≡ Some new
    pub rose : Rose (faults old) (faults new)

  -- a run of a script went by an order that fits it and is drawn from a number, until a Put or a
  -- Fetch failed at a server; and what it leaves on the devices
  pub record IsRunTo (told : D → Option Held) (faults : D → ℕ) (number : ℕ) (script : Script)
      (server : ℕ) (came behind : List D) : Type 0 where
    pub order : List Step
    pub fitting : IsTrue (fits script order)
    pub drawn : IsTrue (is_drawn number script order)
    pub fails : FailsLast script order server
    pub devices : LeavesDevices told faults script order came behind

  -- the device of a server of a script failed, and as far as the devices told what they held, in a
  -- Put or Fetch that ended a run
  pub record FailsAtServer (told : D → Option Held) (faults : D → ℕ) (number : ℕ) (script : Script)
      (server : ℕ) (came behind : List D) : Type 0 where
    pub one_of_them : server ≤ script.servers
    pub fault : HasFault faults server came behind
    pub run : ServersTell told script.servers came
        → IsRunTo told faults number script server came behind

  -- the devices of a run are as an order that fits the script leaves them
  pub record IsLeftAfter (told : D → Option Held) (faults : D → ℕ) (script : Script)
      (came behind : List D) : Type 0 where
    pub order : List Step
    pub fitting : IsTrue (fits script order)
    pub devices : LeavesDevices told faults script order came behind

  -- memory was wanting in a run of a script: all devices are as they came, or as far as they told
  -- what they held, they are left standing after some order
  abbrev pub StopsForMemory : (D → Option Held) → (D → ℕ) → Script → List D → List D → Type 0
  StopsForMemory told faults script came behind =
      (behind ≡ came)
      ⊎ (ServersTell told script.servers came → IsLeftAfter told faults script came behind)

  -- why a run of a script stops early: memory is wanting, or the device of a server failed
  abbrev pub StopsOver : (D → Option Held) → (D → ℕ) → ℕ → Script → List D → List D → Status
      → Type 0
  StopsOver told faults number script came behind Ended.NoMemory =
      StopsForMemory told faults script came behind
  StopsOver told faults number script came behind (Ended.DeviceFault server) =
      FailsAtServer told faults number script server came behind
  StopsOver told faults number script came behind status = ⊥
