-- How a run ends, by its status.
use Rattle.std.specs.Prelude.{ℕ, ◌≡◌, ◌<◌, ◌≤◌, ◌⊎◌, ⊤, List, length, take, Option}
use Rattle.qfs_base.specs.Sizes.{MOST_SERVERS}
use Rattle.qfs_base.specs.declared.script.Script.{Script}
use Rattle.qfs_device.specs.Fault.{Rose}
use Rattle.qfs_device.specs.Held.{Held}
use Rattle.qfs_device.specs.Stream.{Appends}
use Rattle.qfs_driver.specs.Reading.{ReadsWhole, RefusesScript}
use Rattle.qfs_driver.specs.Run.{PrintsRun, StayInPlace, FailsAtServer, StopsForMemory}
use Rattle.qfs_driver.specs.declared.one_thread.Plan.{Plan}
use Rattle.qfs_driver.specs.declared.one_thread.Plan.TheVariants as By
use Rattle.qfs_driver.specs.declared.status.Status.{Status}
use Rattle.qfs_driver.specs.declared.status.Status.TheVariants as Ended

-- the number of a plan
abbrev pub number_of_plan : Plan → ℕ
number_of_plan (By.Drawn number) = number

-- what a run finds outside and leaves there: what is left in the source, what was written to the
-- sink, how often the two have failed, and the devices
pub record Outside (D : Type 0) : Type 0 where
  pub left : Option (List ℕ)
  pub source_faults : ℕ
  pub written : Option (List ℕ)
  pub sink_faults : ℕ
  pub devices : List D

-- the outside of these streams and devices, by what a source has left, what was written to a sink,
-- and the counts of their faults
abbrev pub outside_of : {S K D : Type 0} → (S → Option (List ℕ)) → (S → ℕ) → (K → Option (List ℕ))
    → (K → ℕ)
    → S → K → List D → Outside D
outside_of left source_faults written sink_faults source sink devices = record {
  left = left source;
  source_faults = source_faults source;
  written = written sink;
  sink_faults = sink_faults sink;
  devices = devices;
}

module _ {D : Type 0} where
  -- a script was read whole, and this is the text of its run
  pub record Runs (told : D → Option Held) (faults : D → ℕ) (number : ℕ) (before after : Outside D)
      (text : List ℕ) : Type 0 where
    pub script : Script
    pub read : ReadsWhole before.left after.left script
    pub enough : script.servers ≤ length before.devices
    pub prints : PrintsRun told faults number script before.devices after.devices text
    pub places : StayInPlace told faults script.servers before.devices after.devices

  -- the text of the run was written whole
  pub record WritesWhole (told : D → Option Held) (faults : D → ℕ) (number : ℕ)
      (before after : Outside D) : Type 0 where
    pub text : List ℕ
    pub runs : Runs told faults number before after text
    pub written : Appends text before.written after.written

  -- a first part of the text of the run was written, and the sink failed
  pub record WritesPart (told : D → Option Held) (faults : D → ℕ) (number : ℕ)
      (before after : Outside D) : Type 0 where
    pub text : List ℕ
    pub runs : Runs told faults number before after text
    pub count : ℕ
    pub part : count < length text
    pub written : Appends (take count text) before.written after.written
    pub rose : Rose before.sink_faults after.sink_faults

  -- a script was read whole that has more servers than there are devices
  pub record LacksDevices (servers devices : ℕ) (before after : Outside D) : Type 0 where
    pub script : Script
    pub read : ReadsWhole before.left after.left script
    pub servers_are : servers ≡ script.servers
    pub devices_are : devices ≡ length before.devices
    pub fewer : devices < servers

  -- a script was read whole, and the device of one of its servers failed in its run
  pub record StopsAtFault (told : D → Option Held) (faults : D → ℕ) (number server : ℕ)
      (before after : Outside D) : Type 0 where
    pub script : Script
    pub read : ReadsWhole before.left after.left script
    pub enough : script.servers ≤ length before.devices
    pub fails : FailsAtServer told faults number script server before.devices after.devices
    pub places : StayInPlace told faults script.servers before.devices after.devices

  -- memory was wanting in the run of a script that was read whole
  pub record StopsInRun (told : D → Option Held) (faults : D → ℕ) (before after : Outside D)
      : Type 0 where
    pub script : Script
    pub read : ReadsWhole before.left after.left script
    pub most : script.servers ≤ MOST_SERVERS
    pub enough : script.servers ≤ length before.devices
    pub stops : StopsForMemory told faults script before.devices after.devices
    pub places : StayInPlace told faults script.servers before.devices after.devices

  -- memory was wanting: all devices are as they came, or it was so in a run
  abbrev pub LacksMemory : (D → Option Held) → (D → ℕ) → Outside D → Outside D → Type 0
  LacksMemory told faults before after =
      (after.devices ≡ before.devices) ⊎ StopsInRun told faults before after

  -- each status has its cause; want of memory may come at any time
  abbrev pub EndsSo : (D → Option Held) → (D → ℕ) → ℕ → Outside D → Outside D → Status → Type 0
  EndsSo told faults number before after Ended.Ok = WritesWhole told faults number before after
  EndsSo told faults number before after Ended.Usage = ⊥
  EndsSo told faults number before after (Ended.BadScript line cause) =
      RefusesScript before.left after.left line cause
  EndsSo told faults number before after (Ended.TooFewDevices servers devices) =
      LacksDevices servers devices before after
  EndsSo told faults number before after Ended.ReadFault =
      Rose before.source_faults after.source_faults
  EndsSo told faults number before after Ended.WriteFault =
      WritesPart told faults number before after
  EndsSo told faults number before after Ended.NoMemory = LacksMemory told faults before after
  EndsSo told faults number before after (Ended.DeviceFault server) =
      StopsAtFault told faults number server before after

-- where a script has more servers than there are devices, a run ends so, unless the source fails or
-- memory is wanting
abbrev pub IsTooFew : (servers devices : ℕ) → Status → Type 0
IsTooFew servers devices (Ended.TooFewDevices asked there) = (asked ≡ servers) × (there ≡ devices)
IsTooFew servers devices Ended.ReadFault = ⊤
IsTooFew servers devices Ended.NoMemory = ⊤
IsTooFew servers devices status = ⊥

-- nothing is written but with the statuses Ok and WriteFault
abbrev pub OnUnwritten : Status → Type 0 → Type 0
OnUnwritten Ended.Ok fact = ⊤
OnUnwritten Ended.WriteFault fact = ⊤
OnUnwritten status fact = fact

-- the statuses that come before the devices are used
abbrev pub OnUntouched : Status → Type 0 → Type 0
OnUntouched Ended.Usage fact = fact
OnUntouched Ended.ReadFault fact = fact
OnUntouched (Ended.BadScript line cause) fact = fact
OnUntouched (Ended.TooFewDevices servers devices) fact = fact
OnUntouched status fact = ⊤
