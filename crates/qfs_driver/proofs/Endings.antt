-- How a run ends, by why its steps stop, and where a script has more servers than there are devices.
use Rattle.std.proofs.Common.{◌≡◌, ℕ, ◌<◌, ◌≤◌, inl, inr, List, ◌++◌, length, Option, Some, None, Ok, Err, sym, ◌∙◌, ap, subst, arith}
use Rattle.std.proofs.lemmas.List.{append-nil, length-append}
use Rattle.std.proofs.lemmas.Option.{same_Some}
use Rattle.qfs_base.specs.declared.script.Script.{Script}
use Rattle.qfs_base.specs.declared.script.ScriptCause.{ScriptCause}
use Rattle.qfs_device.specs.Held.{Held}
use Rattle.qfs_device.specs.Stream.{Gives, IsAtEnd}
use Rattle.qfs_driver.specs.Reading.{ReadsWhole, TellsScript, RefusesScript}
use Rattle.qfs_driver.specs.Run.{StayInPlace, StopsOver}
use Rattle.qfs_driver.specs.Serial.{Outside, EndsSo, IsTooFew}
use Rattle.qfs_driver.specs.declared.status.Status.{Status}
use Rattle.qfs_driver.specs.declared.status.Status.TheVariants as Ended
use Rattle.qfs_first.specs.Lines.{text_lines}
use Rattle.qfs_first.specs.Script.{read_lines}

module _ {D : Type 0} (told : D → Option Held) (faults : D → ℕ) (number : ℕ) (before after : Outside D)
    (script : Script) (read : ReadsWhole before.left after.left script) (most : script.servers ≤ 64)
    (enough : script.servers ≤ length before.devices) (places : StayInPlace told faults script.servers before.devices after.devices) where
  pub ends_over : (status : Status) → StopsOver told faults number script before.devices after.devices status
      → EndsSo told faults number before after status
  ends_over Ended.NoMemory stops =
      inr (record { script = script; read = read; most = most; enough = enough; stops = stops; places = places })
  ends_over (Ended.DeviceFault server) stops =
      record { script = script; read = read; enough = enough; fails = stops; places = places }
  ends_over Ended.Ok stops = absurd stops
  ends_over Ended.Usage stops = absurd stops
  ends_over (Ended.BadScript line cause) stops = absurd stops
  ends_over (Ended.TooFewDevices servers devices) stops = absurd stops
  ends_over Ended.ReadFault stops = absurd stops
  ends_over Ended.WriteFault stops = absurd stops

-- ---- a source that tells the text of a script

-- what it gave is a first part of what it told, and all of that at its end
gave_part : (bytes gave : List ℕ) (after : Option (List ℕ)) → Gives gave (Some bytes) after → (rest : List ℕ) × (bytes ≡ gave ++ rest)
gave_part bytes gave None gives = absurd (cc)
gave_part bytes gave (Some rest) gives = (rest, same_Some bytes (gave ++ rest) gives)

gave_all : (bytes gave : List ℕ) (after : Option (List ℕ)) → Gives gave (Some bytes) after → IsAtEnd after → gave ≡ bytes
gave_all bytes gave None gives end = absurd (cc)
gave_all bytes gave (Some rest) gives end =
    sym (same_Some bytes (gave ++ rest) gives ∙ ap (λ r. gave ++ r) end ∙ append-nil gave)

module _ (left after : Option (List ℕ)) (script : Script) (tells : TellsScript left script) where
  -- a script that is read whole is that one
  read_told : (read : Script) → ReadsWhole left after read → read ≡ script
  read_told read whole =
      let same : whole.bytes ≡ tells.bytes =
      gave_all tells.bytes whole.bytes after (subst (λ l. Gives whole.bytes l after) tells.left_is whole.gave) whole.at_end in
      let says : Ok read ≡ Ok script = sym whole.says ∙ ap (λ b. read_lines (text_lines b)) same ∙ tells.says in cc

  -- and it isn't refused
  told_not_refused : (line : ℕ) (cause : ScriptCause) → RefusesScript left after line cause → ⊥
  told_not_refused line cause refused =
      elim refused.1 [
        | inl at_first ↦
            let big = at_first.1 in
            let part = gave_part tells.bytes big.bytes after (subst (λ l. Gives big.bytes l after) tells.left_is big.gave) in
            omega (arith, ap length part.1, length-append big.bytes part.0, big.long, tells.short)
        | inr bad ↦
            let same : bad.bytes ≡ tells.bytes =
            gave_all tells.bytes bad.bytes after (subst (λ l. Gives bad.bytes l after) tells.left_is bad.gave) bad.at_end in
            let says : Err line ≡ Ok script = sym bad.says ∙ ap (λ b. read_lines (text_lines b)) same ∙ tells.says in cc
      ]

module _ {D : Type 0} (told : D → Option Held) (faults : D → ℕ) (number : ℕ) (before after : Outside D)
    (script : Script) (tells : TellsScript before.left script) (few : length before.devices < script.servers) where
  -- no script that was read has enough devices
  never_enough : {X : Type 0} (read : Script) → ReadsWhole before.left after.left read → read.servers ≤ length before.devices → X
  never_enough read whole enough =
      absurd (omega (arith, enough, few, ap (λ (s : Script). s.servers) (read_told before.left after.left script tells read whole)))

  pub ends_too_few : (status : Status) → EndsSo told faults number before after status
      → IsTooFew script.servers (length before.devices) status
  ends_too_few Ended.Ok ends = never_enough ends.runs.script ends.runs.read ends.runs.enough
  ends_too_few Ended.Usage ends = absurd ends
  ends_too_few (Ended.BadScript line cause) ends = absurd (told_not_refused before.left after.left script tells line cause ends)
  ends_too_few (Ended.TooFewDevices servers devices) ends =
      (ends.servers_are ∙ ap (λ (s : Script). s.servers) (read_told before.left after.left script tells ends.script ends.read), ends.devices_are)
  ends_too_few Ended.ReadFault ends = tt
  ends_too_few Ended.WriteFault ends = never_enough ends.runs.script ends.runs.read ends.runs.enough
  ends_too_few Ended.NoMemory ends = tt
  ends_too_few (Ended.DeviceFault server) ends = never_enough ends.script ends.read ends.enough
