-- What was written can be read.
use Rattle.std.proofs.Common.{ℕ, List, [], ◌∷◌, Option, Some, lit≤}
use Rattle.qfs_device.specs.Held.{Held}
use Rattle.qfs_device.specs.HeldLaws.{readable-written}
use Rattle.qfs_device_tests.proofs.devices.a_device_reads_what_was_written.Goals as goal

pub read-requires : goal.read-requires
read-requires g c =
    let bytes : List ℕ = 99 ∷ 104 ∷ 117 ∷ 110 ∷ 107 ∷ [] in
    let made = c.new-device.result in
    let old : Option Held = Some (record { contents = made.chunks; life = made.life; handed_out = made.handed_out }) in
    readable-written _ bytes 1 3 old _ c.in_ok-write.ensures.written (lit≤ tt)
