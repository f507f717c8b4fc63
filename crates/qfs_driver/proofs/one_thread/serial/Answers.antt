-- A script that has too few devices, by how the run ends.
use Rattle.qfs_driver.proofs.Endings.{ends_too_few}
use Rattle.qfs_driver.specs.Serial.{outside_of}
use Rattle.qfs_driver.proofs.one_thread.serial.Goals as goal

pub returns-clause-too_few : goal.returns-clause-too_few
returns-clause-too_few g c = λ asked tells few.
    ends_too_few g.D.ChunkDevice.told g.D.ChunkDevice.faults _
    (outside_of g.S.Source.left g.S.Source.faults g.K.Sink.written g.K.Sink.faults c.args.script.now c.args.out.now c.args.devices.now.items)
    (outside_of g.S.Source.left g.S.Source.faults g.K.Sink.written g.K.Sink.faults c.drawn.new.script c.drawn.new.out c.drawn.new.devices.items)
    asked tells few c.drawn.result c.drawn.ensures.ends
