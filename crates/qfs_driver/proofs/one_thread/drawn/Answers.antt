-- A script that was read can be run, and its text is written whole or in part, or its run stops early.
use Rattle.std.proofs.Common.{rules}
use Rattle.qfs_first.specs.Lines.{text_lines}
use Rattle.qfs_driver.proofs.Endings.{ends_over}
use Rattle.qfs_driver.specs.Serial.{outside_of}
use Rattle.qfs_driver.proofs.ReadScripts.{read_script_is_first}
use Rattle.qfs_driver.proofs.one_thread.drawn.Goals as goal

pub run-requires-clause-read : goal.run-requires-clause-read
run-requires-clause-read g c κs within =
    read_script_is_first (text_lines c.in-Ok.ensures.ok.bytes) c.in-Ok.script c.in-Ok.ensures.ok.says

pub returns-in-Ok-write_all-clause-ends : goal.returns-in-Ok-write_all-clause-ends
returns-in-Ok-write_all-clause-ends g c = record {
  text = c.in-Ok-run.text.items;
  runs = record {
    script = c.in-Ok.script;
    read = c.in-Ok.ensures.ok;
    enough = search rules;
    prints = c.in-Ok-run.ensures.text;
    places = c.run.ensures.places;
  };
  written = rw (← c.as_slice.ensures.value) c.in-Ok-write_all.ensures.ok;
}

pub returns-in-Ok-run-clause-ends : goal.returns-in-Ok-run-clause-ends
returns-in-Ok-run-clause-ends g c = record {
  text = c.in-Ok-run.text.items;
  runs = record {
    script = c.in-Ok.script;
    read = c.in-Ok.ensures.ok;
    enough = search rules;
    prints = c.in-Ok-run.ensures.text;
    places = c.run.ensures.places;
  };
  count = c.in-Err-write_all.ensures.err.0;
  part = rw (← c.as_slice.ensures.value) c.in-Err-write_all.ensures.err.1;
  written = rw (← c.as_slice.ensures.value) c.in-Err-write_all.ensures.err.2;
  rose = c.in-Err-write_all.ensures.cause;
}

pub returns-clause-ends : goal.returns-clause-ends
returns-clause-ends g c =
    let is = read_script_is_first (text_lines c.in-Ok.ensures.ok.bytes) c.in-Ok.script c.in-Ok.ensures.ok.says in
    ends_over g.D.ChunkDevice.told g.D.ChunkDevice.faults c.args.number
    (outside_of g.S.Source.left g.S.Source.faults g.K.Sink.written g.K.Sink.faults c.args.script.now c.args.out.now c.args.devices.now.items)
    (outside_of g.S.Source.left g.S.Source.faults g.K.Sink.written g.K.Sink.faults c.read_script.new.source c.args.out.now c.run.new.devices.items)
    c.in-Ok.script c.in-Ok.ensures.ok is.first_path.most (search rules) c.run.ensures.places c.in-Err-run.status c.in-Err-run.ensures.err

pub returns-in-Ok-write_all-clause-kept : goal.returns-in-Ok-write_all-clause-kept
returns-in-Ok-write_all-clause-kept g c = c.run.ensures.places.remain

pub returns-in-Ok-run-clause-kept : goal.returns-in-Ok-run-clause-kept
returns-in-Ok-run-clause-kept g c = c.run.ensures.places.remain

pub returns-clause-kept : goal.returns-clause-kept
returns-clause-kept g c = c.run.ensures.places.remain
