use Rattle.std.proofs.Common.{◌≡◌, ◌-◌, true}
use Rattle.qfs_model_disks.specs.Values.{from_one}
use Rattle.qfs_record.specs.Part.{many_at}
use Rattle.qfs_spelling.specs.Sets.{is_set}
use Rattle.qfs_spelling.proofs.Lists.{behind}
use Rattle.qfs_spelling.proofs.SetLaws.{last_from}
use Rattle.qfs_spelling.proofs.sets.set_at.Given as goal

abbrev pub invariant-loop-i : goal.invariant-loop-i
invariant-loop-i l = record {
  read : behind from_one l.set (l.count - l.i) l.rest ≡ many_at from_one l.count l.initial.rest;
  set : is_set l.set ≡ true;
  last : l.last ≡ last_from 0 l.set;
}
