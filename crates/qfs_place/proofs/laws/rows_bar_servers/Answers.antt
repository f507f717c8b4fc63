use Rattle.qfs_place.specs.BarredLaws.{barred_for_put_is, grants_next, barred_for_block_is, copies_next, barred_rows}
use Rattle.qfs_place.proofs.laws.rows_bar_servers.Goals as goal

pub returns : goal.returns
returns c = record {
  puts = barred_for_put_is;
  next_grant = grants_next;
  blocks = barred_for_block_is;
  next_copies = copies_next;
  barred = barred_rows;
}
