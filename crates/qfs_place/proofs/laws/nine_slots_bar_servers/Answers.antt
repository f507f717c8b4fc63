use Rattle.qfs_place.specs.NineLaws.{nine_bar_puts, nine_bar_blocks}
use Rattle.qfs_place.proofs.laws.nine_slots_bar_servers.Goals as goal

pub returns : goal.returns
returns c = record { puts = nine_bar_puts; blocks = nine_bar_blocks }
