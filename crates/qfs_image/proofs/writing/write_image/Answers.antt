use Rattle.qfs_image.proofs.KeptLaws.{set_state_fits}
use Rattle.qfs_image.proofs.writing.write_image.Goals as goal

pub put_state-written-requires : goal.put_state-written-requires
put_state-written-requires c = set_state_fits c.args.state.now c.requires
