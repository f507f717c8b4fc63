use Rattle.qfs_model_meta.specs.Step.{opening}
use Rattle.qfs_meta.proofs.meta.Meta.new.Goals as goal

pub returns : goal.returns
unfolding opening
returns c i = record {
  layout = c.args.layout;
  term = c.args.term;
  image = record {
    turn = 0;
    clock = 0;
    next_file = 1;
    next_lease = 1;
    next_condemned = 1;
    servers = c.in_ok-servers.ensures i;
    tree = c.new.ensures i;
    slots = c.new-2.ensures i;
    leases = c.new-3.ensures i;
    condemned = c.new-4.ensures i;
    dropped = c.new-5.ensures i;
    history = c.new-6.ensures i;
  };
}
