use Rattle.std.proofs.Common.{refl}
use Rattle.qfs_model_actor.proofs.OnLiterals.{work_on_literals}
use Rattle.qfs_model_actor.proofs.failures_and_moves_go_so.Goals as goal

pub returns : goal.returns
unfolding work_on_literals
returns c =
    record {
      no_server = record { requests = refl; end = refl };
      gives_up = record { requests = refl; end = refl };
      recovered = record { requests = refl; end = refl };
      moves = record { requests = refl; end = refl };
      emptied = record { requests = refl; end = refl };
      swept = record { requests = refl; end = refl };
      leaves = record { requests = refl; end = refl };
      starts = record { requests = refl; end = refl };
      upgrades = (record { requests = refl; end = refl }, record { requests = refl; end = refl });
    }
