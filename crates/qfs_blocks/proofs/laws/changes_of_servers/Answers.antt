-- The laws of `laws::changes_of_servers`.
use Rattle.std.proofs.Common.{nat_lt}
use Rattle.qfs_model_meta.specs.Apply.{apply, bring_up}
use Rattle.qfs_model_meta.specs.Servers.{change_server, server_at, server_up}
use Rattle.qfs_blocks.specs.LeaseLaws.{risen_is, stray_is}
use Rattle.qfs_blocks.proofs.laws.changes_of_servers.Goals as goal

pub returns : goal.returns
unfolding apply bring_up
returns c = record {
  up = λ m t server life i. record m {
    servers = change_server (server_up life) m.servers server;
    slots = t.slots;
    condemned = risen_is server m.leases t.condemned
        (nat_lt (server_at m.servers server).life life) i;
    next_condemned = t.next;
  };
  stray = λ m next t server life key above. stray_is m next above server life key t;
}
