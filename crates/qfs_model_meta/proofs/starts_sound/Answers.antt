use Rattle.std.proofs.Common.{refl, arith, ◌≤◌}
use Rattle.std.proofs.lemmas.List.{length-replicate}
use Rattle.std.specs.List.{IsDistinct}
use Rattle.qfs_model_meta.specs.Grammar.{files_in}
use Rattle.qfs_model_meta.specs.Past.{no_past}
use Rattle.qfs_model_meta.specs.Sound.{known_copies, condemned_of, live_servers}
use Rattle.qfs_model_meta.specs.Whole.{whole_metaserver}
use Rattle.qfs_model_meta.proofs.starts_sound.Goals as goal

pub returns : goal.returns
unfolding whole_metaserver IsDistinct no_past files_in known_copies condemned_of live_servers
returns c = record {
  image = record {
    fits = record {
      some_server = rw length-replicate c.requires.some;
      few_servers = rw length-replicate c.requires.few;
      first_file = one;
      first_lease = one;
      first_condemned = one;
      tree = record { in_order = tt; paths = tt; no_root = tt; in_directories = tt; plain_directories = tt; file_numbers = tt; each_file_once = tt; lengths = tt; makers = tt };
      slots = record { in_order = tt; slot_numbers = tt; of_files = tt; current_of_closed = tt; on_servers = tt; grants = tt; failed_in_order = tt };
      leases = record { in_order = tt; numbers = tt; actors = tt };
      condemned = record { in_order = tt; numbers = tt; slot_numbers = tt; on_servers = tt; blockers = tt };
      dropped = record { in_order = tt; actors = tt };
      history = tt;
    };
    counters = refl;
  };
  granted_once = record { once = tt; of_files = tt; behind = tt; counted = tt; different = λ block slot. tt; known = λ block slot. tt; ordered = tt; listed = tt };
  lives = tt;
  leases = record { once = tt; numbers = tt; given = tt; listed = tt; kept = tt };
  ordered = tt;
  one_server = λ block. tt;
  tree = record { files = λ puts. refl; legal = λ puts. tt; numbers = refl };
}
  where
    one : 1 ≤ 1
    one = omega arith
