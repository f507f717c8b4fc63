use Rattle.std.proofs.Common.{refl}
use Rattle.std.specs.List.{IsDistinct}
use Rattle.qfs_base.specs.declared.history.Entry.TheVariants as Wrote
use Rattle.qfs_model_rows.specs.Scripts.{path_a}
use Rattle.qfs_model_world.proofs.OnLiterals.{world_on_literals}
use Rattle.qfs_model_rows.proofs.meanings.agreeing_replies.Goals as goal

pub returns : goal.returns
unfolding world_on_literals IsDistinct
returns c =
    record {
      written = refl;
      legal = record { legal = record { in_order = (refl, (refl, (refl, (refl, (refl, tt))))); once = ((refl, tt), (tt, tt)) }; own_puts = (tt, (record { path = path_a; created = refl; put = refl }, (tt, (tt, (record { path = path_a; created = refl; put = refl }, tt))))) };
      first_put = record { file = 1; written = refl; length_is = refl };
      first_get = refl;
      remove_done = record { reply = refl; own = Wrote.Removed path_a; writes = refl; written = refl; by_step = refl };
      second_put = record { file = 2; written = refl; length_is = refl };
      second_get = refl;
      get_place = refl;
    }
