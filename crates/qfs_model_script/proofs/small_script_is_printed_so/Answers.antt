use Rattle.std.proofs.Common.{refl, arith, ap, zero, suc, [], ◌∷◌, length, get_or, codes, All}
use lib.Count.{ones}
use Rattle.qfs_base.specs.Path.{IsName, IsNameByte, IsPath}
use Rattle.qfs_base.specs.Table.{Each}
use Rattle.qfs_model_script.specs.Examples.{put_and_get}
use Rattle.qfs_model_script.specs.InScript.{IsScript, IsByte}
use Rattle.qfs_model_script.proofs.OnLiterals.{scripts_on_literals}
use Rattle.qfs_model_script.proofs.small_script_is_printed_so.Goals as goal

name_bytes : All IsNameByte (codes "a")
name_bytes zero d l = (omega arith, omega arith, λ e. omega (arith, e))
name_bytes (suc k) d l = absurd (omega arith)

names : All IsName (codes "a" ∷ [])
names zero d l =
    (omega arith, omega arith, name_bytes, λ e. omega (arith, ap (λ name. get_or name 0 0) e), λ e. omega (arith, ap length e))
names (suc k) d l = absurd (omega arith)

path : IsPath (codes "a" ∷ [])
path = (omega arith, names)

bytes : Each IsByte (1 ∷ 2 ∷ 3 ∷ 4 ∷ 5 ∷ [])
bytes = (omega arith, (omega arith, (omega arith, (omega arith, (omega arith, tt)))))

limits : IsScript put_and_get
unfolding scripts_on_literals ones
limits = record {
  stripe = (omega arith, omega arith, refl);
  rows = (omega arith, omega arith);
  servers = (omega arith, omega arith);
  term = omega arith;
  phases = (omega arith, omega arith);
  few_actors = omega arith;
  few_commands = (omega arith, tt);
  commands = (((path, (omega arith, omega arith), bytes), ((path, tt), tt)), tt);
  blocks_of_put = (omega arith, tt);
  blocks = omega arith;
  chunk_bytes = omega arith;
  order = tt;
}

pub returns : goal.returns
unfolding scripts_on_literals
returns c = record { text = refl; limits = limits }
