-- What the check leaves to show of `puts::read_put`.
use Rattle.std.proofs.Common.{ap, sym, ◌∙◌}
use Rattle.std.specs.Option.{option_copied, option_map}
use Rattle.qfs_base.specs.Recipe.{bytes_of}
use Rattle.qfs_files.proofs.PutLaws.{put_none}
use Rattle.qfs_files.proofs.puts.read_put.Goals as goal

pub returns-in-None : goal.returns-in-None
returns-in-None c =
    c.new.ensures ∙ sym (put_none c.args.script.now c.args.actor c.args.number c.args.range
    (sym (ap (λ o. option_map bytes_of (option_copied o)) c.in-None.is) ∙ c.recipe_of.ensures))
