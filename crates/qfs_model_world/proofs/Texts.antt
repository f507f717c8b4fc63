-- The text of a script that asks for no audit.
use Rattle.std.proofs.Common.{◌≡◌, false, List, ap}
use Rattle.qfs_base.specs.declared.history.Step.{Step}
use Rattle.qfs_base.specs.declared.script.Script.{Script}
use Rattle.qfs_model_text.specs.Output.{output, plain_output}
use Rattle.qfs_model_world.specs.Audit.{audit_if}
use Rattle.qfs_model_world.specs.Text.{lines_of_world, printed, text}
use Rattle.qfs_model_world.specs.World.{World, after}

-- where no audit is asked for, the text is the replies, the file history and the order
pub text-plain : (script : Script) (order : List Step) → script.audit ≡ false
    → text script order ≡ plain_output (lines_of_world (after script order)) (after script order).meta.history order
unfolding text printed audit_if
text-plain script order none =
    let world : World = after script order in
    ap (λ asked. output (lines_of_world world) world.meta.history (audit_if script order world asked) order) none
