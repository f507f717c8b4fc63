use Rattle.std.proofs.Common.{◌≡◌, ◌∙◌, ap, sym, subst, arith}
use Rattle.qfs_base.specs.NameTree.{add_refusal}
use Rattle.qfs_model_meta.specs.Apply.{apply}
use Rattle.qfs_base.specs.declared.change.Change.TheVariants.{AddFile}
use Rattle.qfs_model_meta.specs.Step.{next_turn}
use Rattle.qfs_model_meta.specs.TreeRows.{standing}
use Rattle.qfs_meta.specs.Kept.{IsKept}
use Rattle.qfs_meta.proofs.LoadLaws.{file_added}
use Rattle.qfs_meta.proofs.KeptLaws.{kept-create}
use Rattle.qfs_meta.proofs.PutLaws.{create-refused, create-made}
use Rattle.qfs_meta.proofs.StepLaws.{runs_out}
use Rattle.qfs_meta.proofs.puts.create.Goals as goal

pub returns-in-Some-clause-ok : goal.returns-in-Some-clause-ok
returns-in-Some-clause-ok c =
    create-refused c.args.image.now c.args.actor c.args.path.now c.args.command c.args.len _ _ c.next_place-place.ensures
    (ap (λ tree. add_refusal (standing tree) c.args.path.now) (sym c.as_slice.ensures) ∙ sym c.add_refusal.ensures ∙ c.in-Some.is)

pub returns-then-file-clause-ok : goal.returns-then-file-clause-ok
returns-then-file-clause-ok c = runs_out c.args.image.now _

made : (c : goal.After-raise_turn) → c.raise_turn.new.image ≡ next_turn (apply c.args.image.now (AddFile c.args.path.now c.args.actor c.args.command c.args.len))
made c = c.raise_turn.ensures ∙ ap next_turn c.in_ok-add_file.ensures.ok

pub returns-clause-kept : goal.returns-clause-kept
returns-clause-kept c =
    subst IsKept (sym (made c))
    (kept-create c.args.image.now c.args.path.now c.args.actor c.args.command c.args.len c.requires (omega arith) (omega arith))

pub returns-clause-ok : goal.returns-clause-ok
returns-clause-ok c =
    create-made c.args.image.now c.args.actor c.args.path.now c.args.command c.args.len _ _ c.next_place-place.ensures
    (ap (λ tree. add_refusal (standing tree) c.args.path.now) (sym c.as_slice.ensures) ∙ sym c.add_refusal.ensures ∙ c.in_default.is)
    (made c) (returns-clause-kept c)

pub returns-clause-loads : goal.returns-clause-loads
returns-clause-loads c = file_added c.args.image.now c.raise_turn.new.image c.args.path.now c.args.actor c.args.command c.args.len (made c)
