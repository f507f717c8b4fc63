use Rattle.std.proofs.Common.{◌≡◌, ◌∙◌, ap, sym, subst, arith, Some, None}
use Rattle.std.specs.Option.{option_copied}
use Rattle.qfs_model_meta.specs.Apply.{apply}
use Rattle.qfs_base.specs.declared.change.Change.TheVariants.{CloseFile}
use Rattle.qfs_model_meta.specs.Lists.{block_count}
use Rattle.qfs_model_meta.specs.PutRequests.{first_ungranted}
use Rattle.qfs_model_meta.specs.Step.{next_turn}
use Rattle.qfs_model_meta.specs.TreeRows.{unclosed_file}
use Rattle.qfs_meta.specs.Kept.{IsKept}
use Rattle.qfs_meta.proofs.LoadLaws.{turned}
use Rattle.qfs_meta.proofs.KeptLaws.{kept-close}
use Rattle.qfs_meta.proofs.PutLaws.{close-gone, close-incomplete, close-made}
use Rattle.qfs_meta.proofs.StepLaws.{runs_out}
use Rattle.qfs_meta.proofs.puts.close.Goals as goal

pub returns-in_default-clause-ok : goal.returns-in_default-clause-ok
returns-in_default-clause-ok c =
    close-gone c.args.layout.now c.args.actor c.args.file c.args.image.now
    (ap (unclosed_file c.args.actor c.args.file) (sym c.as_slice.ensures) ∙ sym c.unclosed_file.ensures ∙ ap option_copied c.in_default.is)

pub returns-in-Some-first_ungranted-clause-ok : goal.returns-in-Some-first_ungranted-clause-ok
returns-in-Some-first_ungranted-clause-ok c =
    let found : unclosed_file c.args.actor c.args.file c.args.image.now.tree ≡ Some c.in-Some.row.now =
    ap (unclosed_file c.args.actor c.args.file) (sym c.as_slice.ensures) ∙ sym c.unclosed_file.ensures ∙ ap option_copied c.in-Some.is in
    let lacks : first_ungranted c.args.file (block_count c.args.layout.now c.in-Some.row.now.len) c.args.image.now.slots ≡ Some c.in-Some-first_ungranted.id =
    ap (λ count. first_ungranted c.args.file count c.args.image.now.slots) (sym c.blocks_of-count.ensures)
    ∙ ap (first_ungranted c.args.file c.blocks_of-count.result) (sym c.as_slice-2.ensures)
    ∙ sym c.first_ungranted.ensures
    ∙ c.in-Some-first_ungranted.is in
    close-incomplete c.args.layout.now c.args.actor c.args.file c.args.image.now c.in-Some.row.now c.in-Some-first_ungranted.id found lacks

pub returns-then-place-clause-ok : goal.returns-then-place-clause-ok
returns-then-place-clause-ok c = runs_out c.args.image.now _

made : (c : goal.After-raise_turn) → c.raise_turn.new.image ≡ next_turn (apply c.args.image.now (CloseFile c.args.file c.args.actor c.in-Some.row.now.command))
made c = c.raise_turn.ensures ∙ ap next_turn c.in_ok-close_file.ensures.ok

pub returns-clause-kept : goal.returns-clause-kept
returns-clause-kept c =
    subst IsKept (sym (made c))
    (kept-close c.args.image.now c.args.file c.args.actor c.in-Some.row.now.command c.requires.kept (omega arith))

pub returns-clause-ok : goal.returns-clause-ok
returns-clause-ok c =
    let found : unclosed_file c.args.actor c.args.file c.args.image.now.tree ≡ Some c.in-Some.row.now =
    ap (unclosed_file c.args.actor c.args.file) (sym c.as_slice.ensures) ∙ sym c.unclosed_file.ensures ∙ ap option_copied c.in-Some.is in
    let granted : first_ungranted c.args.file (block_count c.args.layout.now c.in-Some.row.now.len) c.args.image.now.slots ≡ None =
    ap (λ count. first_ungranted c.args.file count c.args.image.now.slots) (sym c.blocks_of-count.ensures)
    ∙ ap (first_ungranted c.args.file c.blocks_of-count.result) (sym c.as_slice-2.ensures)
    ∙ sym c.first_ungranted.ensures
    ∙ c.in_default-first_ungranted.is in
    close-made c.args.layout.now c.args.actor c.args.file c.args.image.now c.in-Some.row.now _ _ c.next_place-place.ensures
    found granted (made c) (returns-clause-kept c)

pub returns-clause-loads : goal.returns-clause-loads
returns-clause-loads c = c.close_file.ensures.loads ∙ sym (turned _ c.raise_turn.new.image c.raise_turn.ensures)
