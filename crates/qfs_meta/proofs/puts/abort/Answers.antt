use Rattle.std.proofs.Common.{◌≡◌, ◌<◌, ◌^◌, ◌∙◌, ap, sym, subst, arith}
use Rattle.std.specs.Option.{option_copied}
use Rattle.qfs_base.specs.declared.image.MetaImage.{MetaImage}
use Rattle.qfs_model_meta.specs.Step.{next_turn}
use Rattle.qfs_model_meta.specs.TreeRows.{unclosed_file}
use Rattle.qfs_meta.specs.Condemning.{aborting}
use Rattle.qfs_meta.specs.Kept.{IsKept}
use Rattle.qfs_meta.proofs.LoadLaws.{turned}
use Rattle.qfs_meta.proofs.KeptLaws.{kept-abort}
use Rattle.qfs_meta.proofs.PutLaws.{abort-gone, abort-made}
use Rattle.qfs_meta.proofs.StepLaws.{runs_out}
use Rattle.qfs_meta.proofs.puts.abort.Goals as goal

pub returns-in_default-clause-ok : goal.returns-in_default-clause-ok
returns-in_default-clause-ok c =
    abort-gone c.args.actor c.args.file c.args.image.now
    (ap (unclosed_file c.args.actor c.args.file) (sym c.as_slice.ensures) ∙ sym c.unclosed_file.ensures ∙ ap option_copied c.in_default.is)

pub returns-then-place-clause-ok : goal.returns-then-place-clause-ok
returns-then-place-clause-ok c = runs_out c.args.image.now _

made : (c : goal.After-raise_turn) → c.raise_turn.new.image ≡ next_turn (aborting c.args.file c.args.image.now)
made c = c.raise_turn.ensures ∙ ap next_turn c.in_ok-abort_file.ensures.ok

pub returns-clause-kept : goal.returns-clause-kept
returns-clause-kept c =
    let fits = subst (λ (n : MetaImage). n.next_condemned < 2 ^ 64) c.in_ok-abort_file.ensures.ok c.in_ok-abort_file.ensures.fits in
    subst IsKept (sym (made c)) (kept-abort c.args.image.now c.args.file c.requires.kept (omega arith) fits)

pub returns-clause-ok : goal.returns-clause-ok
returns-clause-ok c =
    abort-made c.args.actor c.args.file c.args.image.now c.in-Some._row.now _ _ c.next_place-place.ensures
    (ap (unclosed_file c.args.actor c.args.file) (sym c.as_slice.ensures) ∙ sym c.unclosed_file.ensures ∙ ap option_copied c.in-Some.is)
    c.requires.kept (made c) (returns-clause-kept c)

pub returns-clause-loads : goal.returns-clause-loads
returns-clause-loads c = c.abort_file.ensures.loads ∙ sym (turned _ c.raise_turn.new.image c.raise_turn.ensures)
