-- A live copy is listed, and another is forgotten.
use Rattle.std.proofs.Common.{sym, ap, ◌∙◌}
use Rattle.std.proofs.lemmas.Result.{on_ok_weaker}
use Rattle.qfs_model_meta.specs.Servers.{is_live}
use Rattle.qfs_meta.proofs.CondemnLaws.{condemn-dead, condemn-live}
use Rattle.qfs_meta.proofs.condemning.condemn.Goals as goal

pub returns-then-not-is_live-clause-ok : goal.returns-then-not-is_live-clause-ok
returns-then-not-is_live-clause-ok c =
    sym (condemn-dead c.args.id c.args.copy c.args.image.now
    (ap (λ servers. is_live servers c.args.copy) (sym c.as_slice.ensures) ∙ sym c.is_live.ensures ∙ c.if-not-is_live.true))

pub returns-clause-ok : goal.returns-clause-ok
returns-clause-ok c =
    on_ok_weaker c.condemn_copies.result
    (λ done. done ∙ sym (condemn-live c.args.id c.args.copy c.args.image.now
    (ap (λ servers. is_live servers c.args.copy) (sym c.as_slice.ensures) ∙ sym c.is_live.ensures ∙ c.if-not-is_live.false)))
    c.condemn_copies.ensures.ok
