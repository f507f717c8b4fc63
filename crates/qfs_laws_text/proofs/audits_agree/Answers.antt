use Rattle.qfs_laws_text.proofs.Audits.{audits_agree}
use Rattle.qfs_laws_text.proofs.audits_agree.Goals as goal

pub returns : goal.returns
returns c = audits_agree
