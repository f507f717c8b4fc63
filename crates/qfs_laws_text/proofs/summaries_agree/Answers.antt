use Rattle.qfs_laws_text.proofs.Audits.{summary_is}
use Rattle.qfs_laws_text.proofs.summaries_agree.Goals as goal

pub returns : goal.returns
returns c = summary_is
