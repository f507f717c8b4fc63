use Rattle.qfs_laws_text.proofs.Audits.{plain_texts_agree, texts_agree}
use Rattle.qfs_laws_text.proofs.texts_agree.Goals as goal

pub returns : goal.returns
returns c = record { audited = texts_agree; plain = plain_texts_agree }
