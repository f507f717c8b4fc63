use Rattle.qfs_laws_first.proofs.Laws.{one-file-history, plain-replies, every-get, no-deletion}
use Rattle.qfs_laws_first.proofs.first_path_keeps_its_promises.Goals as goal

pub returns : goal.returns
returns c = record {
  history = one-file-history;
  replies = plain-replies;
  gets = every-get;
  deletion = no-deletion;
}
