use Rattle.qfs_laws_tree.specs.TreeReplies.{tree-bears-replies}
use Rattle.qfs_laws_meta.specs.FileRequests.{file-requests-write}
use Rattle.qfs_laws_meta.specs.StepParts.{drops-write, others-write-nothing}
use Rattle.qfs_laws_meta.proofs.file_requests_are_history.Goals as goal

pub returns : goal.returns
returns c =
    record {
      writes = file-requests-write;
      drops = drops-write;
      others = others-write-nothing;
      bears = tree-bears-replies;
    }
