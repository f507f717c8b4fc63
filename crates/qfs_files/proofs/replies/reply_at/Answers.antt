-- What the check leaves to show of `replies::reply_at`.
use Rattle.std.proofs.Common.{◌≡◌, ap, subst, ◌∙◌, length, min, take, IfOk}
use Rattle.qfs_base.specs.FileReplies.{file_reply, reply_at}
use Rattle.qfs_base.specs.Files.{files_of}
use Rattle.qfs_model_world.specs.Puts.{puts_of}
use Rattle.qfs_files.specs.Rows.{entries_from}
use Rattle.qfs_files.proofs.EntryLaws.{entries_of}
use Rattle.qfs_files.proofs.PutLaws.{take_cut}
use Rattle.qfs_files.proofs.replies.reply_at.Goals as goal

pub returns : goal.returns
unfolding reply_at
returns c =
    let puts = puts_of c.args.script.now in
    let entries = c.as_slice-entries.result.now in
    let cut = ap (λ n. take n entries) c.min-place.ensures
    ∙ ap (λ entries. take (min c.args.place (length entries)) entries) c.as_slice-entries.ensures
    ∙ take_cut c.args.place c.args.history.now in
    record {
      reply = subst (λ files. IfOk c.reply.result
          (λ reply. reply ≡ file_reply files c.args.command.now))
          (ap (entries_from puts) c.in_ok-files.ensures
          ∙ entries_of puts (take c.min-place.result entries) ∙ ap (files_of puts) cut)
          c.reply.ensures;
    }
