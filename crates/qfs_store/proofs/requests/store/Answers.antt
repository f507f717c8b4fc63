-- What the device's write leaves, where it failed.
use Rattle.std.proofs.Common.{ap, ◌∙◌}
use Rattle.qfs_base.specs.Key.{key_cmp}
use Rattle.qfs_base.specs.KeyMap.{without_key}
use Rattle.qfs_store.specs.Known.{Sizes}
use Rattle.qfs_store.proofs.PutLaws.{put_failed}
use Rattle.qfs_store.proofs.requests.store.Goals as goal

pub returns-in-Err-write-clause-put : goal.returns-in-Err-write-clause-put
returns-in-Err-write-clause-put g c =
    rw c.failed.ensures
    (put_failed c.args.key c.args.size c.args.spelled.now c.args.copies.now _ _ _ c.in-Err-write.error c.requires.absent
    (c.remove.ensures ∙ ap (λ (t : Sizes). without_key key_cmp t c.args.key) c.in-Ok.ensures.ok) c.in-Err-write.ensures.written)
