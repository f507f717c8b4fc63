-- The world of a run was made of the script over these devices, was drawn to its end or stopped early, and was taken apart.
use Rattle.std.proofs.Common.{◌≡◌, refl, ap, ◌∙◌}
use Rattle.std.proofs.lemmas.Result.{err_from_is_err_and}
use Rattle.qfs_base.specs.declared.image.MetaImage.{MetaImage}
use Rattle.qfs_driver.proofs.DeviceLaws.{Ran, run_stays}
use Rattle.qfs_driver.proofs.Remaining.{same_stay}
use Rattle.qfs_driver.proofs.RunLaws.{run_prints, run_stops}
use Rattle.qfs_driver.specs.declared.status.Status.TheVariants as Ended
use Rattle.qfs_nodes.specs.Actors.{lines_of_actors}
use Rattle.qfs_driver.proofs.run.run.Goals as goal

pub returns-in_err-played-in-Ok-into_parts-clause-err :
    goal.returns-in_err-played-in-Ok-into_parts-clause-err
returns-in_err-played-in-Ok-into_parts-clause-err g c =
    let starts = rw c.replace-taken.ensures.value at c.in-Ok.ensures.ok in
    let p = err_from_is_err_and c.from_residual.result c.from_residual.ensures.1 in
    rw (p.1, p.2)
    (run_stops (record { enough = c.requires.enough; starts = starts; continues = c.play-played.ensures.continues; are = c.in-Ok-into_parts.ensures.devices })
    c.args.number c.in_err-played-in-Ok-into_parts.field-0.0 c.in-Ok-into_parts.ensures.after c.in_err-played-in-Ok-into_parts.ensures.err)

pub returns-in_err-played-in-Ok-into_parts-clause-places :
    goal.returns-in_err-played-in-Ok-into_parts-clause-places
returns-in_err-played-in-Ok-into_parts-clause-places g c =
    let starts = rw c.replace-taken.ensures.value at c.in-Ok.ensures.ok in
    run_stays (record { enough = c.requires.enough; starts = starts; continues = c.play-played.ensures.continues; are = c.in-Ok-into_parts.ensures.devices })

pub returns-in-Ok-text_of-clause-text : goal.returns-in-Ok-text_of-clause-text
returns-in-Ok-text_of-clause-text g c =
    let starts = rw c.replace-taken.ensures.value at c.in-Ok.ensures.ok in
    let replies : c.as_slice.result.now ≡ lines_of_actors c.play-played.new.world.actors =
    c.as_slice.ensures ∙ c.in-Ok-into_parts.ensures.replies in
    let history : c.as_slice-in-Ok-into_parts.result.now ≡ c.play-played.new.world.meta.history =
    c.as_slice-in-Ok-into_parts.ensures ∙ ap (λ (m : MetaImage). m.history) c.in-Ok-into_parts.ensures.image in
    let order = c.in-Ok-into_parts.ensures.order in
    run_prints (record { enough = c.requires.enough; starts = starts; continues = c.play-played.ensures.continues; are = c.in-Ok-into_parts.ensures.devices })
    c.args.number _ c.in_ok-played-in-Ok-into_parts.ensures.drawn c.in_ok-played-in-Ok-into_parts.ensures.ended
    c.in-Ok-into_parts.ensures.after c.requires.read
    (c.in-Ok-text_of.ensures ∙ rw (replies, history, order) refl)

pub returns-in-Ok-text_of-clause-places : goal.returns-in-Ok-text_of-clause-places
returns-in-Ok-text_of-clause-places g c =
    let starts = rw c.replace-taken.ensures.value at c.in-Ok.ensures.ok in
    run_stays (record { enough = c.requires.enough; starts = starts; continues = c.play-played.ensures.continues; are = c.in-Ok-into_parts.ensures.devices })

pub returns-in-Ok-into_parts-clause-places : goal.returns-in-Ok-into_parts-clause-places
returns-in-Ok-into_parts-clause-places g c =
    let starts = rw c.replace-taken.ensures.value at c.in-Ok.ensures.ok in
    run_stays (record { enough = c.requires.enough; starts = starts; continues = c.play-played.ensures.continues; are = c.in-Ok-into_parts.ensures.devices })

pub returns-clause-places : goal.returns-clause-places
returns-clause-places g c =
    let starts = rw c.replace-taken.ensures.value at c.in-Ok.ensures.ok in
    run_stays (record { enough = c.requires.enough; starts = starts; continues = c.play-played.ensures.continues; are = c.in-Err-into_parts.ensures.err_devices })

pub returns-in-Ok-into_parts-clause-err : goal.returns-in-Ok-into_parts-clause-err
returns-in-Ok-into_parts-clause-err g c =
    let starts = rw c.replace-taken.ensures.value at c.in-Ok.ensures.ok in
    run_stops (record { enough = c.requires.enough; starts = starts; continues = c.play-played.ensures.continues; are = c.in-Ok-into_parts.ensures.devices })
    c.args.number Ended.NoMemory c.in-Ok-into_parts.ensures.after tt

pub returns-clause-err : goal.returns-clause-err
returns-clause-err g c =
    let starts = rw c.replace-taken.ensures.value at c.in-Ok.ensures.ok in
    run_stops (record { enough = c.requires.enough; starts = starts; continues = c.play-played.ensures.continues; are = c.in-Err-into_parts.ensures.err_devices })
    c.args.number Ended.NoMemory c.in-Err-into_parts.ensures.after tt

pub returns-in-Err-clause-places : goal.returns-in-Err-clause-places
returns-in-Err-clause-places g c =
    same_stay g.D.ChunkDevice.told g.D.ChunkDevice.faults c.args.script.now.servers c.args.devices.now.items c.in-Err.error.devices.items
    (rw c.replace-taken.ensures.value at c.in-Err.ensures.err_devices)
