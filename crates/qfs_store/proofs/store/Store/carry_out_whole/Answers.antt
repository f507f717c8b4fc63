-- Each request that names no key is served by its own function.
use Rattle.std.proofs.Common.{refl}
use Rattle.qfs_base.specs.declared.reply.ChunkAnswer.TheVariants as Answer
use Rattle.qfs_model_server.specs.Server.{without_room}
use Rattle.qfs_store.proofs.DoesLaws.{sound_after, allowed_so}
use Rattle.qfs_store.proofs.store.Store.carry_out_whole.Goals as goal

pub invariant_of-self : goal.invariant_of-self
invariant_of-self g c =
    sound_after _ (without_room Answer.Stopped) _ _ (allowed_so _ _ _ _ c.in-Stop.is c.self.view_is c.requires.due) refl
    (refl, refl, refl) refl c.self.invariant

pub invariant_of-self-in-Start : goal.invariant_of-self-in-Start
invariant_of-self-in-Start g c = rw c.start.ensures.up
    (sound_after _ (without_room c.start.result) _ _ (allowed_so _ _ _ _ c.in-Start.is c.self.view_is c.requires.due) refl
    (refl, refl, c.start.ensures.started) c.start.ensures.tells c.self.invariant)

pub invariant_of-self-in-Wipe : goal.invariant_of-self-in-Wipe
invariant_of-self-in-Wipe g c =
    sound_after _ (without_room c.wipe.result) _ _ (allowed_so _ _ _ _ c.in-Wipe.is c.self.view_is c.requires.due) refl
    (refl, refl, c.wipe.ensures.wiped) c.wipe.ensures.tells c.self.invariant

pub invariant_of-self-in-Upgrade : goal.invariant_of-self-in-Upgrade
invariant_of-self-in-Upgrade g c =
    sound_after _ (without_room Answer.Upgraded) _ _ (allowed_so _ _ _ _ c.in-Upgrade.is c.self.view_is c.requires.due) refl
    (refl, refl, refl) refl c.self.invariant
