-- Each request is served by its own function.
use Rattle.std.proofs.Common.{refl, sym, ◌∙◌}
use Rattle.qfs_model_server.specs.Server.{without_room}
use Rattle.qfs_store.proofs.DoesLaws.{sound_after, allowed_so, done_so}
use Rattle.qfs_store.proofs.RangeLaws.{range_lies}
use Rattle.qfs_store.proofs.store.Store.carry_out.Goals as goal

pub invariant_of-self : goal.invariant_of-self
invariant_of-self g c =
    sound_after _ (without_room c.put.result) _ _ (allowed_so _ _ _ _ c.in-Put.is c.self.view_is c.requires.due) refl
    (refl, refl, c.put.ensures.fits, c.put.ensures.put) c.put.ensures.tells c.self.invariant

pub fetch-requires-clause-lies : goal.fetch-requires-clause-lies
fetch-requires-clause-lies g c κs within =
    range_lies c.in-Fetch.key c.in-Fetch.life c.in-Fetch.from c.in-Fetch.room _ c.in-Some.size (allowed_so _ _ _ _ c.in-Fetch.is c.self.view_is c.requires.due) c.self.invariant (sym c.get.ensures ∙ c.in-Some.is)

pub invariant_of-self-in-Some : goal.invariant_of-self-in-Some
invariant_of-self-in-Some g c =
    sound_after _ c.fetch.result _ _ (allowed_so _ _ _ _ c.in-Fetch.is c.self.view_is c.requires.due) refl
    (refl, (c.in-Some.size, sym c.get.ensures ∙ c.in-Some.is, c.fetch.ensures.filled)) c.fetch.ensures.tells c.self.invariant

pub invariant_of-self-in-Erase : goal.invariant_of-self-in-Erase
invariant_of-self-in-Erase g c =
    sound_after _ (without_room c.erase.result) _ _ (allowed_so _ _ _ _ c.in-Erase.is c.self.view_is c.requires.due) refl
    (refl, refl, c.erase.ensures.erased) c.erase.ensures.tells c.self.invariant

pub returns-in-Put-clause-done : goal.returns-in-Put-clause-done
returns-in-Put-clause-done g c =
    done_so _ _ _ _ _ _ c.in-Put.is c.self.view_is
    (record { stripe = refl; does = (c.new-none.ensures, refl, c.put.ensures.fits, c.put.ensures.put); counted = c.put.ensures.counted })
