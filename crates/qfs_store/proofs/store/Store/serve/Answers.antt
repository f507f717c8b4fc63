-- A refusal, or what was carried out.
use Rattle.std.proofs.Common.{sym, subst, ◌∙◌}
use Rattle.qfs_store.specs.Serves.{IsLife}
use Rattle.qfs_store.specs.Stored.{Stored}
use Rattle.qfs_store.proofs.ServeLaws.{refused_serves, done_serves}
use Rattle.qfs_store.proofs.store.Store.serve.Goals as goal

pub returns-in-Some : goal.returns-in-Some
returns-in-Some g c =
    refused_serves c.args.request c.in-Some.answer c.room_of.result c.args.self.now c.life-now.result
    (subst (λ (s : Stored). IsLife c.life-now.result s.told) c.self.view_is c.life-now.ensures) (sym c.refusal.ensures ∙ c.in-Some.is) c.room_of.ensures

pub returns-in-None : goal.returns-in-None
returns-in-None g c =
    done_serves c.args.request c.carry_out.result c.args.self.now c.carry_out.new.self c.life-now.result
    (subst (λ (s : Stored). IsLife c.life-now.result s.told) c.self.view_is c.life-now.ensures) (sym c.refusal.ensures ∙ c.in-None.is)
    c.carry_out.ensures.done c.carry_out.ensures.tells
