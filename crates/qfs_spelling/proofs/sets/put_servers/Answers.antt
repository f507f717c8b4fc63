use Rattle.std.proofs.Common.{◌∙◌, ◌∷◌, ◌++◌, [], ap, append-nil, append_assoc, sym}
use Rattle.std.specs.Prelude.{flat_map}
use Rattle.std.proofs.lemmas.List.{flat_map_more}
use Rattle.qfs_model_disks.specs.Values.{from_one}
use Rattle.qfs_spelling.proofs.sets.put_servers.Goals as goal

pub loop-server-init : goal.loop-server-init
loop-server-init c = record { text = sym (append-nil _); left = c.into_iter-server-iterator.ensures.into_iter_gives ∙ c.iter-server-items.ensures }

pub loop-server-preserved : goal.loop-server-preserved
loop-server-preserved c = record {
  text =
      c.in_ok-put_u16.ensures.ok ∙ ap (λ bytes. bytes ++ from_one.text c.in-Some.server) c.loop-server.invariant.text
      ∙ flat_map_more from_one.text c.args.out.now.items c.loop-server.yielded c.in-Some.server;
  left =
      append_assoc c.loop-server.yielded (c.in-Some.server ∷ []) c.next.new.self
      ∙ ap (λ servers. c.loop-server.yielded ++ servers) (sym c.in-Some.ensures.steps) ∙ c.loop-server.invariant.left;
}

pub returns-clause-ok : goal.returns-clause-ok
returns-clause-ok c =
    let all = sym (append-nil c.loop-server.yielded) ∙ ap (λ left. c.loop-server.yielded ++ left) (sym c.in-None.ensures.steps.0) ∙ c.loop-server.invariant.left in
    c.loop-server.invariant.text ∙ ap (λ servers. c.args.out.now.items ++ flat_map from_one.text servers) all
