use Rattle.std.proofs.Common.{rules, ◌≡◌, ◌+◌, drop, ap, sym, ◌∙◌, None}
use Rattle.std.proofs.Math.ListN.{drop_of_length-le}
use Rattle.std.specs.Option.{option_map}
use Rattle.qfs_meta.specs.declared.census.Candidate.{Candidate}
use Rattle.qfs_meta.specs.Candidates.{best_from}
use Rattle.qfs_meta.proofs.CensusLaws.{best_from-choose}
use Rattle.qfs_meta.proofs.census.choose.Goals as goal

pub returns-clause-chosen : goal.returns-clause-chosen
returns-clause-chosen c slots others counted left =
    let copy = c.args.left_out in
    let server : c.map.result ≡ option_map (λ (x : Candidate). x.server) c.loop-at.best = search rules in
    let best : c.loop-at.best ≡ best_from copy c.args.barred None 1 c.args.servers.now c.args.loads.now =
    ap (λ servers. best_from copy c.args.barred c.loop-at.best (c.loop-at.at + 1) servers (drop c.loop-at.at c.args.loads.now)) (sym (drop_of_length-le c.args.servers.now c.loop-at-test.false))
    ∙ c.loop-at.invariant.0 in
    server
    ∙ ap (option_map (λ (x : Candidate). x.server)) best
    ∙ ap (λ loads. option_map (λ (x : Candidate). x.server) (best_from copy c.args.barred None 1 c.args.servers.now loads)) counted
    ∙ best_from-choose copy slots others left c.args.barred c.args.servers.now
