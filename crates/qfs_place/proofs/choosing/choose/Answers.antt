use Rattle.std.proofs.Common.{rules, ◌≡◌, length, ap, subst, sym, ◌∙◌}
use Rattle.std.specs.Option.{option_map}
use Rattle.std.specs.Prelude.{IfSome}
use Rattle.qfs_model_meta.specs.Grammar.{IsServer}
use Rattle.qfs_model_meta.specs.Placing.{Numbered, choose}
use Rattle.qfs_place.proofs.ChoiceLaws.{chosen_number}
use Rattle.qfs_place.proofs.choosing.choose.Goals as goal

pub returns-clause-chosen : goal.returns-clause-chosen
unfolding choose
returns-clause-chosen c =
    let number : c.map.result ≡ option_map (λ (s : Numbered). s.0) c.lightest.result =
    search rules in
    number ∙ ap (option_map (λ (s : Numbered). s.0)) c.lightest.ensures

pub returns-clause-number : goal.returns-clause-number
returns-clause-number c =
    subst (λ chosen. IfSome chosen (IsServer (length c.args.census.now)))
    (sym (returns-clause-chosen c)) (chosen_number c.args.census.now c.args.barred.now)
