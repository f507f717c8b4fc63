-- What the check leaves to show of `records::Records::state`.
use Rattle.std.proofs.Common.{ap, sym, ◌∙◌}
use Rattle.std.specs.Option.{option_copied}
use Rattle.std.specs.Prelude.{unwrap_or}
use Rattle.qfs_model_meta.specs.Slots.{never_granted, slot_at}
use Rattle.qfs_blocks.proofs.records.Records.state.Goals as goal

pub returns-in-Some : goal.returns-in-Some
unfolding slot_at
returns-in-Some c =
    sym (ap (λ found. unwrap_or (option_copied found) never_granted) c.in-Some.is)
    ∙ ap (λ found. unwrap_or found never_granted) c.look.ensures

pub returns-in-None : goal.returns-in-None
unfolding slot_at
returns-in-None c =
    c.never_granted.ensures
    ∙ sym (ap (λ found. unwrap_or (option_copied found) never_granted) c.in-None.is)
    ∙ ap (λ found. unwrap_or found never_granted) c.look.ensures
