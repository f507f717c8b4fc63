-- What is kept of the report of a machine that has ended.
use Rattle.std.specs.Prelude.{◌≡◌, ⊤}
use Rattle.qfs_base.specs.declared.command.Excerpt.{Excerpt}
use Rattle.qfs_base.specs.declared.command.Reply.{Reply}
use Rattle.qfs_model_actor.specs.Shown.{kept_report}
use Rattle.qfs_model_actor.specs.Work.{Work, ends, asks}

-- work that has ended leaves this reply
abbrev pub Reports : Work → Reply Excerpt → Type 0
Reports (ends report) reply = reply ≡ kept_report report
Reports (asks request next) reply = ⊤
