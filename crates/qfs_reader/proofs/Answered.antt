-- What is left of a get when the metaserver has answered.
use Rattle.std.proofs.Common.{◌≡◌, refl, arith, ℕ, ◌+◌, ◌<◌, ◌≤◌, min, false, true, [], nat_lt}
use Rattle.std.proofs.lemmas.Bool.Decides.{nat_tests}
use Rattle.qfs_base.specs.Shape.{Shape}
use Rattle.qfs_base.specs.Layout.{blocks_touched}
use Rattle.qfs_base.specs.declared.command.Range.{Range}
use Rattle.qfs_base.specs.declared.command.Reply.TheVariants as Report
use Rattle.qfs_base.specs.declared.reply.MetaReply.{MetaReply}
use Rattle.qfs_base.specs.declared.reply.MetaReply.TheVariants as Said
use Rattle.qfs_base.specs.declared.reply.Opened.{Opened}
use Rattle.qfs_base.specs.declared.reply.TreeRefusal.{TreeRefusal}
use Rattle.qfs_model_actor.specs.Get.{was_opened, read_range, read_if_any, read_blocks}
use Rattle.qfs_model_actor.specs.Hold.{opened, unnamed, was_released, end_with}
use Rattle.qfs_model_actor.specs.Shown.{kept_report}
use Rattle.qfs_model_actor.specs.Tree.{refused}
use Rattle.qfs_model_actor.specs.Work.{Report, Work, ends}
use Rattle.qfs_machine.specs.Endings.{report_of_ending}
use Rattle.qfs_machine.specs.declared.ending.Ending.{Ending}
use Rattle.qfs_machine.specs.declared.ending.Ending.TheVariants as By
use Rattle.qfs_reader.specs.Rest.{rest_of_get, report_of_get}
use Rattle.qfs_reader.specs.ReaderState.{IsGetStage}
use Rattle.qfs_reader.specs.declared.stage.Get.{Get}
use Rattle.qfs_reader.specs.declared.stage.GetEnding.TheVariants as With
use Rattle.qfs_reader.specs.declared.stage.Stage.{Stage}
use Rattle.qfs_reader.specs.declared.stage.Stage.TheVariants as At

-- a get that ends as any command may
pub ended-rest : (get : Get) (stage : Stage) (ending : Ending) → stage ≡ At.Ended (With.Common ending) (kept_report (report_of_ending ending))
    → rest_of_get get stage ≡ ends (report_of_ending ending)
unfolding rest_of_get report_of_get
ended-rest get stage ending is = rw is refl

pub ended-at : (get : Get) (stage : Stage) (ending : Ending) → stage ≡ At.Ended (With.Common ending) (kept_report (report_of_ending ending))
    → IsGetStage get stage
unfolding report_of_get
ended-at get stage ending is = rw is refl

pub unnamed-rest : (get : Get) (stage : Stage) → stage ≡ At.Ended (With.Common By.Unnamed) (kept_report (report_of_ending By.Unnamed))
    → rest_of_get get stage ≡ unnamed
unfolding rest_of_get report_of_get report_of_ending
unnamed-rest get stage is = rw is refl

pub released-other : (next : Work) (answer : MetaReply) → ((place : ℕ) → answer ≡ Said.Done place → ⊥) → (answer ≡ Said.Gone → ⊥)
    → unnamed ≡ was_released next answer
unfolding was_released
released-other next (Said.Done place) a b = absurd (a place refl)
released-other next Said.Gone a b = absurd (b refl)
released-other next answer a b = refl

pub opened-other : (layout : Shape) (again : Report → Work) (range : Range) (answer : MetaReply) → ((o : Opened) → answer ≡ Said.Opened o → ⊥)
    → ((refusal : TreeRefusal) (place : ℕ) → answer ≡ Said.Refused refusal place → ⊥) → unnamed ≡ was_opened layout again range answer
unfolding was_opened refused
opened-other layout again range (Said.Opened o) a b = absurd (a o refl)
opened-other layout again range (Said.Refused refusal place) a b = absurd (b refusal place refl)
opened-other layout again range answer a b = refl

-- a range that is empty
pub range-empty : (layout : Shape) (again : Report → Work) (o : Opened) (range : Range) (to : ℕ) → to ≡ min (range.from + range.count) o.len → to ≤ range.from
    → end_with (opened o.lease) (Report.Read o.place []) ≡ read_range layout again o range
unfolding read_range read_if_any
range-empty layout again o range to is none =
    let no : nat_lt range.from (min (range.from + range.count) o.len) ≡ false = grind (arith, nat_tests, is, none) in rw no refl

-- and one that isn't
pub range-some : (layout : Shape) (again : Report → Work) (o : Opened) (range : Range) (to : ℕ) → to ≡ min (range.from + range.count) o.len → range.from < to
    → read_blocks layout again o range.from to (blocks_touched layout.s layout.r range.from to) [] ≡ read_range layout again o range
unfolding read_range read_if_any
range-some layout again o range to is some =
    let yes : nat_lt range.from (min (range.from + range.count) o.len) ≡ true = grind (arith, nat_tests, is, some) in rw (yes, ← is) refl
