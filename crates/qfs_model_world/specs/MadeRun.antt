-- What is written of a script that the program makes by itself, and runs in an order that is drawn from the same number.
use Rattle.std.specs.Prelude.{◌≡◌, ℕ, not, Bool, List, [], ◌∷◌, ◌++◌, codes, length, IsTrue}
use Rattle.std.specs.List.{list_any}
use Rattle.hex.specs.Hex.{encode_lower}
use Rattle.sha2.specs.Sha256.{sha256}
use Rattle.qfs_base.specs.declared.history.Outcome.TheVariants as Ended
use Rattle.qfs_base.specs.declared.history.Step.{Step}
use Rattle.qfs_base.specs.declared.script.Script.{Script}
use Rattle.qfs_model_script.specs.MadeScript.{made_script, made_line}
use Rattle.qfs_model_text.specs.Audit.{summary_line}
use Rattle.qfs_model_text.specs.Line.{line}
use Rattle.qfs_model_text.specs.Order.{same_outcome}
use Rattle.qfs_model_world.specs.Audit.{summary_of}
use Rattle.qfs_model_world.specs.Drawn.{is_drawn}
use Rattle.qfs_model_world.specs.Fits.{fits, is_whole}
use Rattle.qfs_model_world.specs.Text.{text}
use Rattle.qfs_model_world.specs.World.{after}

-- the digest of what the run of a made script would print
unfoldable pub digest_line : Script → List Step → List ℕ
digest_line script order = line (codes "text") (encode_lower (sha256 (text script order)) ∷ [])

-- the three lines of a made script: how long it is, the digest, and the summary
unfoldable pub made_lines : ℕ → List Step → List ℕ
made_lines number order =
    made_line number
    ++ digest_line (made_script number) order
    ++ summary_line (summary_of (after (made_script number) order) (length order))

unfoldable pub wants_memory : Step → Bool
wants_memory step = same_outcome step.outcome Ended.NoMemory

-- the three lines were written, of an order that is drawn from the same number; no step of it wants memory
pub record IsPrintedMade (number : ℕ) (order : List Step) (written : List ℕ) : Type 0 where
  pub fitting : IsTrue (fits (made_script number) order)
  pub whole : IsTrue (is_whole (made_script number) order)
  pub drawn : IsTrue (is_drawn number (made_script number) order)
  pub memory : IsTrue (not (list_any wants_memory order))
  pub lines_are : written ≡ made_lines number order
