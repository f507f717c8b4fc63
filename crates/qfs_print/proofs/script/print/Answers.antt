use Rattle.std.proofs.Common.{◌∙◌, ap, refl, drop, length}
use Rattle.std.proofs.lemmas.List.{drop_at}
use Rattle.std.proofs.lemmas.Result.{on_ok_weaker}
use Rattle.qfs_model_grammar.specs.ReadScript.{read_script}
use Rattle.qfs_model_script.specs.ScriptText.{script_text}
use Rattle.qfs_print.proofs.script.print.Goals as goal

pub returns-clause-read_back : goal.returns-clause-read_back
returns-clause-read_back c =
    on_ok_weaker c.push_text.result
    (λ told replays is_read room.
    ap (λ text. read_script replays (drop (length c.args.out.now.items) text)) told
    ∙ ap (read_script replays)
    (drop_at c.args.out.now.items (script_text c.args.script.now) (length c.args.out.now.items) refl)
    ∙ c.printed_scripts_are_read_back.ensures replays c.args.script.now is_read room)
    c.push_text.ensures.ok
