-- What the check leaves to show of `files::Files::read`.
use Rattle.std.proofs.Common.{◌≡◌, [], ap, sym, subst, ◌∙◌, IfOk}
use Rattle.std.specs.Option.{option_copied, option_map_or}
use Rattle.qfs_base.specs.FileReplies.{bytes_of_content, wanted_bytes}
use Rattle.qfs_model_world.specs.Puts.{puts_of}
use Rattle.qfs_files.specs.declared.row.FileRow.{FileRow}
use Rattle.qfs_files.specs.Rows.{content_held}
use Rattle.qfs_files.proofs.EntryLaws.{bytes_found}
use Rattle.qfs_files.proofs.PutLaws.{wanted_nil}
use Rattle.qfs_files.proofs.files.Files.read.Goals as goal

pub returns-in-Some : goal.returns-in-Some
returns-in-Some c =
    let puts = puts_of c.args.script.now in
    let found = bytes_found puts c.args.self.now c.args.names.now (option_copied c.row_at.result)
    c.row_at.ensures
    ∙ ap (λ o. option_map_or (λ (row : FileRow).
    bytes_of_content (content_held puts row.holding)) (option_copied o) []) c.in-Some.is in
    subst (λ all. IfOk c.read_held.result (λ bytes. bytes ≡ wanted_bytes all c.args.range))
    (sym found) c.read_held.ensures

pub returns-in-None : goal.returns-in-None
returns-in-None c =
    let puts = puts_of c.args.script.now in
    let found = bytes_found puts c.args.self.now c.args.names.now (option_copied c.row_at.result)
    c.row_at.ensures
    ∙ ap (λ o. option_map_or (λ (row : FileRow).
    bytes_of_content (content_held puts row.holding)) (option_copied o) []) c.in-None.is in
    c.new.ensures ∙ sym (ap (λ all. wanted_bytes all c.args.range) found ∙ wanted_nil c.args.range)
