use Rattle.std.proofs.Common.{◌∙◌, ap, sym}
use Rattle.qfs_spelling.proofs.PathLaws.{no_path, path_read, with_rest}
use Rattle.qfs_spelling.proofs.values.path_at.Goals as goal

pub returns-in_default : goal.returns-in_default
returns-in_default c = no_path c.args.bytes.now c.in_default.ensures

pub returns-in_default-2 : goal.returns-in_default-2
returns-in_default-2 c =
    sym (ap (with_rest c.in-Some.rest.now) c.in_default-2.is)
    ∙ path_read c.args.bytes.now c.in-Some.text.now c.in-Some.rest.now c.in_ok-found.field-0 c.in-Some.ensures c.in_ok-found.ensures.found c.in_ok-found.ensures.only

pub returns : goal.returns
returns c =
    sym (ap (with_rest c.in-Some.rest.now) c.in-Some-2.is)
    ∙ path_read c.args.bytes.now c.in-Some.text.now c.in-Some.rest.now c.in_ok-found.field-0 c.in-Some.ensures c.in_ok-found.ensures.found c.in_ok-found.ensures.only
