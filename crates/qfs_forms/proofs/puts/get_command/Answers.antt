use Rattle.qfs_forms.proofs.Gets.{of_range, of_no_range}
use Rattle.qfs_forms.proofs.puts.get_command.Goals as goal

pub returns-in-Ok : goal.returns-in-Ok
returns-in-Ok c =
    of_range _ _ _ _ _ _ _ c.in-Some.ensures c.in-Some-next_word.ensures c.in-Ok.ensures c.get_range.ensures

pub returns-in-Err : goal.returns-in-Err
returns-in-Err c = of_no_range _ _ _ _ _ _ c.in-Some.ensures c.in-Some-next_word.ensures c.in-Err.ensures
