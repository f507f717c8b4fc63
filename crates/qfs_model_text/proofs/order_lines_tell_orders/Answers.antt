use Rattle.qfs_model_text.proofs.OrderText.{lines_tell}
use Rattle.qfs_model_text.proofs.order_lines_tell_orders.Goals as goal

pub returns : goal.returns
returns c = lines_tell
