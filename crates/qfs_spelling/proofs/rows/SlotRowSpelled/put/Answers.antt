use Rattle.std.proofs.Common.{◌++◌}
use Rattle.std.specs.Int.{to_be_bytes, w8}
use Rattle.std.proofs.lemmas.Result.{on_ok_weaker}
use Rattle.qfs_record.specs.ChunkRecord.{block}
use Rattle.qfs_spelling.specs.Sets.{set_record}
use Rattle.qfs_spelling.proofs.Fronts.{before}
use Rattle.qfs_spelling.proofs.rows.SlotRowSpelled.put.Goals as goal

pub returns-clause-ok : goal.returns-clause-ok
returns-clause-ok c =
    let row = c.args.self.now in
    let all = c.put_record.new.out.items in
    let number = to_be_bytes w8 row.slot in
    on_ok_weaker c.put_record.result
    (λ e.
    before c.args.out.now.items c.put_block.new.out.items all (block.text row.block) (number ++ set_record.text row.state) c.in_ok-put_block.ensures.ok
    (before c.put_block.new.out.items c.put_u8.new.out.items all number (set_record.text row.state) c.in_ok-put_u8.ensures.ok e))
    c.put_record.ensures.ok
