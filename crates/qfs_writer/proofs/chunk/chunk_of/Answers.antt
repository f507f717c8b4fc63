use Rattle.std.proofs.Common.{◌≡◌, ◌∙◌, ◌*◌, ap, length, arith, rules}
use Rattle.std.proofs.lemmas.Grind.{common_steps}
use Rattle.qfs_base.specs.Recipe.{bytes_of}
use Rattle.qfs_base.specs.Shape.{Shape}
use Rattle.qfs_writer.proofs.Stripes.{data_byte-slot, parity-slot, slot_of-each}
use Rattle.qfs_writer.proofs.chunk.chunk_of.Goals as goal
use Rattle.qfs_writer.proofs.chunk.chunk_of.Goals.{then-slot-lt-DATA_SLOTS, else-slot-lt-DATA_SLOTS+in_ok-six}

pub returns-clause-value : goal.returns-clause-value
returns-clause-value c =
    let es : c.layout.inside.s ≡ c.args.layout.now.s = ap (λ (shape : Shape). shape.s) c.layout.view_is in
    let rows = rw c.len.ensures.value at c.rows_of-rows.ensures in
    let room : length c.in_ok-chunk.chunk.items ≡ c.rows_of-rows.result * c.args.layout.now.s = rw (← es) (first_of (search (rules, common_steps), grind (arith, common_steps))) in
    c.from_vec.ensures
    ∙ elim c.if-slot-lt-DATA_SLOTS.branch [
      | then-slot-lt-DATA_SLOTS w ↦
          let long : length w.fill_data.new.out ≡ c.rows_of-rows.result * c.args.layout.now.s = first_of (omega arith, grind (arith, common_steps)) in
          let same : c.if-slot-lt-DATA_SLOTS.chunk.items ≡ w.fill_data.new.out = rw w.chunk-is (first_of (search (rules, common_steps), grind (arith, common_steps))) in
          rw same
          (slot_of-each c.args.layout.now (bytes_of c.args.recipe.now) w.fill_data.new.out c.args.index c.args.slot c.rows_of-rows.result rows long
          (λ a inside. w.fill_data.ensures a inside ∙ data_byte-slot c.args.layout.now (bytes_of c.args.recipe.now) c.args.index c.args.slot a w.if-slot-lt-DATA_SLOTS.true))
      | else-slot-lt-DATA_SLOTS+in_ok-six w ↦
          let long : length w.fill_parity.new.out ≡ c.rows_of-rows.result * c.args.layout.now.s = first_of (omega arith, grind (arith, common_steps)) in
          let same : c.if-slot-lt-DATA_SLOTS.chunk.items ≡ w.fill_parity.new.out = rw w.chunk-is (first_of (search (rules, common_steps), grind (arith, common_steps))) in
          rw same
          (slot_of-each c.args.layout.now (bytes_of c.args.recipe.now) w.fill_parity.new.out c.args.index c.args.slot c.rows_of-rows.result rows long
          (λ a inside. w.fill_parity.ensures a inside ∙ parity-slot c.args.layout.now (bytes_of c.args.recipe.now) c.args.index c.args.slot a w.if-slot-lt-DATA_SLOTS.false))
    ]
