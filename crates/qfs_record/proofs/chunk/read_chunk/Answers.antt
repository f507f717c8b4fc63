use Rattle.std.proofs.Common.{arith, sym}
use Rattle.qfs_record.proofs.ChunkLaws.{are_bytes, rest_within, chunk_found, chunk_read_is, no_chunk, head-is_part, named_same}
use Rattle.qfs_record.proofs.chunk.read_chunk.Goals as goal

pub overflow_sub-result : goal.overflow_sub-result
overflow_sub-result c = rest_within _ _ _ (are_bytes c.args.input.now (λ i. omega (arith, c.type_inv.input i))) c.in_ok-head.ensures

pub returns-in_err-head-clause-only : goal.returns-in_err-head-clause-only
returns-in_err-head-clause-only c stripe key chunk rest is parts = no_chunk c.args.input.now c.in_err-head.ensures stripe key chunk rest is parts

pub returns-then-rest-head-clause-only : goal.returns-then-rest-head-clause-only
returns-then-rest-head-clause-only c stripe key chunk rest is parts = absurd (omega (arith, (chunk_read_is c.args.input.now _ _ c.in_ok-head.ensures stripe key chunk rest is parts).0))

pub returns-clause-within : goal.returns-clause-within
returns-clause-within c =
    let within = rest_within c.args.input.now _ _ (are_bytes c.args.input.now (λ i. omega (arith, c.type_inv.input i))) c.in_ok-head.ensures in
    (omega arith, omega arith)

pub returns-clause-found : goal.returns-clause-found
returns-clause-found c = chunk_found _ _ _ (are_bytes c.args.input.now (λ i. omega (arith, c.type_inv.input i))) c.in_ok-head.ensures (omega arith)

pub returns-clause-stripe : goal.returns-clause-stripe
returns-clause-stripe c =
    let t = head-is_part.spelled c.args.input.now _ _ (are_bytes c.args.input.now (λ i. omega (arith, c.type_inv.input i))) (sym c.in_ok-head.ensures) in
    sym (named_same _ _ t.fits.named)

pub returns-clause-only : goal.returns-clause-only
returns-clause-only c stripe key chunk rest is parts = (chunk_read_is c.args.input.now _ _ c.in_ok-head.ensures stripe key chunk rest is parts).1
