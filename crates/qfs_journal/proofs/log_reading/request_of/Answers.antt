use Rattle.std.proofs.Common.{arith, inl, inr}
use Rattle.std.proofs.lemmas.Bool.{cases_lt}
use Rattle.qfs_journal.proofs.RequestLaws.{no_request}
use Rattle.qfs_journal.proofs.log_reading.request_of.Goals as goal

pub returns-in_default : goal.returns-in_default
returns-in_default c =
    no_request c.args.kind c.args.bytes.now
    (elim (cases_lt 25 c.args.kind) [ inl above ↦ inr above | inr low ↦ inl (omega (arith, low, c.in_default)) ])
