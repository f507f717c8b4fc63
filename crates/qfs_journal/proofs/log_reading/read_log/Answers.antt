use Rattle.std.proofs.Common.{◌∙◌, ℕ, Option, Some, ap, arith, length, sym, ◌-◌}
use Rattle.qfs_model_meta.specs.Step.{Logged}
use Rattle.qfs_record.proofs.ChunkLaws.{are_bytes}
use Rattle.qfs_journal.specs.declared.log_reading.LogRead.{LogRead}
use Rattle.qfs_journal.proofs.LogLaws.{found_none, found_only, found_whole, no_body, not_counted, record_read}
use Rattle.qfs_journal.proofs.log_reading.read_log.Goals as goal

-- a record that was read, as the program answers it
abbrev some_read : Logged → ℕ → Option LogRead
some_read logged size = Some (record { actor = logged.0; request = logged.1; length = size })

pub returns-in_default-clause-read : goal.returns-in_default-clause-read
returns-in_default-clause-read c = not_counted c.args.input.now c.in_default.ensures

pub returns-in_default-clause-only : goal.returns-in_default-clause-only
returns-in_default-clause-only c logged rest is parts =
    found_none c.args.input.now (not_counted c.args.input.now c.in_default.ensures) logged rest is parts

pub returns-in_default-2-clause-read : goal.returns-in_default-2-clause-read
returns-in_default-2-clause-read c =
    no_body c.args.input.now c.in-Some.body.now c.in-Some.rest.now c.in-Some.ensures (sym c.in_default-2.is ∙ c.in_ok-actor.ensures)

pub returns-in_default-2-clause-only : goal.returns-in_default-2-clause-only
returns-in_default-2-clause-only c logged rest is parts =
    let none = no_body c.args.input.now c.in-Some.body.now c.in-Some.rest.now c.in-Some.ensures (sym c.in_default-2.is ∙ c.in_ok-actor.ensures) in
    found_none c.args.input.now none logged rest is parts

pub overflow_sub-length : goal.overflow_sub-length
overflow_sub-length c =
    let input = c.args.input.now in
    (record_read input c.in-Some.body.now c.in-Some.rest.now (c.in-Some-2.actor, c.in-Some-2.request) (are_bytes input (λ i. omega (arith, c.type_inv.input i)))
    c.in-Some.ensures (sym c.in-Some-2.is ∙ c.in_ok-actor.ensures)).0

pub returns-clause-read : goal.returns-clause-read
returns-clause-read c =
    let input = c.args.input.now in
    (record_read input c.in-Some.body.now c.in-Some.rest.now (c.in-Some-2.actor, c.in-Some-2.request) (are_bytes input (λ i. omega (arith, c.type_inv.input i)))
    c.in-Some.ensures (sym c.in-Some-2.is ∙ c.in_ok-actor.ensures)).1

pub returns-clause-found : goal.returns-clause-found
returns-clause-found c =
    let input = c.args.input.now in
    let are = are_bytes input (λ i. omega (arith, c.type_inv.input i)) in
    let read = record_read input c.in-Some.body.now c.in-Some.rest.now (c.in-Some-2.actor, c.in-Some-2.request) are c.in-Some.ensures (sym c.in-Some-2.is ∙ c.in_ok-actor.ensures) in
    found_whole input (c.in-Some-2.actor, c.in-Some-2.request) (length input - length c.in-Some.rest.now) are (omega arith) read.1

pub returns-clause-only : goal.returns-clause-only
returns-clause-only c logged rest is parts =
    let input = c.args.input.now in
    let are = are_bytes input (λ i. omega (arith, c.type_inv.input i)) in
    let size = length input - length c.in-Some.rest.now in
    let read = record_read input c.in-Some.body.now c.in-Some.rest.now (c.in-Some-2.actor, c.in-Some-2.request) are c.in-Some.ensures (sym c.in-Some-2.is ∙ c.in_ok-actor.ensures) in
    let same = found_only input (c.in-Some-2.actor, c.in-Some-2.request) size are (omega arith) read.1 logged rest is parts in
    ap (λ (it : Logged). some_read it size) same.0 ∙ ap (some_read logged) same.1
