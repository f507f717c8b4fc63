use Rattle.std.proofs.Common.{◌∙◌, ap, sym, subst, arith, ℕ, ◌+◌, ◌≤◌, List, take, length, length-drop, Ok, Err}
use Rattle.qfs_model_disks.specs.Image.{image}
use Rattle.std.specs.Int.{w64}
use Rattle.qfs_record.specs.Part.{number_at}
use Rattle.qfs_checkpoint.specs.Gate.{image_size, gate_of}
use Rattle.qfs_checkpoint.specs.Reading.{ReadsImage, ReadsLog}
use Rattle.qfs_checkpoint.proofs.DiskLaws.{tail_is, no_epoch, no_size, sized, no_image, image_bad, log_bad, disk_read}
use Rattle.qfs_checkpoint.proofs.reading.read_checkpoint.Goals as goal

pub returns-then-bytes-lt-SIZE_AT : goal.returns-then-bytes-lt-SIZE_AT
returns-then-bytes-lt-SIZE_AT c = no_epoch c.args.right c.args.bytes.now (omega (arith, c.if-bytes-lt-SIZE_AT.true))

pub returns-in_default : goal.returns-in_default
returns-in_default c = no_size c.args.right c.args.bytes.now (omega (arith, c.if-bytes-lt-SIZE_AT.false)) (c.in_default.ensures ∙ ap (number_at w64) (tail_is 9 c.args.bytes.now))

pub returns-then-rest-size : goal.returns-then-rest-size
returns-then-rest-size c =
    let disk = c.args.bytes.now in
    let parts = sized disk c.in-Some.size c.in-Some.rest.now (omega (arith, c.if-bytes-lt-SIZE_AT.false)) (c.in-Some.ensures ∙ ap (number_at w64) (tail_is 9 disk)) in
    no_image c.args.right disk parts.long (omega (arith, c.if-rest-size.true, parts.number, ap length parts.bytes, length-drop 17 disk, parts.long))

pub records_behind-requires : goal.records_behind-requires
records_behind-requires c =
    let disk = c.args.bytes.now in
    let parts = sized disk c.in-Some.size c.in-Some.rest.now (omega (arith, c.if-bytes-lt-SIZE_AT.false)) (c.in-Some.ensures ∙ ap (number_at w64) (tail_is 9 disk)) in
    omega (arith, c.if-rest-size.false, ap length parts.bytes, length-drop 17 disk, parts.long)

pub returns-in_err-image : goal.returns-in_err-image
returns-in_err-image c =
    let disk = c.args.bytes.now in
    let parts = sized disk c.in-Some.size c.in-Some.rest.now (omega (arith, c.if-bytes-lt-SIZE_AT.false)) (c.in-Some.ensures ∙ ap (number_at w64) (tail_is 9 disk)) in
    let long : 17 + image_size disk ≤ length disk = omega (arith, c.if-rest-size.false, parts.number, ap length parts.bytes, length-drop 17 disk, parts.long) in
    let bytes = ap (λ n. take n c.in-Some.rest.now) parts.number ∙ ap (λ (l : List ℕ). take (image_size disk) l) parts.bytes in
    image_bad c.args.right disk c.in_err-image.field-0.0 c.from_residual.result long c.from_residual.ensures.1
    (subst (λ (l : List ℕ). ReadsImage c.args.right l (Err c.in_err-image.field-0.0)) bytes c.in_err-image.ensures)

pub returns-in_err-log : goal.returns-in_err-log
returns-in_err-log c =
    let disk = c.args.bytes.now in
    let parts = sized disk c.in-Some.size c.in-Some.rest.now (omega (arith, c.if-bytes-lt-SIZE_AT.false)) (c.in-Some.ensures ∙ ap (number_at w64) (tail_is 9 disk)) in
    let long : 17 + image_size disk ≤ length disk = omega (arith, c.if-rest-size.false, parts.number, ap length parts.bytes, length-drop 17 disk, parts.long) in
    let bytes = ap (λ n. take n c.in-Some.rest.now) parts.number ∙ ap (λ (l : List ℕ). take (image_size disk) l) parts.bytes in
    let state = c.in_ok-image.image in
    log_bad c.args.right disk state c.in_err-log.field-0.0 c.from_residual-in_err-log.result long (ap image.read (sym bytes) ∙ c.in_ok-image.ensures) c.from_residual-in_err-log.ensures.1
    (subst (λ n. ReadsLog c.args.right disk (17 + n) (Err c.in_err-log.field-0.0)) parts.number c.in_err-log.ensures)

pub returns : goal.returns
unfolding gate_of
returns c =
    let disk = c.args.bytes.now in
    let parts = sized disk c.in-Some.size c.in-Some.rest.now (omega (arith, c.if-bytes-lt-SIZE_AT.false)) (c.in-Some.ensures ∙ ap (number_at w64) (tail_is 9 disk)) in
    let long : 17 + image_size disk ≤ length disk = omega (arith, c.if-rest-size.false, parts.number, ap length parts.bytes, length-drop 17 disk, parts.long) in
    let bytes = ap (λ n. take n c.in-Some.rest.now) parts.number ∙ ap (λ (l : List ℕ). take (image_size disk) l) parts.bytes in
    let state = c.in_ok-image.image in
    let log = c.in_ok-log.log in
    let reads = subst (λ n. ReadsLog c.args.right disk (17 + n) (Ok log)) parts.number c.in_ok-log.ensures in
    (disk_read c.args.right disk state log.records.items long (ap image.read (sym bytes) ∙ c.in_ok-image.ensures) reads.0, reads.1, reads.2)
