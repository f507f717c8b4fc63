use Rattle.std.proofs.Common.{◌∙◌, ap, sym, arith, drop}
use Rattle.std.specs.Option.{option_map}
use Rattle.qfs_image.specs.declared.reading.ImageRead.{ImageRead}
use Rattle.qfs_checkpoint.proofs.DiskLaws.{image_none, image_short, image_whole}
use Rattle.qfs_checkpoint.proofs.reading.image_of.Goals as goal

pub returns-in_default : goal.returns-in_default
returns-in_default c = λ size disk.
    let bytes = c.args.bytes.now in
    image_none c.args.right bytes (ap (λ f. option_map (λ (it : ImageRead). (it.image, drop it.length bytes)) f) (sym c.in_default.is) ∙ c.in_ok-read.ensures.read) size disk

pub returns-then-read-bytes : goal.returns-then-read-bytes
returns-then-read-bytes c = λ size disk.
    let bytes = c.args.bytes.now in
    let read = c.in-Some.read in
    image_short c.args.right bytes read.image read.length (omega (arith, c.if-read-bytes.true))
    (ap (λ f. option_map (λ (it : ImageRead). (it.image, drop it.length bytes)) f) (sym c.in-Some.is) ∙ c.in_ok-read.ensures.read) size disk

pub returns : goal.returns
returns c =
    let bytes = c.args.bytes.now in
    let read = c.in-Some.read in
    image_whole bytes read.image read.length (omega (arith, c.if-read-bytes.false))
    (ap (λ f. option_map (λ (it : ImageRead). (it.image, drop it.length bytes)) f) (sym c.in-Some.is) ∙ c.in_ok-read.ensures.read)
