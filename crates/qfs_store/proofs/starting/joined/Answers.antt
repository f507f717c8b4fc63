-- The array is filled in two parts.
use Rattle.std.proofs.Common.{◌≡◌, ℕ, List, ◌++◌, length, refl, sym, ap, ◌∙◌, arith}
use Rattle.std.proofs.lemmas.List.{take_at, take_all, length-append}
use Rattle.std.proofs.lemmas.Slice.{take-put_mid}
use borrow.Rule.Slice.PartMut.{put_mid, mid_len, same_len_mid}
use Rattle.qfs_store.proofs.starting.joined.Goals as goal

filled : (a zeros b : List ℕ) → length a ≡ 21 → length zeros ≡ 4 → length b ≡ 4 → put_mid 21 4 (a ++ zeros) b ≡ a ++ b
filled a zeros b long four more =
    let whole : length (a ++ zeros) ≡ 25 = omega (arith, length-append a zeros) in
    let same : length (put_mid 21 4 (a ++ zeros) b) ≡ length (a ++ zeros) = same_len_mid 21 4 (a ++ zeros) b (more ∙ sym (mid_len 21 25 (a ++ zeros) (omega arith))) in
    sym (take_all 25 (put_mid 21 4 (a ++ zeros) b) (omega arith))
    ∙ take-put_mid 21 4 (a ++ zeros) b 25 (omega arith) (omega arith)
    ∙ ap (λ (front : List ℕ). front ++ b) (take_at a zeros 21 long)

pub returns : goal.returns
returns c = rw (c.copy_from_slice.ensures.after, c.copy_from_slice-2.ensures.after) (filled c.args.first.now _ c.args.stripe.now c.told-first refl c.told-stripe)
