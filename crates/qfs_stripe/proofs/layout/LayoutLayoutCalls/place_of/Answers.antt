use Rattle.std.proofs.Common.{◌≡◌, subst, sym, ap, arith, ◌*◌, ◌<◌}
use Rattle.qfs_base.specs.declared.layout.Spot.{Spot}
use Rattle.qfs_base.specs.Shape.{Shape}
use Rattle.qfs_base.specs.Layout.{offset_of}
use Rattle.qfs_stripe.proofs.Places.{offset_of_place, place_by_sizes, place_within}
use Rattle.qfs_stripe.proofs.layout.LayoutLayoutCalls.place_of.Goals as goal

pub returns-clause-value : goal.returns-clause-value
returns-clause-value c =
    place_by_sizes c.args.self.now.s c.args.self.now.r c.args.o _ _ _ _ (ap (λ (shape : Shape). shape.s) c.self.view_is)
    c.block_bytes.ensures.value c.row_bytes.ensures.value c.block_bytes-2.ensures.value

pub returns-clause-back : goal.returns-clause-back
returns-clause-back c =
    let s = c.args.self.now.s in
    let r = c.args.self.now.r in
    let some : 0 < s = omega (arith, ap (λ (shape : Shape). shape.s) c.self.view_is) in
    let rows : 0 < r = omega (arith, ap (λ (shape : Shape). shape.r) c.self.view_is) in
    subst (λ (spot : Spot). offset_of s r spot.index spot.slot spot.at ≡ c.args.o) (sym (returns-clause-value c)) (offset_of_place s r c.args.o some rows)

pub returns-clause-within : goal.returns-clause-within
returns-clause-within c =
    let s = c.args.self.now.s in
    let r = c.args.self.now.r in
    let some : 0 < s = omega (arith, ap (λ (shape : Shape). shape.s) c.self.view_is) in
    let rows : 0 < r = omega (arith, ap (λ (shape : Shape). shape.r) c.self.view_is) in
    subst (λ (spot : Spot). spot.at < s * r) (sym (returns-clause-value c)) (place_within s r c.args.o some rows)
