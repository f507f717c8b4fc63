-- Two writes in a row.
use Rattle.std.proofs.Common.{◌≡◌, ℕ, ◌+◌, ◌-◌, List, ◌++◌, length, take, drop, Option, Some, None, sym, ap, ◌∙◌, subst, append_assoc, arith, length-drop}
use Rattle.std.proofs.Math.Seq.{take-add}
use Rattle.std.proofs.lemmas.List.{take_all}
use Rattle.std.specs.Option.{option_map}
use Rattle.qfs_device.specs.Stream.{Appends}

Appends-append : (x y : List ℕ) (a b c : Option (List ℕ)) → Appends x a b → Appends y b c → Appends (x ++ y) a c
Appends-append x y None b c first second = second ∙ ap (option_map (λ before. before ++ y)) first
Appends-append x y (Some before) b c first second = second ∙ ap (option_map (λ before. before ++ y)) first ∙ ap Some (append_assoc before x y)

-- a front of the bytes was written, and then a front of the rest
pub Appends-take : (bytes : List ℕ) (done count : ℕ) (a b c : Option (List ℕ)) → Appends (take done bytes) a b
    → Appends (take count (take (length bytes - done) (drop done bytes))) b c → Appends (take (done + count) bytes) a c
Appends-take bytes done count a b c first second =
    let whole : take (length bytes - done) (drop done bytes) ≡ drop done bytes = take_all _ _ (rw length-drop (omega arith)) in
    let more : Appends (take count (drop done bytes)) b c = subst (λ rest. Appends (take count rest) b c) whole second in
    subst (λ front. Appends front a c) (sym (take-add done count bytes)) (Appends-append (take done bytes) (take count (drop done bytes)) a b c first more)
