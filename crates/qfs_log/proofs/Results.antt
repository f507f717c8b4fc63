-- Facts under the answer of a call.
use Rattle.std.specs.Prelude.{Result, Ok, Err, OnOk, OnErr}

module _ {T E : Type 0} where
  pub on_ok : {P Q : Type 0} (r : Result T E) → OnOk r P → (P → Q) → OnOk r Q
  on_ok (Ok v) p f = f p
  on_ok (Err e) p f = tt

  pub on_ok2 : {P Q R : Type 0} (r : Result T E) → OnOk r P → OnOk r Q → (P → Q → R) → OnOk r R
  on_ok2 (Ok v) p q f = f p q
  on_ok2 (Err e) p q f = tt

  pub on_err : {P Q : Type 0} (r : Result T E) → OnErr r P → (P → Q) → OnErr r Q
  on_err (Ok v) p f = tt
  on_err (Err e) p f = f p

  pub any_err : {P : Type 0} (r : Result T E) → P → OnErr r P
  any_err (Ok v) p = tt
  any_err (Err e) p = p
