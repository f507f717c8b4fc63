-- What holds of each value that a step of the grammar gives, put together as the grammar puts steps
-- together. For the law `read_texts_are_scripts`.
use Rattle.std.proofs.Common.{refl, subst}
use Rattle.std.specs.Prelude.{◌≡◌, ⊤, Bool, true, false, List, [], ◌∷◌, Option, Some, None, Result, Ok, Err, ok_or, IfOk, IfSome}
use Rattle.qfs_base.specs.Table.{Each}
use Rattle.qfs_base.specs.declared.script.ScriptCause.{ScriptCause}
use Rattle.qfs_model_grammar.specs.Said.{Said, ◌>>=◌, if_kept, read_each}

-- the second step may rest on what holds of the first one's value
pub gives : {A B E : Type 0} (P : A → Type 0) (Q : B → Type 0) (read : Result A E) (next : A
    → Result B E) → IfOk read P
    → ((value : A) → P value → IfOk (next value) Q) → IfOk (read >>= next) Q
gives P Q (Ok value) next holds behind = behind value holds
gives P Q (Err cause) next holds behind = tt

-- a value that was kept passed the test
pub gives_kept : {A : Type 0} (Q : A → Type 0) (passes : Bool) (cause : ScriptCause) (value : A)
    → (passes ≡ true → Q value)
    → IfOk (if_kept passes cause value) Q
unfolding if_kept
gives_kept Q true cause value holds = holds refl
gives_kept Q false cause value holds = tt

pub gives_some : {A : Type 0} (P : A → Type 0) (found : Option A) (cause : ScriptCause)
    → IfSome found P → IfOk (ok_or found cause) P
gives_some P (Some value) cause holds = holds
gives_some P None cause holds = tt

-- of any value nothing needs to be known
pub gives_any : {A E : Type 0} (read : Result A E) → IfOk read (λ value. ⊤)
gives_any (Ok value) = tt
gives_any (Err cause) = tt

pub gives_weaker : {A E : Type 0} (P Q : A → Type 0) (read : Result A E)
    → ((value : A) → P value → Q value) → IfOk read P → IfOk read Q
gives_weaker P Q (Ok value) weaker holds = weaker value holds
gives_weaker P Q (Err cause) weaker holds = tt

-- each of the items that were read
pub gives_each : {A B : Type 0} (P : B → Type 0) (read : A → Said B)
    → ((item : A) → IfOk (read item) P) → (items : List A)
    → IfOk (read_each read items) (Each P)
unfolding read_each
gives_each P read holds [] = tt
gives_each P read holds (item ∷ items) =
    gives P (Each P) (read item) _ (holds item)
    (λ value first. gives (Each P) (Each P) (read_each read items) _ (gives_each P read holds items)
    (λ values more. (first, more)))

-- what holds of a value that was given
pub given : {A E : Type 0} (P : A → Type 0) (read : Result A E) (value : A) → IfOk read P
    → read ≡ Ok value → P value
given P (Ok found) value holds is = let same : found ≡ value = cc in subst P same holds
given P (Err cause) value holds is = cc
