-- Commands whose puts are small, and what all puts of a script come to then.
use Rattle.std.proofs.Common.{ℕ, suc, ◌≤◌, List, [], ◌∷◌, length, Option, Some, None, arith}
use Rattle.std.specs.Prelude.{flat_map, filter_map, IfSome}
use Rattle.std.specs.List.{cons_option}
use Rattle.qfs_base.specs.EachLaws.{each_append}
use Rattle.qfs_base.specs.Table.{Each}
use Rattle.qfs_base.specs.declared.command.Command.{Command}
use Rattle.qfs_model_script.specs.InScript.{len_put}

-- ---- what holds of each

pub each_flat : {X : Type 0} (P : X → Type 0) (lists : List (List X)) → Each (Each P) lists → Each P (flat_map (λ xs. xs) lists)
each_flat P [] each = tt
each_flat P (xs ∷ lists) each = each_append P xs (flat_map (λ xs. xs) lists) each.0 (each_flat P lists each.1)

-- ---- puts

-- a put of at most so many bytes, or no put
abbrev pub IsSmall : ℕ → Command → Type 0
IsSmall most command = IfSome (len_put command) (λ len. len ≤ most)

small_lens : (most : ℕ) (len : Option ℕ) (lens : List ℕ) → IfSome len (λ len. len ≤ most) → Each (λ len. len ≤ most) lens
    → Each (λ len. len ≤ most) (cons_option len lens)
small_lens most None lens is each = each
small_lens most (Some len) lens is each = (is, each)

pub lens_small : (most : ℕ) (commands : List Command) → Each (IsSmall most) commands → Each (λ len. len ≤ most) (filter_map len_put commands)
lens_small most [] each = tt
lens_small most (command ∷ commands) each =
    small_lens most (len_put command) (filter_map len_put commands) each.0 (lens_small most commands each.1)

length-cons : (len : Option ℕ) (lens : List ℕ) (n : ℕ) → length lens ≤ n → length (cons_option len lens) ≤ suc n
length-cons None lens n short = omega (arith, short)
length-cons (Some len) lens n short = omega (arith, short)

-- no more puts than commands
pub length-lens : (commands : List Command) → length (filter_map len_put commands) ≤ length commands
length-lens [] = omega arith
length-lens (command ∷ commands) =
    length-cons (len_put command) (filter_map len_put commands) (length commands) (length-lens commands)
