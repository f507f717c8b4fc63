-- The commands of actors that are numbered through all phases, and the bytes that are wanted.
use Rattle.std.proofs.Common.{◌≡◌, ℕ, zero, suc, ◌+◌, ◌-◌, ◌<◌, ◌≤◌, ◌⊎◌, ⊎_elim, min, List, [], ◌∷◌, ◌++◌, length, take, drop, refl, ap, sym, ◌∙◌, arith}
use Rattle.std.proofs.Common.{Option, Some, None, slice_index_or, unwrap_or}
use Rattle.std.proofs.lemmas.Grind.{common_steps}
use Rattle.std.proofs.lemmas.List.{drop_all, drop_more, length-drop, take_at}
use Rattle.std.proofs.lemmas.List.Folds.{drop_split}
use Rattle.std.specs.List.{slice_get, slice_range}
use Rattle.std.specs.Option.{option_map}
use Rattle.qfs_base.specs.FileReplies.{wanted_bytes}
use Rattle.qfs_base.specs.declared.command.Range.{Range}
use Rattle.qfs_base.specs.declared.script.Script.{Script}
use Rattle.qfs_model_world.specs.Puts.{PutCommand, put_of, puts_of}
use Rattle.qfs_model_world.specs.World.{numbered}

-- an item of two lists, one behind the other
pub get_front : {X : Type 0} (xs ys : List X) (n : ℕ) → n < length xs
    → slice_get (xs ++ ys) n ≡ slice_get xs n
get_front [] ys n within = absurd (omega arith)
get_front (x ∷ xs) ys zero within = refl
get_front (x ∷ xs) ys (suc n) within = get_front xs ys n (omega arith)

pub get_behind : {X : Type 0} (xs ys : List X) (n : ℕ) → length xs ≤ n
    → slice_get (xs ++ ys) n ≡ slice_get ys (n - length xs)
get_behind [] ys n past = ap (slice_get ys) (let e : n ≡ n - 0 = omega arith in e)
get_behind (x ∷ xs) ys zero past = absurd (omega arith)
get_behind (x ∷ xs) ys (suc n) past =
    get_behind xs ys n (omega arith)
    ∙ ap (slice_get ys) (let e : n - length xs ≡ suc n - suc (length xs) = omega arith in e)

either : (a b : ℕ) → (a ≤ b) ⊎ (b ≤ a)
either a b = grind arith

take_all : {X : Type 0} (n : ℕ) (xs : List X) → length xs ≤ n → take n xs ≡ xs
take_all zero [] past = refl
take_all zero (x ∷ xs) past = absurd (omega arith)
take_all (suc n) [] past = refl
take_all (suc n) (x ∷ xs) past = ap (λ ys. x ∷ ys) (take_all n xs (omega arith))

-- a front, and what is behind one, are cut at the end
pub take_cut : {X : Type 0} (n : ℕ) (xs : List X) → take (min n (length xs)) xs ≡ take n xs
take_cut n xs =
    ⊎_elim (λ within. ap (λ k. take k xs) (let e : min n (length xs) ≡ n = omega arith in e))
    (λ past. ap (λ k. take k xs) (let e : min n (length xs) ≡ length xs = omega arith in e)
    ∙ take_all (length xs) xs (omega arith) ∙ sym (take_all n xs past)) (either n (length xs))

pub drop_cut : {X : Type 0} (n : ℕ) (xs : List X) → drop (min n (length xs)) xs ≡ drop n xs
drop_cut n xs =
    ⊎_elim (λ within. ap (λ k. drop k xs) (let e : min n (length xs) ≡ n = omega arith in e))
    (λ past. ap (λ k. drop k xs) (let e : min n (length xs) ≡ length xs = omega arith in e)
    ∙ drop_all (length xs) xs (omega arith) ∙ sym (drop_all n xs past)) (either n (length xs))

-- ---- actors

-- the item that was read stands before those that are left
pub drop_read : {X : Type 0} (xs : List X) (at : ℕ) (x : X) → at < length xs
    → x ≡ slice_index_or xs at x → drop at xs ≡ x ∷ drop (at + 1) xs
drop_read xs at x within read =
    drop_more xs at x within ∙ ap (λ y. y ∷ drop (at + 1) xs) (sym read)

pub numbered_is : {X : Type 0} (xs : List X) (n : ℕ) → (n ≡ 0 → ⊥)
    → numbered xs n ≡ slice_get xs (n - 1)
unfolding numbered
numbered_is xs zero some = absurd (some refl)
numbered_is xs (suc n) some = ap (slice_get xs) (let e : n ≡ suc n - 1 = omega arith in e)

-- ---- what is wanted

range_is : {X : Type 0} (xs : List X) (at n : ℕ) → at + n ≤ length xs
    → slice_range xs at (at + n) ≡ take n (drop at xs)
range_is xs at n within =
    let long : length (slice_range xs at (at + n)) ≡ n = grind (arith, common_steps) in
    sym (ap (take n) (drop_split xs at (at + n) (omega arith))
    ∙ take_at (slice_range xs at (at + n)) (drop (at + n) xs) n long)

pub span_all : {X : Type 0} (len : ℕ) (xs : List X) → length xs ≡ len
    → slice_range xs 0 (0 + len) ≡ xs
span_all len xs long = range_is xs 0 len (omega arith) ∙ take_all len xs (omega arith)

pub span_cut : {X : Type 0} (from count len : ℕ) (xs : List X) → length xs ≡ len
    → slice_range xs (min from len) (min from len + min count (len - min from len))
    ≡ take count (drop from xs)
span_cut from count len xs long =
    let cut : drop (min from len) xs ≡ drop from xs =
    ap (λ n. drop (min from n) xs) (sym long) ∙ drop_cut from xs in
    let left : len - min from len ≡ length (drop from xs) =
    (let e : len - min from len ≡ length xs - from = omega arith in e)
    ∙ sym (length-drop from xs) in
    range_is xs (min from len) (min count (len - min from len)) (omega arith)
    ∙ (λ i. take (min count (left i)) (cut i))
    ∙ take_cut count (drop from xs)

take_nil : (n : ℕ) → take {A = ℕ} n [] ≡ []
take_nil zero = refl
take_nil (suc n) = refl

drop_nil : (n : ℕ) → drop {A = ℕ} n [] ≡ []
drop_nil zero = refl
drop_nil (suc n) = refl

-- of no bytes none are wanted
pub wanted_nil : (range : Option Range) → wanted_bytes [] range ≡ []
unfolding wanted_bytes
wanted_nil None = refl
wanted_nil (Some range) =
    ap (take range.count) (drop_nil range.from) ∙ take_nil range.count

-- a command that is no put writes none
pub put_none : (script : Script) (actor number : ℕ) (range : Option Range)
    → None ≡ option_map (λ (put : PutCommand). put.bytes) (put_of script actor number)
    → wanted_bytes (puts_of script actor number) range ≡ []
unfolding puts_of
put_none script actor number range none =
    ap (λ o. wanted_bytes (unwrap_or o []) range) (sym none) ∙ wanted_nil range
