use Rattle.std.proofs.Common.{◌≡◌, ◌∙◌, ◌≤◌, ℕ, List, Option, Some, None, ap, arith, drop, false, length, sym, true, ◌-◌}
use Rattle.qfs_base.specs.declared.image.MetaImage.{MetaImage}
use Rattle.qfs_model_disks.specs.Image.{image}
use Rattle.qfs_record.specs.Part.{AreBytes}
use Rattle.qfs_record.proofs.ChunkLaws.{are_bytes}
use Rattle.qfs_spelling.specs.Fronts.{front_of}
use Rattle.qfs_image.specs.Kept.{set_state}
use Rattle.qfs_image.specs.Rules.{keeps_rules}
use Rattle.qfs_image.specs.declared.reading.ImageRead.{ImageRead}
use Rattle.qfs_image.proofs.ImageLaws.{found_none, found_only, found_whole, image_read, no_state, read_fits, unsound}
use Rattle.qfs_image.proofs.RowLaws.{rules_are}
use Rattle.qfs_image.proofs.reading.read_image.Goals as goal

-- an image that was read, as the program answers it
abbrev some_read : MetaImage → ℕ → Option ImageRead
some_read state size = Some (record { image = state; length = size })

-- a state that was read and breaks a rule, and one that keeps them
breaks : (input : List ℕ) (m : MetaImage) (rest : List ℕ) → AreBytes input → Some (m, rest) ≡ set_state.read input → false ≡ keeps_rules m → None ≡ image.read input
breaks input m rest are read off = unsound input m rest are read (off ∙ sym (rules_are m (read_fits input m rest are read)))

keeps : (input : List ℕ) (m : MetaImage) (rest : List ℕ) → AreBytes input → Some (m, rest) ≡ set_state.read input → true ≡ keeps_rules m
    → (length rest ≤ length input) × (Some (m, drop (length input - length rest) input) ≡ image.read input)
keeps input m rest are read sound = image_read input m rest are read (sound ∙ sym (rules_are m (read_fits input m rest are read)))

pub returns-in_default-clause-read : goal.returns-in_default-clause-read
returns-in_default-clause-read c =
    let input = c.args.input.now in
    no_state input (are_bytes input (λ i. omega (arith, c.type_inv.input i))) (ap front_of (sym c.in_default.is) ∙ c.in_ok-image.ensures)

pub returns-in_default-clause-only : goal.returns-in_default-clause-only
returns-in_default-clause-only c state rest is parts =
    let input = c.args.input.now in
    let none = no_state input (are_bytes input (λ i. omega (arith, c.type_inv.input i))) (ap front_of (sym c.in_default.is) ∙ c.in_ok-image.ensures) in
    found_none input none state rest is parts

pub returns-then-not-sound-clause-read : goal.returns-then-not-sound-clause-read
returns-then-not-sound-clause-read c =
    let input = c.args.input.now in
    breaks input c.in-Some.image c.in-Some.rest.now (are_bytes input (λ i. omega (arith, c.type_inv.input i)))
    (ap front_of (sym c.in-Some.is) ∙ c.in_ok-image.ensures) (sym c.if-not-sound.true ∙ c.in_ok-sound.ensures)

pub returns-then-not-sound-clause-only : goal.returns-then-not-sound-clause-only
returns-then-not-sound-clause-only c state rest is parts =
    let input = c.args.input.now in
    let none = breaks input c.in-Some.image c.in-Some.rest.now (are_bytes input (λ i. omega (arith, c.type_inv.input i)))
    (ap front_of (sym c.in-Some.is) ∙ c.in_ok-image.ensures) (sym c.if-not-sound.true ∙ c.in_ok-sound.ensures) in
    found_none input none state rest is parts

pub overflow_sub-length : goal.overflow_sub-length
overflow_sub-length c =
    let input = c.args.input.now in
    (keeps input c.in-Some.image c.in-Some.rest.now (are_bytes input (λ i. omega (arith, c.type_inv.input i)))
    (ap front_of (sym c.in-Some.is) ∙ c.in_ok-image.ensures) (sym c.if-not-sound.false ∙ c.in_ok-sound.ensures)).0

pub returns-clause-read : goal.returns-clause-read
returns-clause-read c =
    let input = c.args.input.now in
    (keeps input c.in-Some.image c.in-Some.rest.now (are_bytes input (λ i. omega (arith, c.type_inv.input i)))
    (ap front_of (sym c.in-Some.is) ∙ c.in_ok-image.ensures) (sym c.if-not-sound.false ∙ c.in_ok-sound.ensures)).1

pub returns-clause-found : goal.returns-clause-found
returns-clause-found c =
    let input = c.args.input.now in
    let are = are_bytes input (λ i. omega (arith, c.type_inv.input i)) in
    let read = keeps input c.in-Some.image c.in-Some.rest.now are (ap front_of (sym c.in-Some.is) ∙ c.in_ok-image.ensures) (sym c.if-not-sound.false ∙ c.in_ok-sound.ensures) in
    found_whole input c.in-Some.image (length input - length c.in-Some.rest.now) are (omega arith) read.1

pub returns-clause-only : goal.returns-clause-only
returns-clause-only c state rest is parts =
    let input = c.args.input.now in
    let are = are_bytes input (λ i. omega (arith, c.type_inv.input i)) in
    let size = length input - length c.in-Some.rest.now in
    let read = keeps input c.in-Some.image c.in-Some.rest.now are (ap front_of (sym c.in-Some.is) ∙ c.in_ok-image.ensures) (sym c.if-not-sound.false ∙ c.in_ok-sound.ensures) in
    let same = found_only input c.in-Some.image size are (omega arith) read.1 state rest is parts in
    ap (λ (it : MetaImage). some_read it size) same.0 ∙ ap (some_read state) same.1
