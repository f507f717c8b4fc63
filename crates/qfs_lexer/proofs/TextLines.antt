-- Lines that are text.
use Rattle.std.proofs.Common.{◌≡◌, ◌∙◌, sym, refl, ℕ, ◌≤◌, Bool, true, false, List, []}
use Rattle.std.specs.Prelude.{All, IsTrue, ◌↔◌}
use Rattle.std.specs.Bool.{Decides}
use Rattle.std.specs.List.{list_all}
use Rattle.std.proofs.lemmas.Bool.{leb-true, le-leb, and_parts, and_from, false_from_ne_true}
use Rattle.std.proofs.lemmas.Bool.Decides.{Decides-by_and}
use Rattle.qfs_model_grammar.specs.Lines.{is_text, is_text_byte}
use Rattle.qfs_lexer.specs.Left.{IsTextByte}

byte-Decides : (byte : ℕ) → Decides (is_text_byte byte) (IsTextByte byte)
byte-Decides byte = (
  λ tested. let parts = and_parts _ _ tested in (leb-true _ _ parts.0, leb-true _ _ parts.1),
  λ is. and_from _ _ (le-leb _ _ is.0) (le-leb _ _ is.1),
)

bytes-Decide : (line : List ℕ) → Decides (list_all is_text_byte line) (All IsTextByte line)
bytes-Decide = Decides-by_and is_text_byte IsTextByte (list_all is_text_byte) byte-Decides refl (λ _ _. refl)

same_tests : (a b : Bool) → (a ≡ true → b ≡ true) → (b ≡ true → a ≡ true) → a ≡ b
same_tests true b there back = sym (there refl)
same_tests false true there back = cc (back refl)
same_tests false false there back = refl

pub is_text_line : (found : Bool) (line : List ℕ) → IsTrue found ↔ All IsTextByte line → found ≡ is_text line
unfolding is_text
is_text_line found line is =
    same_tests found (list_all is_text_byte line) (λ yes. (bytes-Decide line).1 (is.0 yes)) (λ yes. is.1 ((bytes-Decide line).0 yes))
