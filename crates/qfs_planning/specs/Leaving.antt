-- Changes of slots that come before another change of the same plan: what they leave alone, and when
-- the change behind them may be made.
use Rattle.std.proofs.Common.{◌≡◌, ◌∙◌, List, [], ◌∷◌, ◌++◌, map, ap, refl, subst, sym}
use Rattle.qfs_base.specs.declared.change.Change.{Change}
use Rattle.qfs_base.specs.declared.image.MetaImage.{MetaImage}
use Rattle.qfs_base.specs.declared.image.SlotRow.{SlotRow}
use Rattle.qfs_base.specs.declared.image.TreeRow.{TreeRow}
use Rattle.qfs_laws_slots.specs.Losing.{IsLosing, losing-frame}
use Rattle.qfs_base.specs.declared.reply.MetaReply.{MetaReply}
use Rattle.qfs_model_meta.specs.Apply.{apply}
use Rattle.qfs_model_meta.specs.Decision.{Makes}
use Rattle.qfs_state.specs.declared.prepared.Plan.{Plan}
use Rattle.qfs_state.specs.declared.prepared.Prepared.{Prepared}
use Rattle.qfs_state.specs.Planning.{IsPlan, MayMake, MayMakeAll, change_of, changes_of}

-- a change by which a slot loses copies leaves the name tree
pub losing_tree : (m : MetaImage) (change : Change) → IsLosing change
    → (apply m change).tree ≡ m.tree
losing_tree m change losing =
    ap (λ (n : MetaImage). n.tree) (losing-frame m change losing).is

-- such a change may be made at any time
abbrev pub MayLose : Prepared → Type 0
MayLose change = ((m : MetaImage) → MayMake m change) × IsLosing (change_of change)

-- what may be made of each state with this name tree may be made behind such changes
pub lose_then : (f : SlotRow → Prepared) → ((row : SlotRow) → MayLose (f row))
    → (last : Prepared) (tree : List TreeRow)
    → ((n : MetaImage) → n.tree ≡ tree → MayMake n last)
    → (rows : List SlotRow) (m : MetaImage) → m.tree ≡ tree
    → MayMakeAll m (map f rows ++ last ∷ [])
lose_then f may last tree then [] m same = (then m same, tt)
lose_then f may last tree then (row ∷ rows) m same = (
  (may row).0 m,
  lose_then f may last tree then rows (apply m (change_of (f row)))
      (losing_tree m (change_of (f row)) (may row).1 ∙ same),
)

-- such changes and the last one behind them, as the definition has them
changes_behind : (f : SlotRow → Prepared) (g : SlotRow → Change)
    → ((row : SlotRow) → change_of (f row) ≡ g row) → (last : Prepared) (rows : List SlotRow)
    → map g rows ++ change_of last ∷ [] ≡ changes_of (map f rows ++ last ∷ [])
changes_behind f g alike last [] = refl
changes_behind f g alike last (row ∷ rows) =
    λ i. sym (alike row) i ∷ changes_behind f g alike last rows i

-- the plan of such changes and a last one
pub lose_first : (f : SlotRow → Prepared) (g : SlotRow → Change)
    → ((row : SlotRow) → change_of (f row) ≡ g row) → ((row : SlotRow) → MayLose (f row))
    → (last : Prepared) (reply : MetaReply) (rows : List SlotRow) (m : MetaImage)
    (items : List Prepared) (plan : Plan) → items ≡ map f rows
    → ((n : MetaImage) → n.tree ≡ m.tree → MayMake n last)
    → ((n : MetaImage) → MayMakeAll n (items ++ last ∷ [])
    → IsPlan n (Makes (changes_of (items ++ last ∷ [])) reply) plan)
    → IsPlan m (Makes (map g rows ++ change_of last ∷ []) reply) plan
lose_first f g alike may last reply rows m items plan is then planned =
    let made : IsPlan m (Makes (changes_of (map f rows ++ last ∷ [])) reply) plan =
    subst (λ (changes : List Prepared). MayMakeAll m (changes ++ last ∷ [])
    → IsPlan m (Makes (changes_of (changes ++ last ∷ [])) reply) plan) is (planned m)
    (lose_then f may last m.tree then rows m refl) in
    subst (λ changes. IsPlan m (Makes changes reply) plan)
    (sym (changes_behind f g alike last rows)) made
