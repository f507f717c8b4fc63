use Rattle.std.proofs.Common.{List, ℕ, [], ◌∷◌, ◌++◌, ◌∙◌, sym, ap, map, flat_map, append_assoc}
use Rattle.std.specs.List.{range_with_len}
use Rattle.qfs_base.specs.Mask.{has_slot}
use Rattle.qfs_model_text.specs.Audit.{audit_letter}
use Rattle.qfs_report.proofs.AuditSteps.{letters_more}
use Rattle.qfs_report.proofs.audit.push_letters.Goals as goal

pub loop-slot-preserved : goal.loop-slot-preserved
loop-slot-preserved c =
    let start = c.args.out.now.items in
    let so_far : List ℕ = flat_map audit_letter
    (map (has_slot c.args.live) (range_with_len 0 c.loop-slot.slot)) in
    c.in_ok-push.ensures.items
    ∙ ap (λ text. text ++ c.letter.result ∷ []) c.loop-slot.invariant
    ∙ append_assoc start so_far (c.letter.result ∷ [])
    ∙ ap (λ last. start ++ (so_far ++ last))
    (c.letter.ensures ∙ ap audit_letter c.contains.ensures.member)
    ∙ ap (λ text. start ++ text) (sym (letters_more c.args.live c.loop-slot.slot))
