-- One step of each loop of the audit: a letter, a block or a run more.
use Rattle.std.proofs.Common.{◌≡◌, ℕ, ◌+◌, ◌<◌, ◌≤◌, arith, drop, get_or, List, [], ◌∷◌, ◌++◌, Some, None, length, map, flat_map, refl, sym, ap, subst, ◌∙◌, count_by, append_assoc, length-append}
use Rattle.std.proofs.lemmas.Grind.{flat_map-append}
use Rattle.std.proofs.lemmas.List.{length-replicate, at_drop_all, at_drop_more}
use Rattle.std.proofs.lemmas.List.Sums.{length-filter, count_by-le-length}
use Rattle.std.proofs.lemmas.List.FromFn.{map-range_with_len_more}
use Rattle.std.specs.List.{range_with_len}
use Rattle.std.specs.Ordering.{nat_cmp}
use Rattle.qfs_base.specs.KeyMap.{value_at}
use Rattle.qfs_base.specs.NameTree.{PathNames}
use Rattle.qfs_base.specs.declared.chunk.BlockId.{BlockId}
use Rattle.qfs_base.specs.Mask.{IsMask, all_slots, has_slot, slots_that}
use Rattle.qfs_base.specs.Order.{all_steps, run_steps, steps_of_runs}
use Rattle.qfs_base.specs.declared.history.Step.{Step}
use Rattle.qfs_base.specs.declared.order.StepRun.{StepRun}
use Rattle.qfs_model_text.specs.Audit.{audit_letter, audit_line}
use Rattle.qfs_model_text.specs.Line.{more_words, spaced}
use Rattle.qfs_report.specs.AuditTables.{lines_of, line_if}
use Rattle.qfs_report.specs.declared.held.Held.{Held}

pub letters_more : (live : List ℕ) (slot : ℕ)
    → flat_map audit_letter (map (has_slot live) (range_with_len 0 (slot + 1)))
    ≡ flat_map audit_letter (map (has_slot live) (range_with_len 0 slot))
    ++ audit_letter (has_slot live slot)
letters_more live slot =
    ap (flat_map audit_letter) (map-range_with_len_more (has_slot live) 0 slot slot (omega arith))
    ∙ flat_map-append audit_letter (map (has_slot live) (range_with_len 0 slot))
    (has_slot live slot ∷ [])
    ∙ ap (λ last. flat_map audit_letter (map (has_slot live) (range_with_len 0 slot)) ++ last)
    (append_nil (audit_letter (has_slot live slot)))
  where
    append_nil : (xs : List ℕ) → xs ++ [] ≡ xs
    append_nil [] = refl
    append_nil (x ∷ xs) = ap (λ rest. x ∷ rest) (append_nil xs)

run_counted : (run : StepRun) (runs : List StepRun) → length (steps_of_runs (run ∷ runs))
    ≡ run.count + length (steps_of_runs runs)
unfolding steps_of_runs
run_counted run runs =
    length-append (run_steps run) (steps_of_runs runs)
    ∙ ap (λ n. n + length (steps_of_runs runs)) (length-replicate run.count run.step)

-- the steps of the run at an index, and of those behind it
pub counted_more : (runs : List StepRun) (i : ℕ) (default : StepRun) → i < length runs
    → length (steps_of_runs (drop i runs))
    ≡ (get_or runs i default).count + length (steps_of_runs (drop (i + 1) runs))
counted_more runs i default inside =
    at_drop_more (λ left. length (steps_of_runs left)) runs i default inside
    ∙ run_counted (get_or runs i default) (drop (i + 1) runs)

-- behind all runs none is left
pub none_left : (runs : List StepRun) (i : ℕ) → length runs ≤ i
    → length (steps_of_runs (drop i runs)) ≡ 0
unfolding steps_of_runs
none_left runs i past = at_drop_all (λ left. length (steps_of_runs left)) runs i past

-- all steps of an order, by its last one
pub with_last : (runs : List StepRun) (step : Step) → length (all_steps runs (Some step))
    ≡ length (steps_of_runs runs) + 1
with_last runs step = length-append (steps_of_runs runs) (step ∷ [])

pub without_last : (runs : List StepRun) → length (all_steps runs None)
    ≡ length (steps_of_runs runs)
without_last runs = length-append (steps_of_runs runs) [] ∙ omega arith

-- a set of slots counts those of a block that it has, so it has at most nine
pub mask_count : (slots : List ℕ) → IsMask slots → length slots
    ≡ count_by (has_slot slots) all_slots
unfolding slots_that
mask_count slots mask = ap length (sym mask.rising) ∙ length-filter (has_slot slots) all_slots

pub mask_few : (slots : List ℕ) → IsMask slots → length slots ≤ 9
mask_few slots mask = subst (λ n. n ≤ 9) (sym (mask_count slots mask))
    (count_by-le-length (has_slot slots) all_slots)

-- three counts behind a text
pub three_counts : (out first second third a m b n c o : List ℕ)
    → first ≡ out ++ more_words (a ∷ m ∷ []) → second ≡ first ++ more_words (b ∷ n ∷ []) → third
    ≡ second ++ more_words (c ∷ o ∷ [])
    → third ≡ out ++ more_words (a ∷ m ∷ b ∷ n ∷ c ∷ o ∷ [])
three_counts out first second third a m b n c o is-first is-second is-third =
    is-third
    ∙ ap (λ text. text ++ more_words (c ∷ o ∷ []))
    (is-second ∙ ap (λ text. text ++ more_words (b ∷ n ∷ [])) is-first
    ∙ append_assoc out (more_words (a ∷ m ∷ [])) (more_words (b ∷ n ∷ [])))
    ∙ append_assoc out (more_words (a ∷ m ∷ []) ++ more_words (b ∷ n ∷ []))
    (more_words (c ∷ o ∷ []))
    ∙ ap (λ text. out ++ text)
    (ap (λ text. text ++ more_words (c ∷ o ∷ []))
    (sym (flat_map-append spaced (a ∷ m ∷ []) (b ∷ n ∷ [])))
    ∙ sym (flat_map-append spaced (a ∷ m ∷ b ∷ n ∷ []) (c ∷ o ∷ [])))

-- a block more whose file is closed
pub line_more : (files : List (ℕ × PathNames)) (left rest : List (BlockId × Held)) (block : BlockId)
    (held : Held) (path : PathNames) (out now : List ℕ)
    → left ≡ (block, held) ∷ rest → value_at nat_cmp files block.file ≡ Some path
    → now ≡ out ++ audit_line (record
    { path = path; index = block.index; right = map (has_slot held.live) all_slots })
    → now ++ flat_map audit_line (lines_of files rest) ≡ out
    ++ flat_map audit_line (lines_of files left)
unfolding lines_of line_if
line_more files left rest block held path out now is found told =
    rw (is, found)
    (ap (λ text. text ++ flat_map audit_line (lines_of files rest)) told
    ∙ append_assoc out (audit_line (record
    { path = path; index = block.index; right = map (has_slot held.live) all_slots }))
    (flat_map audit_line (lines_of files rest)))
