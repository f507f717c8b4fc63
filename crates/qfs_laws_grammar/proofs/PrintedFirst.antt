-- The first words of lines, as they are printed. For the law `printed_scripts_are_read_back`.
use Rattle.std.proofs.Common.{◌≡◌, refl, false, List, Some, ℕ}
use Rattle.std.specs.Prelude.{codes}
use Rattle.qfs_model_grammar.specs.FirstWord.{FirstWord}
use Rattle.qfs_model_grammar.specs.FirstWord as First
use Rattle.qfs_model_grammar.specs.FirstWords.{first_word}
use Rattle.qfs_model_grammar.specs.Lines.{begins_remark}
use Rattle.qfs_laws_grammar.proofs.PlainWords.{IsPlain, plain}
use Rattle.qfs_laws_grammar.proofs.PrintedCommands.{Spells}

spelled : (word : List ℕ) (first : FirstWord) → IsPlain word → first_word word ≡ Some first
    → begins_remark word ≡ false → Spells word first
spelled word first is found no_remark = record { plain = is; first = found; no_remark = no_remark }

pub spells_qfs : Spells (codes "qfs") First.Qfs
unfolding first_word begins_remark
spells_qfs = spelled (codes "qfs") First.Qfs (plain (codes "qfs") refl) refl refl

pub spells_layout : Spells (codes "layout") First.Layout
unfolding first_word begins_remark
spells_layout = spelled (codes "layout") First.Layout (plain (codes "layout") refl) refl refl

pub spells_servers : Spells (codes "servers") First.Servers
unfolding first_word begins_remark
spells_servers = spelled (codes "servers") First.Servers (plain (codes "servers") refl) refl refl

pub spells_term : Spells (codes "term") First.Term
unfolding first_word begins_remark
spells_term = spelled (codes "term") First.Term (plain (codes "term") refl) refl refl

pub spells_audit : Spells (codes "audit") First.Audit
unfolding first_word begins_remark
spells_audit = spelled (codes "audit") First.Audit (plain (codes "audit") refl) refl refl

pub spells_phase : Spells (codes "phase") First.Phase
unfolding first_word begins_remark
spells_phase = spelled (codes "phase") First.Phase (plain (codes "phase") refl) refl refl

pub spells_actor : Spells (codes "actor") First.Actor
unfolding first_word begins_remark
spells_actor = spelled (codes "actor") First.Actor (plain (codes "actor") refl) refl refl

pub spells_order : Spells (codes "order") First.Order
unfolding first_word begins_remark
spells_order = spelled (codes "order") First.Order (plain (codes "order") refl) refl refl
