-- The audit lines: of each chunk of a closed file whether its copy is there and right, and the summary of a run.
use Rattle.std.specs.Prelude.{ℕ, Bool, true, false, List, [], ◌∷◌, ◌++◌, codes, decimal, flat_map}
use Rattle.qfs_base.specs.NameTree.{PathNames}
use Rattle.qfs_base.specs.Path.{path_text}
use Rattle.qfs_model_text.specs.Line.{line}

-- a block of a closed file, and of each of its slots whether the copy is right
pub record AuditLine : Type 0 where
  pub path : PathNames
  pub index : ℕ
  pub right : List Bool

-- how many closed files there are, directories, blocks of closed files, slots of these with a current copy, condemned
-- copies, and steps of the run
pub record Summary : Type 0 where
  pub files : ℕ
  pub dirs : ℕ
  pub blocks : ℕ
  pub copies : ℕ
  pub condemned : ℕ
  pub steps : ℕ

pub record Audit : Type 0 where
  pub lines : List AuditLine
  pub summary : Summary

-- the letter of a slot: r where its copy is right, x otherwise
unfoldable pub audit_letter : Bool → List ℕ
audit_letter true = codes "r"
audit_letter false = codes "x"

-- the line of a block
abbrev pub audit_line : AuditLine → List ℕ
audit_line a = line (codes "audit") (path_text a.path ∷ decimal a.index ∷ flat_map audit_letter a.right ∷ [])

-- the line of the summary
abbrev pub summary_line : Summary → List ℕ
summary_line s =
    line (codes "summary") (
    codes "files" ∷ decimal s.files
    ∷ codes "dirs" ∷ decimal s.dirs
    ∷ codes "blocks" ∷ decimal s.blocks
    ∷ codes "copies" ∷ decimal s.copies
    ∷ codes "condemned" ∷ decimal s.condemned
    ∷ codes "steps" ∷ decimal s.steps
    ∷ [])

-- all of them
abbrev pub audit_lines : Audit → List ℕ
audit_lines audit = flat_map audit_line audit.lines ++ summary_line audit.summary
