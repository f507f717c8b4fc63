-- Small disks, worked out by hand.
use Rattle.std.specs.Prelude.{◌≡◌, ℕ, true, false, List, [], ◌∷◌, ◌++◌, codes, Some, replicate}
use Rattle.std.specs.Int.{w64, to_be_bytes}
use Rattle.qfs_base.specs.declared.image.MetaImage.{MetaImage}
use Rattle.qfs_base.specs.declared.request.MetaRequest.TheVariants as Ask
use Rattle.qfs_base.specs.declared.rules.Rules.{Rules}
use Rattle.qfs_base.specs.declared.history.Outcome.TheVariants as Ended
use Rattle.qfs_model_disks.specs.Image.{image}
use Rattle.qfs_model_disks.specs.LogRecord.{log_record}
use Rattle.qfs_model_disks.specs.Spelled.{spelled, found_in, bad}
use Rattle.qfs_model_meta.specs.Step.{Logged, meta_step, opening}

-- actor 1 makes the directory /d
abbrev pub makes_d : Logged
makes_d = (1, Ask.Mkdir (codes "d" ∷ []))

abbrev pub makes_d_bytes : List ℕ
makes_d_bytes = 0 ∷ 0 ∷ 0 ∷ 7 ∷ 0 ∷ 1 ∷ 1 ∷ 0 ∷ 2 ∷ 0x2f ∷ 0x64 ∷ []

abbrev pub rules : Rules
rules = record { layout = record { s = 16; r = 2 }; term = 0; tries = 1 }

-- the image of the opening metaserver of one server: its counters, the server, and six empty lists
abbrev pub opening_bytes : List ℕ
opening_bytes =
    replicate 16 0
    ++ (0 ∷ 0 ∷ 0 ∷ 1 ∷ [])
    ++ (replicate 7 0 ++ 1 ∷ [])
    ++ (replicate 7 0 ++ 1 ∷ [])
    ++ (0 ∷ 0 ∷ 0 ∷ 1 ∷ 1 ∷ 0 ∷ 0 ∷ 0 ∷ 0 ∷ 1 ∷ [])
    ++ replicate 8 0
    ++ replicate 24 0

-- a checkpoint of it in the first epoch, with this log behind it
abbrev pub first_disk : List ℕ → List ℕ
first_disk log = 1 ∷ to_be_bytes w64 1 ++ to_be_bytes w64 78 ++ opening_bytes ++ log

-- one record behind an open gate, and the gate that ends the log
abbrev pub one_record : List ℕ
one_record = 1 ∷ makes_d_bytes ++ 0 ∷ []

abbrev pub with_d : MetaImage
with_d = (meta_step rules 1 (Ask.Mkdir (codes "d" ∷ [])) Ended.Done (opening 1)).meta

pub record DisksAreSpelled : Type 0 where
  -- a request is spelled so, and read back whatever follows
  pub record_text : log_record.text makes_d ≡ makes_d_bytes
  pub record_read : log_record.read (makes_d_bytes ++ 9 ∷ []) ≡ Some (makes_d, 9 ∷ [])
  -- so is the image of the metaserver that every run begins with
  pub image_text : image.text (opening 1) ≡ opening_bytes
  pub image_read : image.read opening_bytes ≡ Some (opening 1, [])
  -- disks without a checkpoint spell the opening metaserver
  pub none : spelled rules 1 [] [] ≡ Some (opening 1)
  pub closed : spelled rules 1 (0 ∷ 5 ∷ 7 ∷ []) (1 ∷ []) ≡ Some (opening 1)
  -- a checkpoint spells its image, with the requests of its log up to the first closed gate
  pub checkpoint : spelled rules 1 (first_disk (0 ∷ [])) [] ≡ Some (opening 1)
  pub logged : spelled rules 1 (first_disk one_record) [] ≡ Some with_d
  pub tail : spelled rules 1 (first_disk (0 ∷ makes_d_bytes ++ 0 ∷ [])) [] ≡ Some (opening 1)
  -- what isn't in the grammar is bad at its offset
  pub cut_off : found_in [] (1 ∷ 5 ∷ []) ≡ bad true 1
  pub no_gate : found_in (first_disk []) [] ≡ bad false 95
  pub no_record : found_in (first_disk (1 ∷ 0 ∷ [])) [] ≡ bad false 96
